use Rattle.std.proofs.Common.{rules, ◌≡◌, None}
use Rattle.serde_json.specs.View.{view}
use Rattle.field_values.specs.ZoneIds.{zone_data, IsMeantZone}
use Rattle.wire_calls.specs.declared.thing.Thing.TheVariants.{Zone}
use Rattle.wire_calls.specs.Found.{IsGoneOf, IsFailedOf, IsThere}
use Rattle.wire_calls.proofs.EntryLemmas.{none_is}
use Rattle.wire_calls.proofs.ZoneEntryLemmas.{no_zone}
use Rattle.wire_calls.proofs.zone_entries.read_zone.Goals as goal

pub returns-in-None : goal.returns-in-None
returns-in-None c =
    let d = view c.args.json.now in
    let caller = c.args.caller.now in
    let not_there : c.in_ok-there.field-0 ≡ None = search rules in
    let not_gone : c.in_ok-gone.field-0 ≡ None = search rules in
    let not_failed : c.in_ok-error.field-0 ≡ None = search rules in
    no_zone caller d (none_is (IsThere caller d) c.in_ok-there.field-0 c.in_ok-there.ensures not_there)
    (none_is (IsGoneOf Zone (IsMeantZone caller) zone_data d) c.in_ok-gone.field-0 c.in_ok-gone.ensures not_gone)
    (none_is (IsFailedOf Zone (IsMeantZone caller) zone_data d) c.in_ok-error.field-0 c.in_ok-error.ensures not_failed)
