use Rattle.wire_calls.proofs.ZoneEntryLemmas.{zone_lists_one}
use Rattle.wire_calls.proofs.laws.zone_lists_are_one.Goals as goal

pub returns : goal.returns
returns c = zone_lists_one
