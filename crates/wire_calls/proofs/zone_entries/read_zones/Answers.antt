use Rattle.serde_json.specs.View.{view}
use Rattle.wire_calls.proofs.ZoneEntryLemmas.{only_zones}
use Rattle.wire_calls.proofs.zone_entries.read_zones.Goals as goal

pub returns-clause-only : goal.returns-clause-only
returns-clause-only c entries is = only_zones c.args.caller.now c.args.asked.now (view c.args.json.now) entries is c.read_listed.result c.read_listed.ensures
