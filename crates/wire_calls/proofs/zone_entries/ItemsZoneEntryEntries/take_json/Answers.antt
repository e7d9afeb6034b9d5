use Rattle.serde_json.specs.View.{view}
use Rattle.wire_calls.specs.ZoneEntries.{zone_entry_data}
use Rattle.wire_calls.proofs.ListTextLemmas.{taken}
use Rattle.wire_calls.proofs.ZoneEntryLemmas.{zone_made_whole}
use Rattle.wire_calls.proofs.zone_entries.ItemsZoneEntryEntries.take_json.Goals as goal

pub returns-clause-json : goal.returns-clause-json
returns-clause-json c =
    taken view zone_entry_data c.args.self.now c.remove-entry.new.self c.remove-entry.result c.zone_entry_json.result c.remove-entry.ensures.item c.remove-entry.ensures.rest c.zone_entry_json.ensures

pub returns-clause-whole : goal.returns-clause-whole
returns-clause-whole c = zone_made_whole view c.remove-entry.result c.zone_entry_json.result c.zone_entry_json.ensures
