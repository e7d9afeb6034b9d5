use Rattle.std.proofs.Common.{◌≡◌, ◌++◌, map, drop}
use Rattle.std.specs.List.{AllByRecursion}
use Rattle.serde_json.specs.View.{view}
use Rattle.field_values.specs.Results.{result_map}
use Rattle.ck_records.specs.Participants.{entries_of}
use Rattle.record_model.specs.DraftForms.{IsWanted}
use Rattle.ck_records.proofs.participants.read_entries.Given as goal

abbrev pub invariant-loop-item : goal.invariant-loop-item
invariant-loop-item l = record {
  so_far : entries_of (map view l.items) ≡ result_map (λ rest. l.list.items ++ rest) (entries_of (map view (drop l.item-index l.items)));
  meant : AllByRecursion IsWanted l.list.items;
}
