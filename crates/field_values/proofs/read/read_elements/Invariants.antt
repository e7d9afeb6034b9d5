use Rattle.std.proofs.Common.{◌≡◌, ◌++◌, map, drop}
use Rattle.std.specs.List.{AllByRecursion}
use Rattle.serde_json.specs.View.{view}
use Rattle.field_values.specs.Results.{result_map, each_or_first_error}
use Rattle.field_values.specs.Reading.{single_of}
use Rattle.record_model.specs.ValueForms.{IsElement}
use Rattle.field_values.proofs.read.read_elements.Given as goal

abbrev pub invariant-loop-item : goal.invariant-loop-item
invariant-loop-item l =
    let read = single_of l.here l.caller l.kind in
    record {
      so_far : each_or_first_error read (map view l.items) ≡ result_map (λ rest. l.values.items ++ rest) (each_or_first_error read (map view (drop l.item-index l.items)));
      meant : AllByRecursion (IsElement l.kind) l.values.items;
    }
