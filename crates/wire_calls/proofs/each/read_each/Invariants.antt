use Rattle.std.proofs.Common.{◌≡◌, ◌++◌, map, drop}
use Rattle.std.specs.Prelude.{ok_or}
use Rattle.std.specs.List.{AllByRecursion}
use Rattle.serde_json.specs.View.{view}
use Rattle.field_values.specs.Results.{result_map, each_or_first_error}
use Rattle.wire_calls.specs.declared.fault.BadCall.TheVariants.{BadKey}
use Rattle.wire_calls.proofs.each.read_each.Given as goal

abbrev pub invariant-loop-item : goal.invariant-loop-item
invariant-loop-item g l = record {
  so_far : each_or_first_error (λ d. ok_or (g.E.Element.item_in l.element d) (BadKey l.key)) (map view l.items)
      ≡ result_map (λ rest. l.list.items ++ rest) (each_or_first_error (λ d. ok_or (g.E.Element.item_in l.element d) (BadKey l.key)) (map view (drop l.item-index l.items)));
  meant : AllByRecursion (g.E.Element.is_meant l.element) l.list.items;
}
