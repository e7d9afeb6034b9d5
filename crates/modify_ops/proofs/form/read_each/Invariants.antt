use Rattle.std.proofs.Common.{◌≡◌, ◌++◌, length, map, take, drop}
use Rattle.std.specs.List.{AllByRecursion}
use Rattle.serde_json.specs.View.{view}
use Rattle.field_values.specs.Results.{result_map}
use Rattle.modify_ops.specs.Forms.{ops_from}
use Rattle.zone_model.specs.OpForms.{IsMeantOp}
use Rattle.modify_ops.proofs.form.read_each.Given as goal

abbrev pub invariant-loop-item : goal.invariant-loop-item
invariant-loop-item l = record {
  place : l.place ≡ l.item-index;
  count : length l.ops.items ≡ length (take l.item-index l.items);
  so_far : ops_from l.here l.caller 0 (map view l.items) ≡ result_map (λ ops. l.ops.items ++ ops) (ops_from l.here l.caller l.item-index (map view (drop l.item-index l.items)));
  meant : AllByRecursion IsMeantOp l.ops.items;
}
