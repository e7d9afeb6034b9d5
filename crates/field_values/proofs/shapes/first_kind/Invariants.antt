use Rattle.std.proofs.Common.{◌≡◌, map, drop}
use Rattle.serde_json.specs.View.{view}
use Rattle.field_values.specs.Types.{first_kind}
use Rattle.field_values.proofs.shapes.first_kind.Given as goal

abbrev pub invariant-loop-item : goal.invariant-loop-item
invariant-loop-item l = first_kind (map view l.items) ≡ first_kind (map view (drop l.item-index l.items))
