use Rattle.std.proofs.Common.{◌≡◌, map, take}
use Rattle.serde_json.specs.View.{view}
use Rattle.field_values.specs.Writing.{value_data}
use Rattle.field_values.proofs.write.+json.Given as goal

abbrev pub invariant-values_json-loop-value : goal.invariant-values_json-loop-value
invariant-values_json-loop-value l = map view l.items.items ≡ map (value_data l.as_text) (take l.value-index l.values)
