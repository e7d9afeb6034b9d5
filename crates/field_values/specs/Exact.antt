-- JSON that its text tells exactly.
use Rattle.std.specs.Prelude.{◌≡◌, ◌≤◌, Bool, false}
use Rattle.serde_json.specs.Data.{Data, depth}
use Rattle.serde_json.specs.Read.{max_depth}
use Rattle.serde_json.specs.Written.{has_float}
use Rattle.record_model.specs.declared.value.Value.{Value}
use Rattle.record_model.specs.ValueForms.{IsMeant}
use Rattle.field_values.specs.Writing.{field_data}

-- it has no float, and nests no deeper than what is read
pub record IsExact (d : Data) : Type 0 where
  pub whole : has_float d ≡ false
  pub shallow : depth d ≤ max_depth

-- the JSON of a field has no float, and where some JSON means its value it nests at most three deep
pub record FieldsAreFlat : Type 0 where
  pub whole : (as_text : Bool) (v : Value) → has_float (field_data as_text v) ≡ false
  pub shallow : (as_text : Bool) (v : Value) → IsMeant v → depth (field_data as_text v) ≤ 3
