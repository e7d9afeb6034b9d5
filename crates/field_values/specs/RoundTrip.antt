-- What is written is read as what it was.
use Rattle.std.specs.Prelude.{◌≡◌, ℕ, Bool, List, Some, Ok}
use Rattle.ck_base.specs.declared.key.ZoneKey.{ZoneKey}
use Rattle.record_model.specs.declared.value.Value.{Value}
use Rattle.record_model.specs.ValueForms.{IsMeant}
use Rattle.field_values.specs.Reading.{field_of}
use Rattle.field_values.specs.Writing.{field_data}

-- the JSON of a value that some JSON means is read as the value, in each zone and by each caller,
-- whether its numbers are written as numbers or as texts
abbrev pub ReadsBack : Type 0
ReadsBack = (here : ZoneKey) (caller : List ℕ) (as_text : Bool) (v : Value) → IsMeant v
    → field_of here caller (field_data as_text v) ≡ Ok (Some v)
