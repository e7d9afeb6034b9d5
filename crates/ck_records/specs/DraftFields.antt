-- Which fields a request gives.
use Rattle.std.specs.Prelude.{ℕ, Bool, if◌then◌else◌, List, [], ◌∷◌, Option, None, Some, is_ok, ok_or, Result, Ok, Err}
use Rattle.std.specs.List.{list_all}
use Rattle.std.specs.Result.{result_ok}
use Rattle.serde_json.specs.Data.{Data, Members, no_members, member}
use Rattle.serde_json.specs.Find.{as_object}
use Rattle.ck_base.specs.Reading.{name_of}
use Rattle.ck_base.specs.declared.key.ZoneKey.{ZoneKey}
use Rattle.record_model.specs.declared.value.Value.{Value}
use Rattle.field_values.specs.declared.fault.FieldFault.{FieldFault}
use Rattle.field_values.specs.Reading.{field_of}
use Rattle.field_values.specs.Results.{each_or_first_error}
use Rattle.ck_records.specs.declared.fault.RecordFault.{RecordFault}
use Rattle.ck_records.specs.declared.fault.RecordFault.TheVariants.{BadKey, BadField}
use Rattle.ck_records.specs.declared.fault.RecordKey.TheVariants.{Fields}
use Rattle.ck_records.specs.Sequence.{◌>>=◌}

-- the members of an object as a list, in ascending order of their names
abbrev pub entries : Members → List (List ℕ × Data)
entries no_members = []
entries (member name d ms) = (name, d) ∷ entries ms

abbrev pub is_named : List ℕ × Data → Bool
is_named entry = is_ok (name_of entry.0)

-- the value, or the fault of the field with the name
abbrev pub in_field : {A : Type 0} → List ℕ → Result A FieldFault → Result A RecordFault
in_field name (Ok value) = Ok value
in_field name (Err fault) = Err (BadField name fault)

-- a field with its value, or with none where that is null, as the caller writes it into the zone
abbrev pub wish_of : ZoneKey → List ℕ → List ℕ × Data → Result (List ℕ × Option Value) RecordFault
wish_of here caller entry = do
  name ← ok_or (result_ok (name_of entry.0)) (BadKey Fields)
  value ← in_field name (field_of here caller entry.1)
  Ok (name, value)

-- where each member has the name of a field, the first fault is that of the first field that has one
abbrev pub wishes_in : ZoneKey → List ℕ → Option Members → Result (List (List ℕ × Option Value)) RecordFault
wishes_in here caller None = Err (BadKey Fields)
wishes_in here caller (Some ms) =
    if list_all is_named (entries ms) then each_or_first_error (wish_of here caller) (entries ms) else Err (BadKey Fields)

-- the fields, none where they are absent
abbrev pub fields_at : ZoneKey → List ℕ → Option Data → Result (List (List ℕ × Option Value)) RecordFault
fields_at here caller None = Ok []
fields_at here caller (Some d) = wishes_in here caller (as_object d)
