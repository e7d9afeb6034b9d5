-- Which value the JSON of a field means, or the first fault. A field is an object with value and
-- perhaps type, as in "Record Field Dictionary" of the CloudKit Web Services Reference.
use Rattle.std.specs.Prelude.{ℕ, Bool, not, ◌&&◌, if◌then◌else◌, List, codes, Option, Some, None, ok_or, Result, Ok, Err}
use Rattle.serde_json.specs.Data.{Data, Items}
use Rattle.serde_json.specs.Find.{get, as_str, as_array}
use Rattle.base64.specs.Engines.{standard}
use Rattle.base64.specs.GeneralPurpose.{decode_of}
use Rattle.base64.specs.declared.decode.DecodeError.{DecodeError}
use Rattle.ck_base.specs.declared.key.ZoneKey.{ZoneKey}
use Rattle.record_model.specs.declared.value.Kind.{Kind}
use Rattle.record_model.specs.declared.value.Value.{Value}
use Rattle.record_model.specs.declared.value.Value.TheVariants.{Int64, Timestamp, Text, Bytes, Reference, List as ListValue}
use Rattle.record_model.specs.declared.value.Shape.{Shape}
use Rattle.record_model.specs.declared.value.Shape.TheVariants.{Single, ListOf}
use Rattle.field_values.specs.declared.fault.FieldFault.{FieldFault}
use Rattle.field_values.specs.declared.fault.FieldFault.TheVariants.{NotAField, BadBase64, WrongValue}
use Rattle.field_values.specs.Results.{result_map, result_and_then, each_or_first_error}
use Rattle.field_values.specs.Members.{has, found, is_true, elements}
use Rattle.field_values.specs.Types.{type_wanted}
use Rattle.field_values.specs.Numbers.{whole_of}
use Rattle.field_values.specs.References.{reference_of}

abbrev pub text_of : Data → Result (List ℕ) FieldFault
text_of d = ok_or (as_str d) WrongValue

abbrev pub unless_undecoded : Result (List ℕ) DecodeError → Result (List ℕ) FieldFault
unless_undecoded (Ok b) = Ok b
unless_undecoded (Err e) = Err BadBase64

-- the bytes of a text in base64 (RFC 4648, section 4), with its padding and no other bits
abbrev pub bytes_of : Data → Result (List ℕ) FieldFault
bytes_of d = result_and_then (λ s. unless_undecoded (decode_of standard s)) (text_of d)

-- a value of a kind
abbrev pub single_of : ZoneKey → List ℕ → Kind → Data → Result Value FieldFault
single_of here caller Kind.Int64 d = result_map Int64 (whole_of d)
single_of here caller Kind.Timestamp d = result_map Timestamp (whole_of d)
single_of here caller Kind.Text d = result_map Text (text_of d)
single_of here caller Kind.Bytes d = result_map Bytes (bytes_of d)
single_of here caller Kind.Reference d = result_map Reference (reference_of here caller d)

-- a list of values of a kind, or the fault of the first element that is none
abbrev pub list_of : ZoneKey → List ℕ → Kind → Option Items → Result Value FieldFault
list_of here caller k None = Err WrongValue
list_of here caller k (Some ds) =
    result_map (ListValue k) (each_or_first_error (single_of here caller k) (elements ds))

-- a value of a type
abbrev pub value_of : ZoneKey → List ℕ → Data → Shape → Result Value FieldFault
value_of here caller d (Single k) = single_of here caller k d
value_of here caller d (ListOf k) = list_of here caller k (as_array d)

-- no value for null, else the value of the type that is given or shown
abbrev pub value_in : ZoneKey → List ℕ → Option Data → Option Data → Result (Option Value) FieldFault
value_in here caller type None = Ok None
value_in here caller type (Some d) =
    result_map Some (result_and_then (value_of here caller d) (type_wanted type d))

-- an object with a value, which is not encrypted
abbrev pub is_field : Data → Bool
is_field d = has (codes "value") d && not (is_true (get (codes "isEncrypted") d))

-- the value of a field that is written into the zone by the caller
abbrev pub field_of : ZoneKey → List ℕ → Data → Result (Option Value) FieldFault
field_of here caller d =
    if is_field d
    then value_in here caller (found (codes "type") d) (found (codes "value") d)
    else Err NotAField
