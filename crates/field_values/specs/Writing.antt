-- The JSON of a field with a value. Numbers are written as numbers, or as texts.
-- It is that of "Record Field Dictionary" in the CloudKit Web Services Reference.
use Rattle.std.specs.Prelude.{ℤ, Bool, if◌then◌else◌, codes}
use Rattle.std.specs.Fmt.{signed_decimal}
use Rattle.serde_json.specs.Data.{Data, number, string, array, object, member, no_members}
use Rattle.serde_json.specs.Find.{of_integer}
use Rattle.serde_json.specs.View.{items_of}
use Rattle.base64.specs.Engines.{standard}
use Rattle.base64.specs.GeneralPurpose.{encode_of}
use Rattle.record_model.specs.declared.value.RefTo.{RefTo}
use Rattle.record_model.specs.declared.value.Value.{Value, fold-Value}
use Rattle.record_model.specs.declared.value.Value.TheOpen.{Value-F}
use Rattle.record_model.specs.Shapes.{shape_of}
use Rattle.field_values.specs.Types.{type_name}
use Rattle.field_values.specs.References.{action_name}

abbrev pub number_data : Bool → ℤ → Data
number_data as_text n = if as_text then string (signed_decimal n) else number (of_integer n)

abbrev pub reference_data : RefTo → Data
reference_data r =
    object (member (codes "action") (string (action_name r.action))
    (member (codes "recordName") (string r.name) no_members))

-- one level, with the JSON of each element inside
abbrev pub value_step : Bool → Value-F Data → Data
value_step as_text (Value-F.Int64 n) = number_data as_text n
value_step as_text (Value-F.Timestamp n) = number_data as_text n
value_step as_text (Value-F.Text t) = string t
value_step as_text (Value-F.Bytes b) = string (encode_of standard b)
value_step as_text (Value-F.Reference r) = reference_data r
value_step as_text (Value-F.List k ds) = array (items_of ds)

abbrev pub value_data : Bool → Value → Data
value_data as_text = fold-Value Data (value_step as_text)

-- both members, in the order of their names
abbrev pub field_data : Bool → Value → Data
field_data as_text v =
    object (member (codes "type") (string (type_name (shape_of v)))
    (member (codes "value") (value_data as_text v) no_members))
