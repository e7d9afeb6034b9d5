-- The types of fields: their names, and the type that a value shows where none is given.
-- They are those of "Record Field Dictionary" in the CloudKit Web Services Reference, but for those that are not built.
use Rattle.std.specs.Prelude.{ℕ, Bool, true, ◌==◌, ◌||◌, length, if◌then◌else◌, List, [], ◌∷◌, ◌++◌, codes, bytes_eq, find}
use Rattle.std.specs.Prelude.{Option, Some, None, is_some, option_and_then, ok_or, Result, Ok, Err}
use Rattle.std.specs.List.{list_any, list_all}
use Rattle.std.specs.Option.{option_or, option_map_or}
use Rattle.serde_json.specs.Data.{Data, null, boolean, number, string, array, object, Items}
use Rattle.serde_json.specs.Find.{as_str, as_array}
use Rattle.record_model.specs.declared.value.Kind.{Kind}
use Rattle.record_model.specs.declared.value.Shape.{Shape}
use Rattle.record_model.specs.declared.value.Shape.TheVariants.{Single, ListOf}
use Rattle.field_values.specs.declared.fault.FieldFault.{FieldFault}
use Rattle.field_values.specs.declared.fault.FieldFault.TheVariants.{UnknownType, MixedList, WrongValue}
use Rattle.record_model.specs.Shapes.{kind_place}
use Rattle.field_values.specs.Members.{found, elements}
use Rattle.field_values.specs.Results.{result_map}

-- ---- the names

abbrev pub kind_name : Kind → List ℕ
kind_name Kind.Int64 = codes "INT64"
kind_name Kind.Timestamp = codes "TIMESTAMP"
kind_name Kind.Text = codes "STRING"
kind_name Kind.Bytes = codes "BYTES"
kind_name Kind.Reference = codes "REFERENCE"

abbrev pub type_name : Shape → List ℕ
type_name (Single k) = kind_name k
type_name (ListOf k) = kind_name k ++ codes "_LIST"

abbrev pub types : List Shape
types =
    Single Kind.Int64 ∷ Single Kind.Timestamp ∷ Single Kind.Text ∷ Single Kind.Bytes ∷ Single Kind.Reference
    ∷ ListOf Kind.Int64 ∷ ListOf Kind.Timestamp ∷ ListOf Kind.Text ∷ ListOf Kind.Bytes ∷ ListOf Kind.Reference ∷ []

-- the type that has the name
abbrev pub type_named : List ℕ → Option Shape
type_named name = find (λ shape. bytes_eq (type_name shape) name) types

-- ---- what a value shows

abbrev pub kind_shown : Data → Option Kind
kind_shown null = None
kind_shown (boolean b) = None
kind_shown (number n) = Some Kind.Int64
kind_shown (string s) = Some Kind.Text
kind_shown (array ds) = None
kind_shown (object ms) =
    if is_some (found (codes "recordName") (object ms)) then Some Kind.Reference else None

abbrev pub is_array : Data → Bool
is_array d = is_some (as_array d)

-- the first kind that elements show
abbrev pub first_kind : List Data → Option Kind
first_kind [] = None
first_kind (d ∷ ds) = option_or (kind_shown d) (first_kind ds)

-- an element shows the kind or none
abbrev pub shows_only : Kind → Data → Bool
shows_only k d = option_map_or (λ l. kind_place l == kind_place k) (kind_shown d) true

-- the one kind of elements, where the first one is k
abbrev pub one_kind : Option Kind → List Data → Result Kind FieldFault
one_kind None ds = Err WrongValue
one_kind (Some k) ds = if list_all (shows_only k) ds then Ok k else Err MixedList

-- elements that show no kind at all: none, or an array among them
abbrev pub shows_no_list : List Data → Bool
shows_no_list ds = length ds == 0 || list_any is_array ds

-- an array shows the one kind of its elements
abbrev pub list_shown : List Data → Result Shape FieldFault
list_shown ds =
    if shows_no_list ds then Err UnknownType else result_map ListOf (one_kind (first_kind ds) ds)

abbrev pub shown_by : Option Items → Option Kind → Result Shape FieldFault
shown_by (Some ds) kind = list_shown (elements ds)
shown_by None kind = result_map Single (ok_or kind UnknownType)

-- the type of a value that stands without one
abbrev pub type_shown : Data → Result Shape FieldFault
type_shown d = shown_by (as_array d) (kind_shown d)

-- the type that is given by its name, or else the one that the value shows
abbrev pub type_wanted : Option Data → Data → Result Shape FieldFault
type_wanted None d = type_shown d
type_wanted (Some type) d = ok_or (option_and_then type_named (as_str type)) UnknownType
