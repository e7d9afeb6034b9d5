-- The JSON of a field has no float, and is not deep.
use Rattle.std.proofs.Common.{◌≡◌, ◌≤◌, ℤ, pos, negsuc, Bool, true, false, List, [], ◌∷◌, map, refl, ap, subst, sym, ◌∙◌, arith}
use Rattle.std.specs.List.{AllByRecursion}
use Rattle.std.proofs.lemmas.Bool.{or_from}
use Rattle.serde_json.specs.Data.{Data, depth, items_depth}
use Rattle.serde_json.specs.View.{items_of}
use Rattle.serde_json.specs.Written.{has_float, items_have_float}
use Rattle.record_model.specs.declared.value.Kind.{Kind}
use Rattle.record_model.specs.declared.value.Value.{Value, out-Value, roll-Value, out-roll-Value, fold_out-Value}
use Rattle.record_model.specs.declared.value.Value.TheOpen.{Value-F}
use Rattle.record_model.specs.declared.value.Value.TheFolds.{map-Value}
use Rattle.record_model.specs.ValueOrder.{elements_part}
use Rattle.field_values.specs.Writing.{number_data, value_step, value_data, field_data}
use Rattle.record_model.specs.ValueForms.{IsSingle, IsElement, IsMeantLevel, IsMeant}
use Rattle.field_values.specs.Exact.{FieldsAreFlat}
use Rattle.record_model.proofs.ValueInduction.{each_value}

module _ (as_text : Bool) where
  -- one level of the JSON of a value
  abbrev level_data : Value-F Value → Data
  level_data x = value_step as_text (map-Value Value Data (value_data as_text) x)

  by_level : (v : Value) → value_data as_text v ≡ level_data (out-Value v)
  by_level v = fold_out-Value Data (value_step as_text) v

-- ---- no float

number_whole : (as_text : Bool) (n : ℤ) → has_float (number_data as_text n) ≡ false
number_whole true n = refl
number_whole false (pos n) = refl
number_whole false (negsuc n) = refl

module _ (as_text : Bool) where
  abbrev IsWhole : Value → Type 0
  IsWhole v = has_float (value_data as_text v) ≡ false

  items_whole : (vs : List Value) → AllByRecursion IsWhole vs → items_have_float (items_of (map (value_data as_text) vs)) ≡ false
  items_whole [] all = refl
  items_whole (v ∷ vs) all = or_from _ _ all.0 (items_whole vs all.1)

  level_whole : (x : Value-F Value) → AllByRecursion IsWhole (elements_part x) → has_float (level_data as_text x) ≡ false
  level_whole (Value-F.Int64 n) all = number_whole as_text n
  level_whole (Value-F.Timestamp n) all = number_whole as_text n
  level_whole (Value-F.Text t) all = refl
  level_whole (Value-F.Bytes b) all = refl
  level_whole (Value-F.Reference r) all = refl
  level_whole (Value-F.List k vs) all = items_whole vs all

  value_whole : (v : Value) → IsWhole v
  value_whole = each_value IsWhole (λ x all. ap has_float (by_level as_text (roll-Value x) ∙ ap (level_data as_text) (out-roll-Value x)) ∙ level_whole x all)

-- ---- not deep

number_flat : (as_text : Bool) (n : ℤ) → depth (number_data as_text n) ≤ 0
number_flat true n = omega arith
number_flat false n = omega arith

single_flat : (as_text : Bool) (x : Value-F Value) → IsSingle x → depth (level_data as_text x) ≤ 1
single_flat as_text (Value-F.Int64 n) is = omega (arith, number_flat as_text n)
single_flat as_text (Value-F.Timestamp n) is = omega (arith, number_flat as_text n)
single_flat as_text (Value-F.Text t) is = omega arith
single_flat as_text (Value-F.Bytes b) is = omega arith
single_flat as_text (Value-F.Reference r) is = omega arith
single_flat as_text (Value-F.List k vs) is = absurd is

element_flat : (as_text : Bool) (k : Kind) (v : Value) → IsElement k v → depth (value_data as_text v) ≤ 1
element_flat as_text k v is = subst (λ d. depth d ≤ 1) (sym (by_level as_text v)) (single_flat as_text (out-Value v) is.1)

elements_flat : (as_text : Bool) (k : Kind) (vs : List Value) → AllByRecursion (IsElement k) vs → items_depth (items_of (map (value_data as_text) vs)) ≤ 1
elements_flat as_text k [] all = omega arith
elements_flat as_text k (v ∷ vs) all = omega (arith, element_flat as_text k v all.0, elements_flat as_text k vs all.1)

level_flat : (as_text : Bool) (x : Value-F Value) → IsMeantLevel x → depth (level_data as_text x) ≤ 2
level_flat as_text (Value-F.Int64 n) is = omega (arith, number_flat as_text n)
level_flat as_text (Value-F.Timestamp n) is = omega (arith, number_flat as_text n)
level_flat as_text (Value-F.Text t) is = omega arith
level_flat as_text (Value-F.Bytes b) is = omega arith
level_flat as_text (Value-F.Reference r) is = omega arith
level_flat as_text (Value-F.List k vs) is = omega (arith, elements_flat as_text k vs is)

field_flat : (as_text : Bool) (v : Value) → IsMeant v → depth (field_data as_text v) ≤ 3
field_flat as_text v is =
    let value : depth (value_data as_text v) ≤ 2 = subst (λ d. depth d ≤ 2) (sym (by_level as_text v)) (level_flat as_text (out-Value v) is) in
    omega (arith, value)

pub fields_flat : FieldsAreFlat
fields_flat = record {
  whole = λ as_text v. or_from _ _ (value_whole as_text v) refl;
  shallow = field_flat;
}
