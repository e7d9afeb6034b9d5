-- Reading what was written.
use Rattle.std.proofs.Common.{◌≡◌, ◌<◌, ◌^◌, ℕ, zero, suc, ℤ, pos, negsuc, neg_ℤ, Bool, true, false, ◌==◌, nat_lt, List, [], ◌∷◌, map, length, refl, sym, ◌∙◌, ap, arith, w64}
use Rattle.std.specs.Prelude.{Some, Ok, FitsSigned, slice_index, codes}
use Rattle.std.specs.List.{AllByRecursion, list_all}
use Rattle.std.specs.Char.{is_ascii_digit}
use Rattle.std.specs.Fmt.{decimal, signed_decimal}
use Rattle.std.specs.Str.Parse.{digits_value, signed_digits_value, starts_with_minus}
use Rattle.std.proofs.lemmas.Fmt.{decimal_is_IsNumeral, decimal_digit, first_decimal}
use Rattle.std.proofs.lemmas.Bool.{and_from, or_left, lt-ltb, ne_eqb, le-ltb, cond-true, cond-false}
use Rattle.std.proofs.lemmas.Bool.Decides.{nat_tests}
use Rattle.base64.specs.Engines.{standard}
use Rattle.base64.proofs.EngineFacts.{decode_of-encode_of}
use Rattle.serde_json.specs.Data.{Data, string, object, member, no_members}
use Rattle.serde_json.specs.Find.{as_integer, of_integer}
use Rattle.ck_base.specs.Names.{IsName}
use Rattle.ck_base.specs.Reading.{name_of}
use Rattle.ck_base.specs.declared.key.ZoneKey.{ZoneKey}
use Rattle.record_model.specs.declared.value.Action.{Action}
use Rattle.record_model.specs.declared.value.Kind.{Kind}
use Rattle.record_model.specs.declared.value.RefTo.{RefTo}
use Rattle.record_model.specs.declared.value.Value.{Value, out-Value, roll-Value, roll-out-Value, fold_out-Value}
use Rattle.record_model.specs.declared.value.Value.TheVariants.{rolls-Int64, rolls-Timestamp, rolls-Text, rolls-Bytes, rolls-Reference, rolls-List}
use Rattle.record_model.specs.declared.value.Value.TheOpen.{Value-F}
use Rattle.record_model.specs.declared.value.Value.TheFolds.{map-Value}
use Rattle.record_model.specs.declared.value.Shape.{Shape}
use Rattle.record_model.specs.declared.value.Shape.TheVariants.{Single, ListOf}
use Rattle.record_model.specs.Shapes.{shape_step, shape_of}
use Rattle.field_values.specs.Results.{result_map, each_or_first_error}
use Rattle.field_values.specs.Members.{unless_null}
use Rattle.field_values.specs.Types.{type_name, type_named}
use Rattle.field_values.specs.Numbers.{in_range, is_positive, is_number, number_in_text, whole_of}
use Rattle.field_values.specs.References.{action_name, action_named, reference_of}
use Rattle.field_values.specs.Reading.{single_of, value_of, field_of}
use Rattle.field_values.specs.Writing.{number_data, reference_data, value_step, value_data, field_data}
use Rattle.record_model.specs.ValueForms.{IsSingle, IsElement, IsMeantLevel}
use Rattle.field_values.specs.RoundTrip.{ReadsBack}
use Rattle.field_values.proofs.ListLemmas.{elements_items}
use Rattle.field_values.proofs.NumberLemmas.{own, plain_text}

-- ---- whole numbers

in_range-fits : (z : ℤ) → FitsSigned w64 z → in_range z ≡ Ok z
in_range-fits (pos n) fits = grind (arith, nat_tests, fits.sfits)
in_range-fits (negsuc n) fits = grind (arith, nat_tests, fits.sfits)

as_integer-of_integer : (z : ℤ) → as_integer (of_integer z) ≡ Some z
as_integer-of_integer (pos n) = refl
as_integer-of_integer (negsuc n) = refl

positive_decimal : (n : ℕ) → 0 < n → n < 2 ^ 64 → is_positive (decimal n) ≡ true
positive_decimal n above below =
    and_from (list_all is_ascii_digit (decimal n)) (nat_lt 48 (slice_index (decimal n) 0))
    (own.from (decimal n) (decimal_is_IsNumeral n below).0.1) (lt-ltb 48 _ (first_decimal n above below))

-- a text without a minus that reads as a number
plain_number : (s : List ℕ) (n : ℕ) → is_positive s ≡ true → 48 < slice_index s 0 → digits_value 10 s ≡ n → number_in_text s ≡ Some (pos n)
plain_number s n positive above value =
    let minus : starts_with_minus s ≡ false = ne_eqb (slice_index s 0) 45 (λ same. omega (arith, above, same)) in
    let number : is_number s ≡ true = rw minus (or_left (is_positive s) _ positive) in
    let plain = plain_text s minus (λ plus. omega (arith, above, plus)) in
    let signed : signed_digits_value 10 s ≡ pos n =
    cond-false (starts_with_minus s) _ _ minus ∙ ap (λ t. pos (digits_value 10 t)) plain ∙ ap (λ k. pos k) value in
    cond-true (is_number s) _ _ number ∙ ap (λ z. Some z) signed

decimal_number : (n : ℕ) → n < 2 ^ 63 → number_in_text (decimal n) ≡ Some (pos n)
decimal_number zero below = rw (decimal_digit 0 (omega arith)) refl
decimal_number (suc n) below =
    let fits : suc n < 2 ^ 64 = omega (arith, below) in
    plain_number (decimal (suc n)) (suc n) (positive_decimal (suc n) (omega arith) fits) (first_decimal (suc n) (omega arith) fits) (decimal_is_IsNumeral (suc n) fits).1

negative_number : (n : ℕ) → n < 2 ^ 63 → number_in_text (45 ∷ decimal (suc n)) ≡ Some (negsuc n)
negative_number n below =
    let fits : suc n < 2 ^ 64 = omega (arith, below) in
    cond-true (is_positive (decimal (suc n))) _ _ (positive_decimal (suc n) (omega arith) fits)
    ∙ ap (λ k. Some (neg_ℤ (pos k))) (decimal_is_IsNumeral (suc n) fits).1

number_in_text-signed_decimal : (z : ℤ) → FitsSigned w64 z → number_in_text (signed_decimal z) ≡ Some z
number_in_text-signed_decimal (pos n) fits = decimal_number n fits.sfits
number_in_text-signed_decimal (negsuc n) fits = negative_number n fits.sfits

whole_of-number_data : (as_text : Bool) (z : ℤ) → FitsSigned w64 z → whole_of (number_data as_text z) ≡ Ok z
whole_of-number_data true z fits = rw (number_in_text-signed_decimal z fits) (in_range-fits z fits)
whole_of-number_data false z fits = rw (as_integer-of_integer z) (in_range-fits z fits)

-- ---- references

name_of-name : (bytes : List ℕ) → IsName bytes → name_of bytes ≡ Ok bytes
name_of-name bytes name =
    let some : (length bytes == 0) ≡ false = ne_eqb _ 0 (λ none. omega (arith, none, name.0)) in
    let short : nat_lt 255 (length bytes) ≡ false = le-ltb 255 (length bytes) name.1 in
    rw (some, short, name.2)

action_named-name : (a : Action) → action_named (action_name a) ≡ Some a
action_named-name Action.Plain = refl
action_named-name Action.DeleteSelf = refl
action_named-name Action.Validate = refl

reference_reads : (here : ZoneKey) (caller : List ℕ) (r : RefTo) → IsName r.name → reference_of here caller (reference_data r) ≡ Ok r
reference_reads here caller r name = rw (name_of-name r.name name, action_named-name r.action)

-- ---- types

type_named-name : (shape : Shape) → type_named (type_name shape) ≡ Some shape
type_named-name (Single Kind.Int64) = refl
type_named-name (Single Kind.Timestamp) = refl
type_named-name (Single Kind.Text) = refl
type_named-name (Single Kind.Bytes) = refl
type_named-name (Single Kind.Reference) = refl
type_named-name (ListOf Kind.Int64) = refl
type_named-name (ListOf Kind.Timestamp) = refl
type_named-name (ListOf Kind.Text) = refl
type_named-name (ListOf Kind.Bytes) = refl
type_named-name (ListOf Kind.Reference) = refl

typed_field : (here : ZoneKey) (caller : List ℕ) (shape : Shape) (d : Data) → unless_null d ≡ Some d
    → field_of here caller (object (member (codes "type") (string (type_name shape)) (member (codes "value") d no_members)))
    ≡ result_map Some (value_of here caller d shape)
typed_field here caller shape d there = rw (there, type_named-name shape)

-- ---- one level of a value

level_data : Bool → Value-F Value → Data
level_data as_text x = value_step as_text (map-Value Value Data (value_data as_text) x)

value_data_out : (as_text : Bool) (v : Value) → value_data as_text v ≡ level_data as_text (out-Value v)
unfolding level_data
value_data_out as_text v = fold_out-Value Data (value_step as_text) v

shape_step-map : (x : Value-F Value) → shape_step (map-Value Value Shape shape_of x) ≡ shape_step x
shape_step-map (Value-F.Int64 n) = refl
shape_step-map (Value-F.Timestamp n) = refl
shape_step-map (Value-F.Text t) = refl
shape_step-map (Value-F.Bytes b) = refl
shape_step-map (Value-F.Reference r) = refl
shape_step-map (Value-F.List k vs) = refl

shape_of_out : (v : Value) → shape_of v ≡ shape_step (out-Value v)
shape_of_out v = fold_out-Value Shape shape_step v ∙ shape_step-map (out-Value v)

number_there : (as_text : Bool) (z : ℤ) → unless_null (number_data as_text z) ≡ Some (number_data as_text z)
number_there true z = refl
number_there false z = refl

level_there : (as_text : Bool) (x : Value-F Value) → unless_null (level_data as_text x) ≡ Some (level_data as_text x)
unfolding level_data
level_there as_text (Value-F.Int64 n) = number_there as_text n
level_there as_text (Value-F.Timestamp n) = number_there as_text n
level_there as_text (Value-F.Text t) = refl
level_there as_text (Value-F.Bytes b) = refl
level_there as_text (Value-F.Reference r) = refl
level_there as_text (Value-F.List k vs) = refl

module _ (here : ZoneKey) (caller : List ℕ) (as_text : Bool) where
  single_reads : (x : Value-F Value) (k : Kind) → shape_step x ≡ Single k → IsSingle x → single_of here caller k (level_data as_text x) ≡ Ok (roll-Value x)
  unfolding level_data
  single_reads (Value-F.Int64 n) Kind.Int64 e fits = rw (whole_of-number_data as_text n fits) (ap (λ v. Ok v) (sym (rolls-Int64 n)))
  single_reads (Value-F.Timestamp n) Kind.Timestamp e fits = rw (whole_of-number_data as_text n fits) (ap (λ v. Ok v) (sym (rolls-Timestamp n)))
  single_reads (Value-F.Text t) Kind.Text e utf8 = ap (λ v. Ok v) (sym (rolls-Text t))
  single_reads (Value-F.Bytes b) Kind.Bytes e bytes = rw (decode_of-encode_of standard b refl bytes) (ap (λ v. Ok v) (sym (rolls-Bytes b)))
  single_reads (Value-F.Reference r) Kind.Reference e name = rw (reference_reads here caller r name) (ap (λ v. Ok v) (sym (rolls-Reference r)))
  single_reads x k e form = absurd (cc e)

  element_reads : (k : Kind) (v : Value) → IsElement k v → single_of here caller k (value_data as_text v) ≡ Ok v
  element_reads k v is =
      ap (single_of here caller k) (value_data_out as_text v) ∙ single_reads (out-Value v) k is.0 is.1 ∙ ap (λ w. Ok w) (roll-out-Value v)

  elements_read : (k : Kind) (vs : List Value) → AllByRecursion (IsElement k) vs
      → each_or_first_error (single_of here caller k) (map (value_data as_text) vs) ≡ Ok vs
  elements_read k [] all = refl
  elements_read k (v ∷ vs) all = rw (element_reads k v all.0, elements_read k vs all.1)

  level_reads : (x : Value-F Value) → IsMeantLevel x → value_of here caller (level_data as_text x) (shape_step x) ≡ Ok (roll-Value x)
  unfolding level_data
  level_reads (Value-F.Int64 n) meant = single_reads (Value-F.Int64 n) Kind.Int64 refl meant
  level_reads (Value-F.Timestamp n) meant = single_reads (Value-F.Timestamp n) Kind.Timestamp refl meant
  level_reads (Value-F.Text t) meant = single_reads (Value-F.Text t) Kind.Text refl meant
  level_reads (Value-F.Bytes b) meant = single_reads (Value-F.Bytes b) Kind.Bytes refl meant
  level_reads (Value-F.Reference r) meant = single_reads (Value-F.Reference r) Kind.Reference refl meant
  level_reads (Value-F.List k vs) meant =
      rw (elements_items (map (value_data as_text) vs), elements_read k vs meant) (ap (λ v. Ok v) (sym (rolls-List k vs)))

-- the field with a type and a value
abbrev typed : Shape → Data → Data
typed shape d = object (member (codes "type") (string (type_name shape)) (member (codes "value") d no_members))

pub reads_back : ReadsBack
reads_back here caller as_text v meant =
    let x = out-Value v in
    let same : field_data as_text v ≡ typed (shape_step x) (level_data as_text x) =
    ap (λ shape. typed shape (value_data as_text v)) (shape_of_out v) ∙ ap (λ d. typed (shape_step x) d) (value_data_out as_text v) in
    let read : value_of here caller (level_data as_text x) (shape_step x) ≡ Ok v = level_reads here caller as_text x meant ∙ ap (λ w. Ok w) (roll-out-Value v) in
    ap (field_of here caller) same ∙ typed_field here caller (shape_step x) (level_data as_text x) (level_there as_text x) ∙ ap (result_map (λ w. Some w)) read
