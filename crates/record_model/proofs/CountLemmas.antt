-- What has a size of four bytes can be counted.
use Rattle.std.proofs.Common.{◌≡◌, ◌<◌, ◌≤◌, ◌+◌, ◌^◌, ℕ, Bool, true, List, [], ◌∷◌, length, map, refl, sym, ap, subst, ◌∙◌, arith}
use Rattle.std.specs.List.{AllByRecursion, list_all, sum_by}
use Rattle.std.proofs.lemmas.Bool.{and_from, lt-ltb}
use Rattle.std.proofs.lemmas.List.Sums.{sum_by-cons}
use Rattle.record_model.specs.declared.value.Value.{Value, out-Value, fold_out-Value}
use Rattle.record_model.specs.declared.value.Value.TheOpen.{Value-F}
use Rattle.record_model.specs.declared.value.Value.TheFolds.{map-Value}
use Rattle.record_model.specs.ValueOrder.{bytes_part, elements_part}
use Rattle.record_model.specs.ValueSizes.{size_step, size}
use Rattle.record_model.specs.RecordSizes.{size_of_field}
use Rattle.record_model.specs.Counts.{fits_four_bytes, is_short, is_counted, are_counted}

-- ---- the size of a value bounds what is in it

abbrev level_size : Value-F Value → ℕ
level_size x = size_step (map-Value Value ℕ size x)

elements_size : List Value → ℕ
elements_size vs = sum_by (λ n. 8 + n) (map size vs)

more_elements : (v : Value) (vs : List Value) → elements_size (v ∷ vs) ≡ 8 + size v + elements_size vs
unfolding elements_size
more_elements v vs = sum_by-cons (λ n. 8 + n) (size v) (map size vs)

count_within : (vs : List Value) → length vs ≤ elements_size vs
count_within [] = omega arith
count_within (v ∷ vs) = omega (arith, count_within vs, more_elements v vs)

each_within : (vs : List Value) (bound : ℕ) → elements_size vs ≤ bound → AllByRecursion (λ v. size v ≤ bound) vs
each_within [] bound fits = tt
each_within (v ∷ vs) bound fits = (omega (arith, fits, more_elements v vs), each_within vs bound (omega (arith, fits, more_elements v vs)))

-- ---- one level

bytes_within : (x : Value-F Value) → length (bytes_part x) ≤ level_size x
bytes_within (Value-F.Int64 n) = omega arith
bytes_within (Value-F.Timestamp n) = omega arith
bytes_within (Value-F.Text t) = omega arith
bytes_within (Value-F.Bytes b) = omega arith
bytes_within (Value-F.Reference r) = omega arith
bytes_within (Value-F.List k vs) = omega arith

elements_within : (x : Value-F Value) → length (elements_part x) ≤ level_size x
unfolding elements_size
elements_within (Value-F.Int64 n) = omega arith
elements_within (Value-F.Timestamp n) = omega arith
elements_within (Value-F.Text t) = omega arith
elements_within (Value-F.Bytes b) = omega arith
elements_within (Value-F.Reference r) = omega arith
elements_within (Value-F.List k vs) = count_within vs

each_element : (x : Value-F Value) (bound : ℕ) → level_size x ≤ bound → AllByRecursion (λ v. size v ≤ bound) (elements_part x)
unfolding elements_size
each_element (Value-F.Int64 n) bound fits = tt
each_element (Value-F.Timestamp n) bound fits = tt
each_element (Value-F.Text t) bound fits = tt
each_element (Value-F.Bytes b) bound fits = tt
each_element (Value-F.Reference r) bound fits = tt
each_element (Value-F.List k vs) bound fits = each_within vs bound fits

size_by_level : (v : Value) → size v ≡ level_size (out-Value v)
size_by_level v = fold_out-Value ℕ size_step v

-- ---- values and fields

abbrev Fits : ℕ → Type 0
Fits n = n < 2 ^ 32

short_value : (v : Value) → Fits (size v) → is_short (out-Value v) ≡ true
short_value v fits =
    let level = size_by_level v in
    and_from (fits_four_bytes (length (bytes_part (out-Value v)))) _
    (lt-ltb _ _ (omega (arith, fits, level, bytes_within (out-Value v))))
    (lt-ltb _ _ (omega (arith, fits, level, elements_within (out-Value v))))

short_each : (vs : List Value) (bound : ℕ) → Fits bound → AllByRecursion (λ v. size v ≤ bound) vs → list_all (λ v. is_short (out-Value v)) vs ≡ true
short_each [] bound fits all = refl
short_each (v ∷ vs) bound fits all = and_from (is_short (out-Value v)) _ (short_value v (omega (arith, fits, all.0))) (short_each vs bound fits all.1)

value_counted : (v : Value) → Fits (size v) → is_counted v ≡ true
value_counted v fits =
    let level = size_by_level v in
    and_from (is_short (out-Value v)) _ (short_value v fits)
    (short_each (elements_part (out-Value v)) (size v) fits (each_element (out-Value v) (size v) (omega (arith, level))))

abbrev Field : Type 0
Field = List ℕ × Value

fields_size : List Field → ℕ
fields_size fields = sum_by size_of_field fields

more_fields : (f : Field) (fields : List Field) → fields_size (f ∷ fields) ≡ length f.0 + 8 + size f.1 + fields_size fields
unfolding fields_size
more_fields f fields = sum_by-cons size_of_field f fields

few_fields : (fields : List Field) → length fields ≤ fields_size fields
few_fields [] = omega arith
few_fields (f ∷ fields) = omega (arith, few_fields fields, more_fields f fields)

each_counted : (fields : List Field) → Fits (fields_size fields) → list_all (λ (f : Field). is_counted f.1) fields ≡ true
each_counted [] fits = refl
each_counted (f ∷ fields) fits =
    and_from (is_counted f.1) _ (value_counted f.1 (omega (arith, fits, more_fields f fields)))
    (each_counted fields (omega (arith, fits, more_fields f fields)))

-- fields of such a size can be counted
pub fields_counted : (fields : List Field) → sum_by size_of_field fields < 2 ^ 32 → are_counted fields ≡ true
unfolding fields_size
fields_counted fields fits =
    and_from (fits_four_bytes (length fields)) _ (lt-ltb _ _ (omega (arith, fits, few_fields fields))) (each_counted fields fits)
