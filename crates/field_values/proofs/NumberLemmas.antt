-- Whole numbers as texts.
use Rattle.std.proofs.Common.{◌≡◌, ℕ, ◌<◌, true, false, nat_lt, ◌==◌, List, [], ◌∷◌, length, drop, ℤ, pos, negsuc, sym, arith, rules, w64, inl, inr}
use Rattle.std.proofs.lemmas.Bool.Decides.{nat_tests}
use Rattle.std.proofs.lemmas.Bool.{and_parts, or_cases, cases_Bool, ltb-true, eqb-true}
use Rattle.std.specs.Prelude.{Err, FitsSigned, slice_index}
use Rattle.std.specs.Str.Parse.{ParsesSigned, IsNumeral, digits_value, signed_digits_value, without_leading_sign, starts_with_minus}
use Rattle.std.proofs.lemmas.Str.Parse.{IsNumeralModel, IsDigitsTest, numerals_by_value, without_leading_plus_none}
use Rattle.std.specs.Char.{is_ascii_digit}
use Rattle.std.specs.List.{list_all}
use Rattle.field_values.specs.declared.fault.FieldFault.TheVariants.{OutOfRange, WrongValue}
use Rattle.field_values.specs.Numbers.{in_range, in_range_or, is_positive, is_number, number_in_text}

-- a number that is none of 64 bits
pub in_range-past : (z : ℤ) → ¬ FitsSigned w64 z → in_range z ≡ Err OutOfRange
in_range-past (pos n) past = elim (cases_Bool (nat_lt 9223372036854775807 n)) as (λ _. in_range (pos n) ≡ Err OutOfRange) [
  | inl e ↦ grind (arith, nat_tests)
  | inr e ↦ absurd (past (record { sfits = grind (arith, nat_tests) }))
]
in_range-past (negsuc n) past = elim (cases_Bool (nat_lt 9223372036854775807 n)) as (λ _. in_range (negsuc n) ≡ Err OutOfRange) [
  | inl e ↦ grind (arith, nat_tests)
  | inr e ↦ absurd (past (record { sfits = grind (arith, nat_tests) }))
]

tells_digits : IsDigitsTest (λ ds. list_all is_ascii_digit ds ≡ true)
tells_digits = search rules

pub own : IsNumeralModel (λ ds. list_all is_ascii_digit ds ≡ true) (digits_value 10)
own = numerals_by_value _ tells_digits

positive_first : (ds : List ℕ) → is_positive ds ≡ true → (0 < length ds) × (48 < slice_index ds 0)
positive_first [] h = absurd (grind arith)
positive_first (d ∷ ds) h = (omega arith, ltb-true 48 d (and_parts (list_all is_ascii_digit (d ∷ ds)) _ h).1)

positive_numeral : (ds : List ℕ) → is_positive ds ≡ true → IsNumeral 10 ds
positive_numeral ds h = ((positive_first ds h).0, own.to ds (and_parts (list_all is_ascii_digit ds) _ h).0)

zero_numeral : (s : List ℕ) → length s ≡ 1 → slice_index s 0 ≡ 48 → IsNumeral 10 s
zero_numeral [] one zero = absurd (omega arith)
zero_numeral (c ∷ []) one zero = rw zero (omega arith, search rules)
zero_numeral (c ∷ d ∷ ds) one zero = absurd (omega arith)

-- a text that begins with no sign is all digits
pub plain_text : (s : List ℕ) → starts_with_minus s ≡ false → (slice_index s 0 ≡ 43 → ⊥) → without_leading_sign s ≡ s
plain_text s e other = rw e (without_leading_plus_none s other)

plain_numeral : (s : List ℕ) → starts_with_minus s ≡ false → (slice_index s 0 ≡ 43 → ⊥) → IsNumeral 10 s → IsNumeral 10 (without_leading_sign s)
plain_numeral s e other h = rw (plain_text s e other) h

pub numeral_of : (s : List ℕ) → is_number s ≡ true → IsNumeral 10 (without_leading_sign s)
numeral_of s h = elim (cases_Bool (starts_with_minus s)) as (λ _. IsNumeral 10 (without_leading_sign s)) [
  | inl e ↦ (rw e (positive_numeral (drop 1 s) (rw e at h)))
  | inr e ↦ elim (or_cases (is_positive s) _ (rw e at h)) as (λ _. IsNumeral 10 (without_leading_sign s)) [
    | inl p ↦ (let first = positive_first s p in plain_numeral s e (λ plus. omega (arith, first.1)) (positive_numeral s p))
    | inr z ↦ (let parts = and_parts (length s == 1) _ z in let zero = eqb-true (slice_index s 0) 48 parts.1 in
        plain_numeral s e (λ plus. omega (arith, zero)) (zero_numeral s (eqb-true (length s) 1 parts.0) zero))
  ]
]

pub past_range : {E : Type 0} (s : List ℕ) (e : E) → ParsesSigned w64 10 s (Err e) → is_number s ≡ true → Err OutOfRange ≡ in_range_or WrongValue (number_in_text s)
past_range s e past h = rw h (sym (in_range-past (signed_digits_value 10 s) (λ fits. past (numeral_of s h, fits))))
