-- What std's `parse` reads as a u64, as a test of the digits.
use Rattle.std.proofs.Common.{◌≡◌, ℕ, ◌^◌, ◌<◌, Bool, true, ◌&&◌, nat_lt, List, [], ◌∷◌, length, get_or, decimal, Some, ◌≢◌, refl, sym, ap, subst, ◌∙◌, arith, inl, inr}
use Rattle.std.specs.Prelude.{Result, Ok, Err, None}
use Rattle.std.specs.Result.{OkIff, result_ok}
use Rattle.std.specs.Str.{all_ascii_digits}
use Rattle.std.specs.Str.Parse.{ParsesUnsigned, IsNumeral, digits_value, without_leading_plus}
use Rattle.std.proofs.lemmas.Bool.Decides.{nat_tests}
use Rattle.std.proofs.lemmas.Bool.{and_parts, cases_Bool, ltb-true}
use Rattle.std.proofs.lemmas.Fmt.{decimal_is_IsNumeral}
use Rattle.std.proofs.lemmas.Str.Parse.{without_leading_plus_none, IsNumeralModel, numerals_by_value, tells_all_ascii_digits}
use Rattle.ck_base.specs.Numbers.{digits_number, number_of}

own : IsNumeralModel (λ ds. all_ascii_digits ds ≡ true) (digits_value 10)
own = numerals_by_value _ tells_all_ascii_digits

abbrev is_number : List ℕ → Bool
is_number ds = nat_lt 0 (length ds) && (all_ascii_digits ds && nat_lt (digits_value 10 ds) (2 ^ 64))

numeral_of : (ds : List ℕ) → is_number ds ≡ true → IsNumeral 10 ds × (digits_value 10 ds < 2 ^ 64)
numeral_of ds h =
    let some = and_parts (nat_lt 0 (length ds)) _ h in
    let rest = and_parts (all_ascii_digits ds) _ some.1 in
    ((ltb-true 0 (length ds) some.0, own.to ds rest.0), ltb-true (digits_value 10 ds) (2 ^ 64) rest.1)

is_number_of : (ds : List ℕ) → 0 < length ds → all_ascii_digits ds ≡ true → digits_value 10 ds < 2 ^ 64 → is_number ds ≡ true
is_number_of ds some digits fits = rw digits (grind (arith, nat_tests))

parsed_digits : {E : Type 0} (ds : List ℕ) (r : Result ℕ E) → OkIff r (IsNumeral 10 ds × (digits_value 10 ds < 2 ^ 64)) (digits_value 10 ds) → result_ok r ≡ digits_number ds
parsed_digits ds (Ok n) h =
    let tested : is_number ds ≡ true = is_number_of ds h.0.0.0 (own.from ds h.0.0.1) h.0.1 in
    rw (tested, h.1) refl
parsed_digits ds (Err e) h = elim (cases_Bool (is_number ds)) as (λ _. None ≡ digits_number ds) [
  | inl t ↦ absurd (h (numeral_of ds t))
  | inr f ↦ rw f refl
]

pub parsed_number : {E : Type 0} (word : List ℕ) (r : Result ℕ E) → ParsesUnsigned 64 10 word r → result_ok r ≡ number_of word
parsed_number word r h = parsed_digits (without_leading_plus word) r h

no_plus : (bs : List ℕ) → all_ascii_digits bs ≡ true → get_or bs 0 0 ≢ 43
no_plus [] digits plus = absurd (cc plus)
no_plus (b ∷ bs) digits plus = absurd (cc (ap (λ x. all_ascii_digits (x ∷ bs)) (sym plus) ∙ digits))

-- the digits of a number are that number
pub number-decimal : (n : ℕ) → n < 2 ^ 64 → number_of (decimal n) ≡ Some n
number-decimal n fits =
    let (numeral, value) = decimal_is_IsNumeral n fits in
    let digits = own.from (decimal n) numeral.1 in
    let below : digits_value 10 (decimal n) < 2 ^ 64 = subst (λ m. m < 2 ^ 64) (sym value) fits in
    let tested : is_number (decimal n) ≡ true = is_number_of (decimal n) numeral.0 digits below in
    ap digits_number (without_leading_plus_none (decimal n) (no_plus (decimal n) digits)) ∙ rw (tested, value) refl
