-- The number that digits write.
use Rattle.std.proofs.Common.{◌≡◌, ℕ, zero, suc, ◌+◌, ◌*◌, ◌-◌, ◌^◌, ◌<◌, ◌≤◌, List, [], ◌∷◌, length, get_or, take, true, arith}
use Rattle.std.specs.List.{list_all}
use Rattle.std.specs.Char.{is_ascii_digit, digit_value}
use Rattle.std.specs.Str.Parse.{AllDigits, digits_value}
use Rattle.std.proofs.Math.Nat.{pow-le-pow_right}
use Rattle.std.proofs.lemmas.Bool.{and_parts}
use Rattle.std.proofs.lemmas.Bool.Decides.{nat_tests}
use Rattle.std.proofs.lemmas.List.{length-take-le}
use Rattle.std.proofs.lemmas.Int.Digits.{digits_value_more, digits_value-lt}

digit-small : (d : ℕ) → is_ascii_digit d ≡ true → digit_value d < 10
digit-small d digit = grind (arith, nat_tests)

front-digits : (ds : List ℕ) (i : ℕ) → list_all is_ascii_digit ds ≡ true → AllDigits 10 (take i ds)
front-digits ds zero all = tt
front-digits [] (suc i) all = tt
front-digits (d ∷ ds) (suc i) all =
    let parts = and_parts (is_ascii_digit d) (list_all is_ascii_digit ds) all in
    (digit-small d parts.0, front-digits ds i parts.1)

-- what stands before one of 19 digits writes less than ten to the eighteenth
pub front_small : (ds : List ℕ) (i : ℕ) → i < length ds → length ds ≤ 19 → list_all is_ascii_digit ds ≡ true → digits_value 10 (take i ds) < 10 ^ 18
front_small ds i within few all =
    let len : length (take i ds) ≡ i = length-take-le i ds (omega (arith, within)) in
    let front = digits_value-lt 10 (take i ds) (front-digits ds i all) in
    let short : length (take i ds) ≤ 18 = omega (arith, len) in
    let most : 10 ^ length (take i ds) ≤ 10 ^ 18 = pow-le-pow_right (omega arith) short in
    omega arith

-- each of the digits is one
digit-at : (ds : List ℕ) (i : ℕ) → i < length ds → list_all is_ascii_digit ds ≡ true → is_ascii_digit (get_or ds i 0) ≡ true
digit-at [] i lt all = absurd (omega arith)
digit-at (d ∷ ds) zero lt all = (and_parts (is_ascii_digit d) (list_all is_ascii_digit ds) all).0
digit-at (d ∷ ds) (suc i) lt all = digit-at ds i (omega arith) (and_parts (is_ascii_digit d) (list_all is_ascii_digit ds) all).1

-- the number with one digit more
pub next_number : (ds : List ℕ) (i number : ℕ) → i < length ds → list_all is_ascii_digit ds ≡ true → number ≡ digits_value 10 (take i ds)
    → digits_value 10 (take (i + 1) ds) ≡ number * 10 + (get_or ds i 0 - 48)
next_number ds i number lt all value =
    let digit = digit-at ds i lt all in
    let worth : digit_value (get_or ds i 0) ≡ get_or ds i 0 - 48 = grind (arith, nat_tests) in
    rw (digits_value_more 10 ds i lt, worth, value)
