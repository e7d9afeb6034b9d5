-- Which number a text is.
use Rattle.std.specs.Prelude.{ℕ, ◌^◌, ◌&&◌, nat_lt, if◌then◌else◌, List, length, Option, None, Some}
use Rattle.std.specs.Str.{all_ascii_digits}
use Rattle.std.specs.Str.Parse.{without_leading_plus, digits_value}

-- the number that one digit or more write, below 2^64
abbrev pub digits_number : List ℕ → Option ℕ
digits_number digits =
    if nat_lt 0 (length digits) && (all_ascii_digits digits && nat_lt (digits_value 10 digits) (2 ^ 64))
    then Some (digits_value 10 digits) else None

-- the number that a text is, as std's `parse` reads a u64: digits, perhaps after a plus sign
abbrev pub number_of : List ℕ → Option ℕ
number_of text = digits_number (without_leading_plus text)
