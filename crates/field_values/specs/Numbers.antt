-- Whole numbers of 64 bits, as JSON numbers and as texts.
use Rattle.std.specs.Prelude.{ℕ, Bool, ◌&&◌, ◌||◌, ◌==◌, nat_lt, if◌then◌else◌, ℤ, pos, negsuc, int_le, List, length, drop, slice_index, Option, Some, None, Result, Ok, Err}
use Rattle.std.specs.Char.{is_ascii_digit}
use Rattle.std.specs.List.{list_all}
use Rattle.std.specs.Str.Parse.{signed_digits_value, starts_with_minus}
use Rattle.serde_json.specs.Data.{Data, null, boolean, number, string, array, object}
use Rattle.serde_json.specs.Find.{as_integer}
use Rattle.field_values.specs.declared.fault.FieldFault.{FieldFault}
use Rattle.field_values.specs.declared.fault.FieldFault.TheVariants.{Fraction, OutOfRange, WrongValue}

-- the number, from -2^63 to 2^63 - 1
abbrev pub in_range : ℤ → Result ℤ FieldFault
in_range z =
    if int_le (negsuc 0x7fff_ffff_ffff_ffff) z && int_le z (pos 0x7fff_ffff_ffff_ffff) then Ok z
    else Err OutOfRange

-- the number, if there is one, else the fault
abbrev pub in_range_or : FieldFault → Option ℤ → Result ℤ FieldFault
in_range_or fault (Some z) = in_range z
in_range_or fault None = Err fault

-- digits, the first of them not `0`
abbrev pub is_positive : List ℕ → Bool
is_positive digits = list_all is_ascii_digit digits && nat_lt 48 (slice_index digits 0)

-- `0`, or digits of which the first is not `0`, perhaps after `-`
abbrev pub is_number : List ℕ → Bool
is_number text =
    if starts_with_minus text then is_positive (drop 1 text)
    else (is_positive text || (length text == 1 && slice_index text 0 == 48))

-- the number that a text writes so
abbrev pub number_in_text : List ℕ → Option ℤ
number_in_text text = if is_number text then Some (signed_digits_value 10 text) else None

-- the whole number that a JSON value is: a number, or a text that writes one
abbrev pub whole_of : Data → Result ℤ FieldFault
whole_of null = Err WrongValue
whole_of (boolean b) = Err WrongValue
whole_of (number n) = in_range_or Fraction (as_integer n)
whole_of (string s) = in_range_or WrongValue (number_in_text s)
whole_of (array ds) = Err WrongValue
whole_of (object ms) = Err WrongValue
