-- What the counts of a stored layout hold: 4 bytes for the lengths of texts, bytes and lists and for the count of fields, 2 for that of
-- participants.
use Rattle.std.specs.Prelude.{ℕ, Bool, ◌^◌, ◌&&◌, nat_lt, List, length}
use Rattle.std.specs.List.{list_all}
use Rattle.record_model.specs.declared.value.Value.{Value, out-Value}
use Rattle.record_model.specs.declared.value.Value.TheOpen.{Value-F}
use Rattle.record_model.specs.ValueOrder.{bytes_part, elements_part}

abbrev pub fits_four_bytes : ℕ → Bool
fits_four_bytes n = nat_lt n (2 ^ 32)

abbrev pub fits_two_bytes : ℕ → Bool
fits_two_bytes n = nat_lt n (2 ^ 16)

-- the bytes of the value can be counted, and its elements
abbrev pub is_short : Value-F Value → Bool
is_short x = fits_four_bytes (length (bytes_part x)) && fits_four_bytes (length (elements_part x))

-- so can those of each of its elements
abbrev pub is_counted : Value → Bool
is_counted v = is_short (out-Value v) && list_all (λ e. is_short (out-Value e)) (elements_part (out-Value v))

-- the fields can be counted, and what is in each value
abbrev pub are_counted : List (List ℕ × Value) → Bool
are_counted fields = fits_four_bytes (length fields) && list_all (λ (field : List ℕ × Value). is_counted field.1) fields
