-- Names are texts.
use Rattle.std.proofs.Common.{◌≡◌, ℕ, ◌≤◌, nat_lt, nat_le, List, Bool, not, length, arith, inl, inr}
use Rattle.std.specs.Prelude.{None, slice_index, IsUtf8}
use Rattle.std.specs.Str.{IsAscii}
use Rattle.std.specs.List.{position_or_len}
use Rattle.std.proofs.lemmas.Bool.{cases_lt, cases_Bool, ltb-false, leb-true, and_parts, not-false}
use Rattle.std.proofs.lemmas.List.{get_or_past}
use Rattle.std.proofs.lemmas.List.Sums.{fails_before_first}
use Rattle.std.proofs.lemmas.Str.{IsUtf8-from_ascii}
use Rattle.ck_base.specs.Names.{is_name_byte, first_outside, IsName}

abbrev outside : ℕ → Bool
outside b = not (is_name_byte b)

none_outside : (bytes : List ℕ) → first_outside bytes ≡ None → length bytes ≤ position_or_len outside bytes
none_outside bytes h = elim (cases_Bool (nat_lt (position_or_len outside bytes) (length bytes))) [
  | inl e ↦ absurd (let some = rw e at h in cc)
  | inr e ↦ ltb-false _ _ e
]

name_ascii : (bytes : List ℕ) → first_outside bytes ≡ None → IsAscii bytes
name_ascii bytes h i = elim (cases_lt i (length bytes)) [
  | inl within ↦
      let all = none_outside bytes h in
      let allowed = not-false (is_name_byte (slice_index bytes i)) (fails_before_first outside bytes i 0 (omega arith)) in
      let high = leb-true (slice_index bytes i) 0x7E (and_parts (nat_le 0x20 (slice_index bytes i)) _ allowed).1 in
      omega (arith, high)
  | inr past ↦ rw (get_or_past bytes i 0 past) (omega arith)
]

-- a name is ASCII
pub name_utf8 : (bytes : List ℕ) → IsName bytes → IsUtf8 bytes
name_utf8 bytes name = IsUtf8-from_ascii bytes (name_ascii bytes name.2)
