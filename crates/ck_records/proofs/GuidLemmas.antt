-- The digits of a share's GUID are text.
use Rattle.std.proofs.Common.{◌≡◌, ℕ, zero, suc, ◌<◌, List, [], ◌∷◌, true, ◌&&◌, nat_le, arith, inl, inr}
use Rattle.std.specs.Prelude.{slice_index, IsUtf8}
use Rattle.std.specs.List.{list_all}
use Rattle.std.proofs.lemmas.Bool.{and_parts, or_cases, leb-true}
use Rattle.std.proofs.lemmas.Str.{IsUtf8-from_ascii}
use Rattle.ck_base.specs.Guids.{is_hex_digit, IsGuid}

digit_low : (b : ℕ) → is_hex_digit b ≡ true → b < 128
digit_low b h = elim (or_cases (nat_le 0x30 b && nat_le b 0x39) _ h) as (λ _. b < 128) [
  | inl d ↦ omega (arith, leb-true b 0x39 (and_parts (nat_le 0x30 b) _ d).1)
  | inr l ↦ omega (arith, leb-true b 0x66 (and_parts (nat_le 0x61 b) _ l).1)
]

all_low : (bs : List ℕ) → list_all is_hex_digit bs ≡ true → (i : ℕ) → slice_index bs i < 128
all_low [] h i = omega arith
all_low (b ∷ bs) h zero = digit_low b (and_parts (is_hex_digit b) _ h).0
all_low (b ∷ bs) h (suc i) = all_low bs (and_parts (is_hex_digit b) _ h).1 i

pub guid_is_text : (bs : List ℕ) → IsGuid bs → IsUtf8 bs
guid_is_text bs guid = IsUtf8-from_ascii bs (all_low bs guid.1)
