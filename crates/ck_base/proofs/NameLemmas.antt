-- The bytes of a name are ASCII, and so they are text.
use Rattle.std.proofs.Common.{◌≡◌, ℕ, zero, suc, ◌+◌, ◌<◌, ◌≤◌, List, [], ◌∷◌, length, Bool, true, false, cond, not, refl, arith, Some, None}
use Rattle.std.specs.Prelude.{slice_index, nat_le, IsUtf8}
use Rattle.std.specs.List.{position_or_len}
use Rattle.std.proofs.lemmas.Bool.{ltb-false, leb-true}
use Rattle.std.proofs.lemmas.Str.{IsUtf8-from_ascii}
use Rattle.ck_base.specs.Names.{is_name_byte, IsName}

outside : ℕ → Bool
outside b = not (is_name_byte b)

-- where no byte is outside, each is at most 0x7E
low_step : (b : ℕ) (t : Bool) → is_name_byte b ≡ t → (bs : List ℕ) → (length bs ≤ position_or_len (λ x. not (is_name_byte x)) bs → (i : ℕ) → slice_index bs i < 128)
    → suc (length bs) ≤ cond (not (not t)) (1 + position_or_len (λ x. not (is_name_byte x)) bs) 0 → (i : ℕ) → slice_index (b ∷ bs) i < 128
low_step b true is bs rest h zero = let fits : nat_le b 0x7E ≡ true = grind arith in omega (arith, leb-true b 0x7E fits)
low_step b true is bs rest h (suc i) = rest (omega arith) i
low_step b false is bs rest h i = absurd (omega (arith, h))

all_low : (bs : List ℕ) → length bs ≤ position_or_len (λ x. not (is_name_byte x)) bs → (i : ℕ) → slice_index bs i < 128
all_low [] h i = omega arith
all_low (b ∷ bs) h i = low_step b (is_name_byte b) refl bs (all_low bs) h i

none_step : (t : Bool) (n : ℕ) → cond t (Some n) None ≡ None → t ≡ false
none_step true n e = absurd (cc)
none_step false n e = refl

pub name_is_text : (bs : List ℕ) → IsName bs → IsUtf8 bs
name_is_text bs name = IsUtf8-from_ascii bs (all_low bs (ltb-false (position_or_len (λ x. not (is_name_byte x)) bs) (length bs) (none_step _ _ name.2)))
