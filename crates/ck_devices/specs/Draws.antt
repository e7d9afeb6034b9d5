-- What a draw of the counting words gives.
use Rattle.std.specs.Prelude.{◌≡◌, ℕ, ◌+◌, ◌%◌, ◌^◌, List, Result, MatchResult, is_err}
use Rattle.std.specs.Int.{w128, to_be_bytes}
use Rattle.ck_devices.specs.Memory.{WordsState}
use Rattle.ck_devices.specs.Plans.{fails_next, counted}

-- a listed draw fails and leaves the number; any other gives it as 16 bytes, the highest first,
-- and goes on to the next, with 0 after the last
pub record Draws {E : Type 0} (before : WordsState) (word : Result (List ℕ) E) (after : WordsState) : Type 0 where
  pub listed : is_err word ≡ fails_next before.plan
  pub counted_is : after.plan ≡ counted before.plan (is_err word)
  pub given : MatchResult word
      (λ bytes. (bytes ≡ to_be_bytes w128 before.next) × (after.next ≡ (before.next + 1) % 2 ^ 128))
      (λ _. after.next ≡ before.next)
