-- When a device may say that it failed.
use Rattle.std.specs.Prelude.{◌≡◌, ◌≢◌, ℕ, ◌+◌, ◌-◌, ◌^◌, min, Bool, true, false, Result, Err, OnOk, OnErr}

-- one more, where a count of 64 bits stays at its end
abbrev pub one_more : ℕ → ℕ
one_more count = min (count + 1) (2 ^ 64 - 1)

-- how often uses of a device failed, and how many uses came since the last that failed, or since it
-- began
pub record Failures : Type 0 where
  pub count : ℕ
  pub since : ℕ

-- no use was made
abbrev pub unused : Failures
unused = record { count = 0; since = 0 }

-- after one more use, which failed or did not
abbrev pub used : Failures → Bool → Failures
used before true = record { count = one_more before.count; since = 0 }
used before false = record { count = before.count; since = one_more before.since }

-- one use failed, and none came behind it
pub record FailedLast (before now : Failures) : Type 0 where
  pub once : now.count ≡ one_more before.count
  pub last : now.since ≡ 0

-- where it failed, the last use failed and no other; else none failed
pub record Stops {T E : Type 0} (before now : Failures) (result : Result T E) : Type 0 where
  pub kept : OnOk result (now.count ≡ before.count)
  pub failed : OnErr result (FailedLast before now)

-- at this fault the last use failed and no other; else none failed
pub record StopsAt {T E : Type 0} (fault : E) (before now : Failures) (result : Result T E) : Type 0 where
  pub kept : result ≢ Err fault → now.count ≡ before.count
  pub failed : result ≡ Err fault → FailedLast before now

-- one failure was counted
abbrev pub Rose : ℕ → ℕ → Type 0
Rose before now = now ≡ one_more before

-- a failure is counted, and nothing else
pub record HasCause {T E : Type 0} (before now : ℕ) (result : Result T E) : Type 0 where
  pub kept : OnOk result (now ≡ before)
  pub failed : OnErr result (Rose before now)

-- this fault is counted, and nothing else
pub record HasCauseAt {T E : Type 0} (fault : E) (before now : ℕ) (result : Result T E) : Type 0 where
  pub kept : result ≢ Err fault → now ≡ before
  pub failed : result ≡ Err fault → Rose before now
