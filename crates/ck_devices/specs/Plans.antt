-- Which calls of a device in memory fail.
use Rattle.std.specs.Prelude.{ℕ, Bool, ◌==◌, List}
use Rattle.std.specs.List.{list_any}
use Rattle.ck_devices.specs.Causes.{one_more, Failures, unused, used}

-- the numbers of the calls that fail, how many calls there were, and how they failed
pub record Plan : Type 0 where
  pub fails : List ℕ
  pub calls : ℕ
  pub failures : Failures

-- no call was made
abbrev pub fresh : List ℕ → Plan
fresh fails = record { fails = fails; calls = 0; failures = unused }

-- whether the next call fails: its number, from 1, is listed
abbrev pub fails_next : Plan → Bool
fails_next plan = list_any (λ n. n == one_more plan.calls) plan.fails

-- the plan after one more call, which failed or did not
abbrev pub counted : Plan → Bool → Plan
counted plan failed =
    record { fails = plan.fails; calls = one_more plan.calls; failures = used plan.failures failed }
