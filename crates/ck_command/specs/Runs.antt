-- What a run answers, and what it says on standard error.
use Rattle.std.specs.Prelude.{◌≡◌, ◌≢◌, ◌↔◌, ℕ, List, Option, None, Some, ⊤}
use Rattle.ck_devices.specs.Causes.{Failures}
use Rattle.ck_devices.specs.Files.{Files}
use Rattle.ck_command.specs.declared.endings.Ending.{Ending}
use Rattle.ck_command.specs.Arguments.{RunArguments}
use Rattle.ck_command.specs.UsersFile.{AsksForNoTable}
use Rattle.ck_command.specs.Endings.{status_of}
use Rattle.ck_command.specs.Lines.{line_of, Tells}

-- where the shelf tells its files, the status is 3 exactly at right words that name no table of users,
-- unless a device failed or memory ran out
abbrev pub IsThreeAtNoTable : Option Files → Option RunArguments → ℕ → Type 0
IsThreeAtNoTable None asked status = ⊤
IsThreeAtNoTable (Some files) asked status =
    status ≢ 1 → status ≢ 5 → (status ≡ 3) ↔ AsksForNoTable files asked

-- what standard error holds, where it tells it, and how it has failed
pub record Errors : Type 0 where
  pub held : Option (List ℕ)
  pub failures : Failures

-- the run ended so, and its status and its line tell it
pub record Ran (before after : Errors) (status : ℕ) (runs : Ending → Type 0) : Type 0 where
  pub ending : Ending
  pub does : runs ending
  pub status_is : status ≡ status_of ending
  pub told : Tells before.held after.held before.failures after.failures (line_of ending)
