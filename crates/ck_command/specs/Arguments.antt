-- What a command line asks for, and the arguments of `run`.
use Rattle.std.specs.Prelude.{ℕ, not, ◌&&◌, if◌then◌else◌, List, [], ◌∷◌, codes, Option, None, Some, option_and_then}
use Rattle.std.specs.Str.{bytes_eq}
use Rattle.std.specs.Str.Parse.{starts_with_minus}
use Rattle.ck_base.specs.Numbers.{number_of}

-- a file of users, and perhaps a moment that stands for the clock
pub record RunArguments : Type 0 where
  pub users : List ℕ
  pub moment : Option ℕ

-- the file, with the moment that the last word is
abbrev pub at_moment : List ℕ → Option ℕ → Option RunArguments
at_moment users None = None
at_moment users (Some moment) = Some (record { users = users; moment = Some moment })

-- a word that doesn't begin with a hyphen is the file; behind it may stand `--moment` and a number,
-- and other words ask for nothing
abbrev pub asked_of : List (List ℕ) → Option RunArguments
asked_of (users ∷ []) =
    if not (starts_with_minus users) then Some (record { users = users; moment = None }) else None
asked_of (users ∷ flag ∷ number ∷ []) =
    if not (starts_with_minus users) && bytes_eq flag (codes "--moment")
    then at_moment users (number_of number) else None
asked_of _ = None

-- the arguments behind `run`, where that is the first word of a command line
abbrev pub args_of : List (List ℕ) → Option (List (List ℕ))
args_of [] = None
args_of (command ∷ args) = if bytes_eq command (codes "run") then Some args else None

-- what a command line asks for
abbrev pub asked_by : List (List ℕ) → Option RunArguments
asked_by words = option_and_then asked_of (args_of words)
