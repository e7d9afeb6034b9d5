-- The file that the words name, where the shelf tells its files.
use Rattle.std.specs.Prelude.{◌≡◌, ℕ, List, Option, None, Some, ⊤, option_and_then, IsSome}
use Rattle.std.specs.Result.{result_ok}
use Rattle.ck_devices.specs.Files.{Files, file}
use Rattle.http_front.specs.Users.{Table, table_of}
use Rattle.ck_command.specs.Arguments.{RunArguments}

-- the table of users that the file of that name holds
abbrev pub table_in : Files → List ℕ → Option Table
table_in files name = option_and_then (λ bytes. result_ok (table_of bytes)) (file files name)

-- there is such a file, and it holds a table of users
abbrev pub HoldsUsers : Option Files → List ℕ → Type 0
HoldsUsers None name = ⊤
HoldsUsers (Some files) name = IsSome (table_in files name)

-- there is no such file, or it holds no table of users
abbrev pub LacksUsers : Option Files → List ℕ → Type 0
LacksUsers None name = ⊤
LacksUsers (Some files) name = table_in files name ≡ None

-- the words are right, and the file that they name is missing or holds no table of users
abbrev pub AsksForNoTable : Files → Option RunArguments → Type 0
AsksForNoTable files None = ⊥
AsksForNoTable files (Some asked) = table_in files asked.users ≡ None
