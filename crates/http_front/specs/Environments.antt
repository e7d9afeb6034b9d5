-- The environments of a container, as the CloudKit Web Services Reference names them.
use Rattle.std.specs.Prelude.{ℕ, Bool, ◌||◌, List, codes}
use Rattle.std.specs.Str.{bytes_eq}

-- one of the two environments
abbrev pub is_environment : List ℕ → Bool
is_environment bytes = bytes_eq bytes (codes "development") || bytes_eq bytes (codes "production")
