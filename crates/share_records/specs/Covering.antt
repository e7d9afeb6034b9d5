-- Which names shares cover, by the names with their parents.
use Rattle.std.specs.Prelude.{ℕ, Bool, ◌&&◌, List}
use Rattle.std.specs.List.{list_any}
use Rattle.name_rules.specs.Parents.{Link, is_above}
use Rattle.share_records.specs.declared.permission.Permission.{Permission}
use Rattle.share_records.specs.declared.share.Share.{Share as ShareOf}
use Rattle.share_records.specs.Permissions.{gives}

-- the root is at or above x, and its share gives the user at least that permission
abbrev pub reaches : List Link → Permission → List ℕ → List ℕ → ShareOf → Bool
reaches links least u x s = is_above links s.root x && gives least u s

-- of several such shares the highest permission counts
abbrev pub gives_at : List Link → List ShareOf → Permission → List ℕ → List ℕ → Bool
gives_at links shares least u x = list_any (reaches links least u x) shares
