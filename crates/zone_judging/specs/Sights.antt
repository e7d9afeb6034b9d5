-- The records that some caller may see of a zone: in order of names, and the root of each share is seen and names it.
use Rattle.std.specs.Prelude.{◌≡◌, ℕ, Bool, ◌&&◌, List, Option, Some, IfSome, option_and_then}
use Rattle.std.specs.List.{AllByRecursion}
use Rattle.share_records.specs.declared.permission.Permission.{Permission}
use Rattle.share_records.specs.declared.share.Share.{Share as ShareOf}
use Rattle.share_records.specs.Permissions.{gives}
use Rattle.record_model.specs.declared.records.Record.{Record}
use Rattle.name_rules.specs.Options.{is_some_and}
use Rattle.zone_model.specs.Names.{same}
use Rattle.zone_model.specs.Records.{record_at, share_of, IsAscending}

-- the share that the record of a name names
abbrev pub marked : List Record → List ℕ → Option (List ℕ)
marked rows x = option_and_then (λ (r : Record). r.share) (record_at rows x)

abbrev pub IsRooted : List Record → Record → Type 0
IsRooted rows r = IfSome (share_of r) (λ s. marked rows s.root ≡ Some r.name)

pub record AreSeen (rows : List Record) : Type 0 where
  pub ordered : IsAscending rows
  pub rooted : AllByRecursion (IsRooted rows) rows

-- the share is that of the root, and lets the user write
abbrev pub lets_write : List ℕ → List ℕ → ShareOf → Bool
lets_write u root s = same root s.root && gives Permission.ReadWrite u s

-- the share of that name does
abbrev pub share_lets : List Record → List ℕ → List ℕ → List ℕ → Bool
share_lets rows u root name = is_some_and (lets_write u root) (option_and_then share_of (record_at rows name))

-- the name is a root whose share lets the user write
abbrev pub permits : List Record → List ℕ → List ℕ → Bool
permits rows u root = is_some_and (share_lets rows u root) (marked rows root)
