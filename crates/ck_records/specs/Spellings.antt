-- How shares are spelled in JSON.
use Rattle.std.specs.Prelude.{ℕ, Bool, if◌then◌else◌, List, [], ◌∷◌, codes, bytes_eq, find, Option, None, Some}
use Rattle.share_records.specs.declared.permission.Permission.{Permission}
use Rattle.share_records.specs.declared.participant.PartKind.{PartKind}
use Rattle.ck_records.specs.declared.spellings.EntryType.{EntryType}
use Rattle.ck_records.specs.declared.spellings.EntryType.TheVariants.{Owner, Listed}

abbrev pub permission_name : Permission → List ℕ
permission_name Permission.Nothing = codes "NONE"
permission_name Permission.ReadOnly = codes "READ_ONLY"
permission_name Permission.ReadWrite = codes "READ_WRITE"

-- the permission that has the name
abbrev pub permission_named : List ℕ → Option Permission
permission_named name =
    find (λ p. bytes_eq (permission_name p) name) (Permission.Nothing ∷ Permission.ReadOnly ∷ Permission.ReadWrite ∷ [])

abbrev pub kind_name : PartKind → List ℕ
kind_name PartKind.Member = codes "USER"
kind_name PartKind.Public = codes "PUBLIC_USER"

-- whom an entry with this type is for
abbrev pub type_named : List ℕ → Option EntryType
type_named name =
    if bytes_eq name (codes "OWNER") then Some Owner
    else (if bytes_eq name (codes "USER") then Some (Listed PartKind.Member)
    else (if bytes_eq name (codes "PUBLIC_USER") then Some (Listed PartKind.Public) else None))

abbrev pub status_name : Bool → List ℕ
status_name accepted = if accepted then codes "ACCEPTED" else codes "INVITED"
