-- What a share lets a user do.
use Rattle.std.specs.Prelude.{ℕ, Bool, true, false, ◌==◌, nat_le, List, find, if◌then◌else◌}
use Rattle.std.specs.Option.{option_map_or}
use Rattle.name_rules.specs.Names.{same}
use Rattle.share_records.specs.declared.permission.Permission.{Permission}
use Rattle.share_records.specs.declared.participant.PartKind.{PartKind}
use Rattle.share_records.specs.declared.participant.Participant.{Participant}
use Rattle.share_records.specs.declared.share.Share.{Share as ShareOf}

-- from the least to the most
abbrev pub rank : Permission → ℕ
rank Permission.Nothing = 0
rank Permission.ReadOnly = 1
rank Permission.ReadWrite = 2

abbrev pub same_permission : Permission → Permission → Bool
same_permission a b = rank a == rank b

abbrev pub is_public : PartKind → Bool
is_public PartKind.Member = false
is_public PartKind.Public = true

-- who accepted an open share has what everyone has
abbrev pub permission_as : PartKind → Permission → Permission → Permission
permission_as PartKind.Member public own = own
permission_as PartKind.Public public own = public

-- before they accept, participants may do nothing
abbrev pub permission_given : Permission → Participant → Permission
permission_given public p = if p.accepted then permission_as p.kind public p.permission else Permission.Nothing

-- what a share lets a user do
abbrev pub permission_in : ShareOf → List ℕ → Permission
permission_in s u = option_map_or (permission_given s.public) (find (λ (p : Participant). same u p.user) s.participants) Permission.Nothing

-- the share gives the user at least that permission
abbrev pub gives : Permission → List ℕ → ShareOf → Bool
gives least u s = nat_le (rank least) (rank (permission_in s u))

-- the user accepted the share with a permission other than none
abbrev pub has_accepted : List ℕ → ShareOf → Bool
has_accepted u s = gives Permission.ReadOnly u s
