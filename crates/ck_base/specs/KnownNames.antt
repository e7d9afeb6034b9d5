-- The names that the service knows.
use Rattle.std.specs.Prelude.{ℕ, Bool, ◌&&◌, List, codes, bytes_eq}
use Rattle.ck_base.specs.declared.key.ZoneKey.{ZoneKey}

-- the zone that each user has from the start
abbrev pub default_zone : List ℕ
default_zone = codes "_defaultZone"

-- the owner that stands for the caller
abbrev pub default_owner : List ℕ
default_owner = codes "__defaultOwner__"

-- the type of the records that are shares
abbrev pub share_type : List ℕ
share_type = codes "cloudkit.share"

abbrev pub own_default : List ℕ → ZoneKey
own_default user = record { owner = user; zone = default_zone }

abbrev pub is_own_default : List ℕ → ZoneKey → Bool
is_own_default user key = bytes_eq key.owner user && bytes_eq key.zone default_zone
