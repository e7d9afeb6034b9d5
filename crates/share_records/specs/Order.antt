-- The order of permissions.
use Rattle.std.specs.Ordering.{nat_cmp}
use Rattle.std.specs.declared.cmp.Ordering.{Ordering}
use Rattle.share_records.specs.declared.permission.Permission.{Permission}
use Rattle.share_records.specs.Permissions.{rank}

-- permissions go by rank
abbrev pub permission_cmp : Permission → Permission → Ordering
permission_cmp a b = nat_cmp (rank a) (rank b)
