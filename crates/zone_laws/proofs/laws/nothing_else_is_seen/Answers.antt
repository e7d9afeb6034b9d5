use Rattle.zone_laws.proofs.PermissionLaws.{nothing_else}
use Rattle.zone_laws.proofs.laws.nothing_else_is_seen.Goals as goal

pub returns : goal.returns
returns c = nothing_else
