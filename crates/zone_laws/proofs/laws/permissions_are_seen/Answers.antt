use Rattle.zone_laws.proofs.PermissionLaws.{permissions_seen}
use Rattle.zone_laws.proofs.laws.permissions_are_seen.Goals as goal

pub returns : goal.returns
returns c = permissions_seen
