use Rattle.zone_laws.proofs.PlainLaws.{owners_see}
use Rattle.zone_laws.proofs.laws.owners_see_all.Goals as goal

pub returns : goal.returns
returns c = owners_see
