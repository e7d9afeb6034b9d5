use Rattle.zone_laws.proofs.WrittenLaws.{any_least}
use Rattle.zone_laws.proofs.laws.any_least_set_will_do.Goals as goal

pub returns : goal.returns
returns c = any_least
