use Rattle.zone_laws.proofs.MeantLaws.{meant_lawful}
use Rattle.zone_laws.proofs.laws.meant_requests_are_lawful.Goals as goal

pub returns : goal.returns
returns c = meant_lawful
