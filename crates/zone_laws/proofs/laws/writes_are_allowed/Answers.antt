use Rattle.zone_laws.proofs.WrittenLaws.{writes_allowed}
use Rattle.zone_laws.proofs.laws.writes_are_allowed.Goals as goal

pub returns : goal.returns
returns c = writes_allowed
