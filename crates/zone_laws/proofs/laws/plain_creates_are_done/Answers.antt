use Rattle.zone_laws.proofs.PlainLaws.{creates_done}
use Rattle.zone_laws.proofs.laws.plain_creates_are_done.Goals as goal

pub returns : goal.returns
returns c = creates_done
