use Rattle.zone_laws.proofs.WrittenLaws.{stamps_set}
use Rattle.zone_laws.proofs.laws.stamps_are_set.Goals as goal

pub returns : goal.returns
returns c = stamps_set
