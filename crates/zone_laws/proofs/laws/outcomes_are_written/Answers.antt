use Rattle.zone_laws.proofs.WrittenLaws.{outcomes_written}
use Rattle.zone_laws.proofs.laws.outcomes_are_written.Goals as goal

pub returns : goal.returns
returns c = outcomes_written
