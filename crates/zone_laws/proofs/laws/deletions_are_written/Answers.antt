use Rattle.zone_laws.proofs.DeletionLaws.{deletions_written}
use Rattle.zone_laws.proofs.laws.deletions_are_written.Goals as goal

pub returns : goal.returns
returns c = deletions_written
