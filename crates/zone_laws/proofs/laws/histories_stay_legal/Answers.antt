use Rattle.zone_laws.proofs.LegalLaws.{histories_legal}
use Rattle.zone_laws.proofs.laws.histories_stay_legal.Goals as goal

pub returns : goal.returns
returns c = histories_legal
