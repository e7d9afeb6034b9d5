use Rattle.zone_laws.proofs.RepeatLaws.{copies_in_step}
use Rattle.zone_laws.proofs.laws.copies_stay_in_step.Goals as goal

pub returns : goal.returns
returns c = copies_in_step
