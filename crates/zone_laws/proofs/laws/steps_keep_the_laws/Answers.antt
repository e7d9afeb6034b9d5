use Rattle.zone_laws.proofs.StepsLaws.{steps_kept}
use Rattle.zone_laws.proofs.laws.steps_keep_the_laws.Goals as goal

pub returns : goal.returns
returns c = steps_kept
