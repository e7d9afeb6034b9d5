use Rattle.zone_laws.proofs.RepeatLaws.{nothing_in_step}
use Rattle.zone_laws.proofs.laws.nothing_is_in_step.Goals as goal

pub returns : goal.returns
returns c = nothing_in_step
