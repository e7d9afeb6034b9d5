use Rattle.zone_laws.proofs.LifeLaws.{lives_kept}
use Rattle.zone_laws.proofs.laws.lives_are_kept.Goals as goal

pub returns : goal.returns
returns c = lives_kept
