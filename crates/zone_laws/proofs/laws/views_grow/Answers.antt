use Rattle.zone_laws.proofs.RepeatLaws.{views_grow}
use Rattle.zone_laws.proofs.laws.views_grow.Goals as goal

pub returns : goal.returns
returns c = views_grow
