use Rattle.zone_laws.proofs.RepeatLaws.{repeats_dropped}
use Rattle.zone_laws.proofs.laws.repeats_are_dropped.Goals as goal

pub returns : goal.returns
returns c = repeats_dropped
