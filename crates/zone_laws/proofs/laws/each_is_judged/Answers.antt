use Rattle.zone_laws.proofs.ConflictLaws.{all_judged}
use Rattle.zone_laws.proofs.laws.each_is_judged.Goals as goal

pub returns : goal.returns
returns c = all_judged
