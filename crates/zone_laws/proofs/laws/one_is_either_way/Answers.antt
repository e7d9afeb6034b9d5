use Rattle.zone_laws.proofs.PlainLaws.{one_either_way}
use Rattle.zone_laws.proofs.laws.one_is_either_way.Goals as goal

pub returns : goal.returns
returns c = one_either_way
