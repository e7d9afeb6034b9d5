use Rattle.zone_laws.proofs.OnePutLaws.{one_put_more}
use Rattle.zone_laws.proofs.laws.one_put_more.Goals as goal

pub returns : goal.returns
returns c = one_put_more
