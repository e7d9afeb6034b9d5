use Rattle.zone_laws.proofs.EntryLaws.{equal_give_none}
use Rattle.zone_laws.proofs.laws.equal_views_give_none.Goals as goal

pub returns : goal.returns
returns c = equal_give_none
