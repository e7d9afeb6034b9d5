use Rattle.zone_laws.proofs.PeopleLaws.{nobody_let_in}
use Rattle.zone_laws.proofs.laws.nobody_is_let_in.Goals as goal

pub returns : goal.returns
returns c = nobody_let_in
