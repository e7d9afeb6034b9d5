use Rattle.talk_model.proofs.WholeLemmas.{whole_ones_end}
use Rattle.talk_model.proofs.laws.whole_connections_end_well.Goals as goal

pub returns : goal.returns
returns c = whole_ones_end
