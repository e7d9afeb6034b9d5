use Rattle.modify_ops.proofs.ReadsBackLemmas.{ops_read_back}
use Rattle.modify_ops.proofs.laws.ops_read_back.Goals as goal

pub returns : goal.returns
returns c = ops_read_back
