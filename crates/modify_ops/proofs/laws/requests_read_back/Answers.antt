use Rattle.modify_ops.proofs.ReadsBackLemmas.{requests_read_back}
use Rattle.modify_ops.proofs.laws.requests_read_back.Goals as goal

pub returns : goal.returns
returns c = requests_read_back
