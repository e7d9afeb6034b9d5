use Rattle.wire_calls.proofs.ReadsBackLemmas.{calls_read_back}
use Rattle.wire_calls.proofs.laws.calls_read_back.Goals as goal

pub returns : goal.returns
returns c = calls_read_back
