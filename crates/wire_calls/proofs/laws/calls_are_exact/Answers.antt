use Rattle.wire_calls.proofs.CallTextLemmas.{calls_exact}
use Rattle.wire_calls.proofs.laws.calls_are_exact.Goals as goal

pub returns : goal.returns
returns c = calls_exact
