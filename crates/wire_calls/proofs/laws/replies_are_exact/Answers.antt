use Rattle.wire_calls.proofs.ReplyTextLemmas.{replies_exact}
use Rattle.wire_calls.proofs.laws.replies_are_exact.Goals as goal

pub returns : goal.returns
returns c = replies_exact
