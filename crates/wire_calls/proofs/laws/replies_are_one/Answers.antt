use Rattle.wire_calls.proofs.ReplyLemmas.{replies_are_one}
use Rattle.wire_calls.proofs.laws.replies_are_one.Goals as goal

pub returns : goal.returns
returns c = replies_are_one
