use Rattle.wire_calls.proofs.ReplyLemmas.{only}
use Rattle.wire_calls.proofs.reply_read.read_reply.Goals as goal

pub returns-clause-only : goal.returns-clause-only
returns-clause-only c = only c.args.call.now c.args.status c.args.body.now c.read_body.result c.read_body.ensures
