use Rattle.std.proofs.Common.{reverse}
use Rattle.ck_server.proofs.ReplyLemmas.{turned_more, turned_all}
use Rattle.ck_server.proofs.replies.turned.Goals as goal

pub loop-item-preserved : goal.loop-item-preserved
loop-item-preserved g c =
    turned_more c.loop-item.turned c.push.new.self c.loop-item.rest c.pop.new.self c.in-Some.item (reverse c.args.items) c.loop-item.invariant c.in-Some.ensures c.in_ok-push.ensures.ok

pub returns : goal.returns
returns g c = turned_all c.loop-item.turned c.loop-item.rest (reverse c.args.items) c.loop-item.invariant c.in_default.ensures.0
