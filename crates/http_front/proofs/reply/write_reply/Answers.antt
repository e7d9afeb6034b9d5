use Rattle.std.proofs.Common.{◌++◌, List, ℕ, length, subst, ◌∙◌, ◌≡◌}
use Rattle.ck_devices.specs.Fronts.{WritesFront}
use Rattle.http_front.specs.Replies.{reply_head}
use Rattle.http_front.proofs.ReplyLemmas.{front_of_head, front_of_body}
use Rattle.http_front.proofs.reply.write_reply.Goals as goal

pub returns-in_err-write_whole-clause-front : goal.returns-in_err-write_whole-clause-front
returns-in_err-write_whole-clause-front g c =
    let body = c.args.body.now in
    let old = g.W.Sink.held c.args.sink.now in
    let now = g.W.Sink.held c.write_whole.new.sink in
    let head : c.as_bytes.result.now ≡ reply_head c.args.status (length body) c.args.close = c.as_bytes.ensures.value ∙ c.in_ok-head.ensures in
    λ _. (subst (λ (l : List ℕ). WritesFront old now (l ++ body)) head (front_of_head old now c.as_bytes.result.now body c.in_err-write_whole.ensures.err))

pub returns-in_err-write_whole-2-clause-front : goal.returns-in_err-write_whole-2-clause-front
returns-in_err-write_whole-2-clause-front g c =
    let body = c.args.body.now in
    let old = g.W.Sink.held c.args.sink.now in
    let mid = g.W.Sink.held c.write_whole.new.sink in
    let now = g.W.Sink.held c.write_whole-2.new.sink in
    let head : c.as_bytes.result.now ≡ reply_head c.args.status (length body) c.args.close = c.as_bytes.ensures.value ∙ c.in_ok-head.ensures in
    λ _. (subst (λ (l : List ℕ). WritesFront old now (l ++ body)) head
    (front_of_body old mid now c.as_bytes.result.now body c.in_ok-write_whole.ensures.ok c.in_err-write_whole-2.ensures.err))
