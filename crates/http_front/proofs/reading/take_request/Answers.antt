use Rattle.std.proofs.Common.{◌≡◌, ◌+◌, ◌-◌, ◌∙◌, ℕ, List, take, drop, refl, ap, arith}
use Rattle.httparse.specs.Spans.{span_bytes}
use Rattle.http_front.proofs.ReadingLemmas.{takes_front}
use Rattle.http_front.proofs.reading.take_request.Goals as goal

behind : (len size : ℕ) → len + size - len ≡ size
behind len size = omega arith

pub returns : goal.returns
returns c =
    let is = c.requires.found.is in
    let bytes = c.as_slice-bytes.ensures in
    let head = c.args.head in
    let method : c.in_ok-method.method ≡ is.head.method = c.in_ok-method.ensures ∙ (c.of.ensures ∙ (ap (λ (b : List ℕ). span_bytes b head.method) bytes ∙ is.method)) in
    let target : c.in_ok-target.target ≡ is.head.target = c.in_ok-target.ensures ∙ (c.of-2.ensures ∙ (ap (λ (b : List ℕ). span_bytes b head.target) bytes ∙ is.target)) in
    let body : c.in_ok-body.body ≡ take c.args.size (drop head.len c.args.buffer.now) =
    c.in_ok-body.ensures ∙ (λ i. take (behind head.len c.args.size i) (drop head.len (bytes i))) in
    takes_front c.args.buffer.now head c.requires.found c.args.size _ _ c.requires.stated c.requires.whole method target refl body c.drop_front.ensures
