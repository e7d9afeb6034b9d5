use Rattle.std.proofs.Common.{◌++◌, List, ℕ, ap, ◌∙◌, ◌≡◌}
use Rattle.std.specs.Prelude.{string_bytes, codes, decimal}
use Rattle.http_front.specs.Replies.{status_line}
use Rattle.http_front.proofs.reply.reply_head.Goals as goal

pub returns : goal.returns
returns c =
    let named = codes "\r\ncontent-type: application/json\r\ncontent-length: " in
    let one : string_bytes c.push_str.new.self ≡ status_line c.args.status ++ named =
    c.in_ok-push_str.ensures.bytes ∙ ap (λ (l : List ℕ). l ++ named) c.in_ok-head.ensures in
    let digits : c.as_str.result.now ≡ decimal c.args.size = c.as_str.ensures.value ∙ c.in_ok-length.ensures.ok in
    let two : string_bytes c.push_str-2.new.self ≡ (status_line c.args.status ++ named) ++ decimal c.args.size =
    c.in_ok-push_str-2.ensures.bytes ∙ (λ i. one i ++ digits i) in
    c.in_ok-push_str-3.ensures.bytes ∙ (λ i. two i ++ c.last_lines.ensures i)
