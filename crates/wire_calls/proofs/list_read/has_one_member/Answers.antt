use Rattle.std.proofs.Common.{rules, ◌≡◌, nat_eq, Some, sym, ap, ◌∙◌}
use Rattle.serde_json.specs.Find.{as_object}
use Rattle.serde_json.specs.View.{view, members_view}
use Rattle.wire_calls.proofs.ReplyListLemmas.{one_member}
use Rattle.wire_calls.proofs.list_read.has_one_member.Goals as goal

pub returns-in-Some : goal.returns-in-Some
returns-in-Some c =
    let there : as_object (view c.args.json.now) ≡ Some (members_view c.in-Some.members.now.entries) = search rules in
    ap (λ n. nat_eq n 1) c.len.ensures.len ∙ sym (one_member (view c.args.json.now) c.in-Some.members.now.entries there)
