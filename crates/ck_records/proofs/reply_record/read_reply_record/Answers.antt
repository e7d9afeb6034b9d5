use Rattle.std.proofs.Common.{◌≡◌, sym, ◌∙◌}
use Rattle.serde_json.specs.View.{view}
use Rattle.ck_records.proofs.StoredLemmas.{other_json, same_json}
use Rattle.ck_records.proofs.reply_record.read_reply_record.Goals as goal

pub returns-then-branch-clause-stored : goal.returns-then-branch-clause-stored
returns-then-branch-clause-stored c =
    same_json c.args.here.now.owner c.args.numbers_as_strings (view c.args.json.now) (view c.in_ok-written.written) c.in-Some.record
    (rw c.in-Some.is at c.in_ok-record.ensures.stored) c.in_ok-written.ensures c.in_ok-same_json.field-0 c.in_ok-same_json.ensures c.if-branch.true

pub returns-else-branch-clause-other : goal.returns-else-branch-clause-other
returns-else-branch-clause-other c = λ not r is.
    other_json c.args.here.now.owner c.args.numbers_as_strings (view c.args.json.now) (view c.in_ok-written.written) c.in-Some.record r
    (λ is. sym c.in-Some.is ∙ c.in_ok-record.ensures.back c.args.numbers_as_strings r is) c.in_ok-written.ensures
    c.in_ok-same_json.field-0 c.in_ok-same_json.ensures c.if-branch.false is
