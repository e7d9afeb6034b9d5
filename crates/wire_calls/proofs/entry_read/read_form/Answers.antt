use Rattle.std.proofs.Common.{rules, ◌≡◌, None}
use Rattle.serde_json.specs.View.{view}
use Rattle.ck_records.specs.Replied.{IsReplyOf}
use Rattle.wire_calls.specs.Found.{IsGone}
use Rattle.wire_calls.proofs.EntryLemmas.{none_is, form_of_answer}
use Rattle.wire_calls.proofs.entry_read.read_form.Goals as goal

pub returns : goal.returns
returns c =
    let d = view c.args.json.now in
    let owner = c.args.here.now.owner in
    let no_record : c.in_ok-record.field-0 ≡ None = search rules in
    let not_gone : c.in_ok-name.field-0 ≡ None = search rules in
    form_of_answer owner c.args.numbers_as_strings d (none_is (IsReplyOf owner c.args.numbers_as_strings d) c.in_ok-record.field-0 c.in_ok-record.ensures no_record)
    (none_is (IsGone d) c.in_ok-name.field-0 c.in_ok-name.ensures not_gone) c.read_error.result c.read_error.ensures
