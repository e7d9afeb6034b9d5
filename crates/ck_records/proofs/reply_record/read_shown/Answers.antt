use Rattle.std.proofs.Common.{◌≡◌, Some, ap, ◌∙◌}
use Rattle.std.specs.Result.{result_ok}
use Rattle.serde_json.specs.View.{view}
use Rattle.ck_records.specs.Shown.{as_draft}
use Rattle.ck_records.proofs.DraftBackLemmas.{reply_drafts}
use Rattle.ck_records.proofs.ShowsBackLemmas.{two_some}
use Rattle.ck_records.proofs.reply_record.read_shown.Goals as goal

pub returns-in-Some-clause-back : goal.returns-in-Some-clause-back
returns-in-Some-clause-back c = λ as_text r is.
    let told = c.in_ok-draft.ensures.draft ∙ ap result_ok (reply_drafts c.args.here.now as_text (view c.args.json.now) r is) in
    c.read_members.ensures.back r (record {
      owner = c.args.here.now.owner;
      as_text = as_text;
      reply = is;
      drafted = two_some c.in_ok-draft.field-0 c.in-Some.draft (as_draft r) c.in-Some.is told;
    })

pub returns-in-None-clause-back : goal.returns-in-None-clause-back
returns-in-None-clause-back c = λ as_text r is.
    let told : c.in_ok-draft.field-0 ≡ Some (as_draft r) = c.in_ok-draft.ensures.draft ∙ ap result_ok (reply_drafts c.args.here.now as_text (view c.args.json.now) r is) in
    absurd (cc (c.in-None.is, told))
