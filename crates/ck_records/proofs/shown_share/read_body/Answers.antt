use Rattle.std.proofs.Common.{◌≡◌, true, Some, sym, ap, ◌∙◌}
use Rattle.serde_json.specs.View.{view}
use Rattle.record_model.specs.declared.records.Body.TheVariants.{Share}
use Rattle.record_model.specs.RecordForms.{is_share_type}
use Rattle.ck_records.proofs.ShowsBackLemmas.{two_some, share_is}
use Rattle.ck_records.proofs.shown_share.read_body.Goals as goal

pub returns-in-Some-clause-back : goal.returns-in-Some-clause-back
returns-in-Some-clause-back c = λ r is same.
    let shares : is_share_type r.rtype ≡ true = ap is_share_type (sym same) ∙ sym c.is_share_type.ensures ∙ c.if-not-is_share_type.false in
    let (s, e, share) = share_is is.owner is.as_text (view c.args.json.now) r is.reply shares in
    let one : c.in-Some.share ≡ s = two_some c.in_ok-share.field-0 c.in-Some.share s c.in-Some.is (c.in_ok-share.ensures.back r s is e) in
    ap (λ s. Some (Share s)) one ∙ ap Some (sym e)

pub returns-in-None-clause-back : goal.returns-in-None-clause-back
returns-in-None-clause-back c = λ r is same.
    let shares : is_share_type r.rtype ≡ true = ap is_share_type (sym same) ∙ sym c.is_share_type.ensures ∙ c.if-not-is_share_type.false in
    let (s, e, share) = share_is is.owner is.as_text (view c.args.json.now) r is.reply shares in
    absurd (cc (c.in-None.is, c.in_ok-share.ensures.back r s is e))
