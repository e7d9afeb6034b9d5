use Rattle.std.proofs.Common.{◌≡◌, ℕ, List, Some, sym, ap, ◌∙◌}
use Rattle.std.specs.Prelude.{codes, option_and_then}
use Rattle.serde_json.specs.View.{view}
use Rattle.field_values.specs.Members.{found}
use Rattle.field_values.specs.References.{name_in}
use Rattle.record_model.specs.declared.draft.Draft.{Draft}
use Rattle.ck_records.proofs.ShowsBackLemmas.{two_some, created_is, modified_is, link_is}
use Rattle.ck_records.proofs.reply_record.read_members.Goals as goal

abbrev Heads : Type 0
Heads = List ℕ × List ℕ × ℕ

pub returns-in_default-5-clause-back : goal.returns-in_default-5-clause-back
returns-in_default-5-clause-back c = λ r is.
    let heads : ◌≡◌ {A = Heads} (c.in-Some.name, c.in-Some.rtype, c.in-Some.tag) (r.name, r.rtype, r.tag) =
    two_some c.in_ok-name.field-0 _ _ c.in-Some.is (c.in_ok-name.ensures.back r is.drafted is.reply.stored.tag.0 is.reply.stored.tag.1) in
    absurd (cc (c.in_default-5.is, c.in_ok-body.ensures.back r is (ap (λ (h : Heads). h.1) heads)))

pub returns-clause-back : goal.returns-clause-back
returns-clause-back c = λ r is.
    let d = view c.args.json.now in
    let stored = is.reply.stored in
    let heads : ◌≡◌ {A = Heads} (c.in-Some.name, c.in-Some.rtype, c.in-Some.tag) (r.name, r.rtype, r.tag) =
    two_some c.in_ok-name.field-0 _ _ c.in-Some.is (c.in_ok-name.ensures.back r is.drafted stored.tag.0 stored.tag.1) in
    let name : c.name.inside.bytes ≡ r.name = c.name.view_is ∙ ap (λ (h : Heads). h.0) heads in
    let rtype : c.rtype.inside.bytes ≡ r.rtype = c.rtype.view_is ∙ ap (λ (h : Heads). h.1) heads in
    let tag : c.in-Some.tag ≡ r.tag = ap (λ (h : Heads). h.2) heads in
    let parent : c.in_ok-given_parent.field-0 ≡ r.parent = c.in_ok-given_parent.ensures.back r.parent (ap (λ (q : Draft). q.parent) is.drafted) in
    let share : c.in_ok-read_link.field-0 ≡ r.share =
    c.in_ok-read_link.ensures.link ∙ ap (option_and_then (λ d. name_in (found (codes "recordName") d))) c.member-3.ensures ∙ link_is is.owner is.as_text d r is.reply in
    let fields : c.in-Some-2.fields ≡ r.fields = two_some c.in_ok-fields.field-0 c.in-Some-2.fields r.fields c.in-Some-2.is
    (c.in_ok-fields.ensures.back r.fields (c.as_slice.ensures ∙ ap (λ (q : Draft). q.fields) is.drafted) stored.fields) in
    let created : c.in-Some-3.created ≡ r.created = two_some c.in_ok-created.field-0 c.in-Some-3.created r.created c.in-Some-3.is
    (c.in_ok-created.ensures.back r.created stored.created (c.member.ensures ∙ created_is is.owner is.as_text d r is.reply)) in
    let modified : c.in-Some-4.modified ≡ r.modified = two_some c.in_ok-modified.field-0 c.in-Some-4.modified r.modified c.in-Some-4.is
    (c.in_ok-modified.ensures.back r.modified stored.modified (c.member-2.ensures ∙ modified_is is.owner is.as_text d r is.reply)) in
    let body : c.in-Some-5.body ≡ r.body = two_some c.in_ok-body.field-0 c.in-Some-5.body r.body c.in-Some-5.is
    (c.in_ok-body.ensures.back r is (ap (λ (h : Heads). h.1) heads)) in
    λ i. Some (record {
      name = name i;
      rtype = rtype i;
      tag = tag i;
      parent = parent i;
      share = share i;
      fields = fields i;
      created = created i;
      modified = modified i;
      body = body i;
    })
