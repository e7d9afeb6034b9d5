use Rattle.std.proofs.Common.{rules, ◌≡◌, true, false, Some, map, option_map, sym, ap, subst, ◌∙◌}
use Rattle.std.specs.Prelude.{codes, option_and_then}
use Rattle.serde_json.specs.View.{view}
use Rattle.ck_base.specs.Names.{IsName}
use Rattle.field_values.specs.Members.{found}
use Rattle.record_model.specs.declared.draft.ForRoot.{ForRoot}
use Rattle.ck_records.specs.Shown.{as_root, with_statuses, are_kept}
use Rattle.ck_records.proofs.ShownLemmas.{kept_participants}
use Rattle.ck_records.proofs.ShowsBackLemmas.{two_some, entries_of, share_told, participants_are, they_are_kept}
use Rattle.ck_records.proofs.shown_share.read_share.Goals as goal

pub returns-then-not-are_kept-clause-back : goal.returns-then-not-are_kept-clause-back
returns-then-not-are_kept-clause-back c = λ r s is e.
    let read : c.in_ok-participants.participants ≡ with_statuses c.in-Some-participants.list (entries_of (found (codes "participants") (view c.args.json.now))) =
    cc (c.in_ok-participants.ensures, c.as_slice.ensures, c.after_first-entries.ensures, c.entries_in.ensures, c.member-2.ensures) in
    let kept = they_are_kept c.args.draft.now (view c.args.json.now) r s is e c.in-Some-participants.list c.in_ok-participants.participants c.in-Some-participants.is read in
    absurd (cc (kept, c.are_kept.ensures, c.as_slice-2.ensures, c.if-not-are_kept.true))

pub returns-clause-back : goal.returns-clause-back
returns-clause-back c = λ r s is e.
    let told = share_told c.args.draft.now (view c.args.json.now) r s is e in
    let read : c.in_ok-participants.participants ≡ with_statuses c.in-Some-participants.list (entries_of (found (codes "participants") (view c.args.json.now))) =
    cc (c.in_ok-participants.ensures, c.as_slice.ensures, c.after_first-entries.ensures, c.entries_in.ensures, c.member-2.ensures) in
    let copy : c.in_ok-clone.field-0 ≡ c.in-Some.root.name = search rules in
    let root : c.in_ok-clone.field-0 ≡ s.root = copy ∙ ap (λ (root : ForRoot). root.name) (two_some c.args.draft.now.for_root c.in-Some.root (as_root s) c.in-Some.is told.root) in
    let guid : c.in-Some-read_guid.guid ≡ s.guid = cc (c.in-Some-read_guid.ensures.guid, c.member.ensures, told.guid) in
    let public : c.in-Some-public.public ≡ s.public = two_some c.args.draft.now.public c.in-Some-public.public s.public c.in-Some-public.is told.public in
    let participants : c.in_ok-participants.participants ≡ s.participants =
    participants_are c.args.draft.now (view c.args.json.now) r s is e c.in-Some-participants.list c.in_ok-participants.participants c.in-Some-participants.is read in
    λ i. Some (record { root = root i; guid = guid i; public = public i; participants = participants i })

pub returns-clause-meant : goal.returns-clause-meant
returns-clause-meant c = λ meant.
    let read : c.in_ok-participants.participants ≡ with_statuses c.in-Some-participants.list (entries_of (found (codes "participants") (view c.args.json.now))) =
    cc (c.in_ok-participants.ensures, c.as_slice.ensures, c.after_first-entries.ensures, c.entries_in.ensures, c.member-2.ensures) in
    let copy : c.in_ok-clone.field-0 ≡ c.in-Some.root.name = search rules in
    let kept : are_kept c.in_ok-participants.participants ≡ true = sym (c.are_kept.ensures ∙ ap are_kept c.as_slice-2.ensures) ∙ c.if-not-are_kept.false in
    record {
      root = subst IsName (sym copy) (rw c.in-Some.is at meant.root).0;
      guid = c.in-Some-read_guid.ensures.meant;
      participants = kept_participants c.in_ok-participants.participants c.in-Some-participants.list (entries_of (found (codes "participants") (view c.args.json.now))) read
          (rw c.in-Some-participants.is at meant.participants) kept;
    }
