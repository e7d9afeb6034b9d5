use Rattle.std.proofs.Common.{◌∙◌, refl, ap}
use Rattle.serde_json.specs.Data.{object}
use Rattle.serde_json.specs.View.{members_view}
use Rattle.serde_json.proofs.Views.{view-Object}
use Rattle.ck_records.specs.Objects.{put_all}
use Rattle.ck_records.specs.DraftWriting.{first_members, last_members, draft_members}
use Rattle.ck_records.proofs.ObjectLemmas.{put_in_place}
use Rattle.ck_records.proofs.draft_write.draft_json.Goals as goal

-- the rows were put from the last to the first
pub returns : goal.returns
returns c =
    let d = c.args.draft.now in
    let last = c.in_ok-put_last.ensures ∙ ap (put_all (last_members d)) (ap members_view c.new-members.ensures.empty) in
    let first = c.in_ok-put_first.ensures ∙ ap (put_all (first_members d)) last in
    view-Object c.put_first.new.members ∙ ap object (first ∙ put_in_place (draft_members d) refl)
