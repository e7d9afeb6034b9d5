use Rattle.std.proofs.Common.{◌∙◌, refl, ap}
use Rattle.serde_json.specs.Data.{object}
use Rattle.serde_json.specs.View.{members_view}
use Rattle.serde_json.proofs.Views.{view-Object}
use Rattle.ck_records.specs.Objects.{put_all}
use Rattle.ck_records.specs.Writing.{first_members, middle_members, last_members, record_members}
use Rattle.ck_records.proofs.ObjectLemmas.{put_in_place}
use Rattle.ck_records.proofs.record_write.record_json.Goals as goal

-- the rows were put from the last to the first
pub returns : goal.returns
returns c =
    let r = c.args.«record».now in
    let last = c.in_ok-put_last.ensures ∙ ap (put_all (last_members r)) (ap members_view c.new-members.ensures.empty) in
    let middle = c.in_ok-put_middle.ensures ∙ ap (put_all (middle_members c.args.owner.now r)) last in
    let first = c.in_ok-put_first.ensures ∙ ap (put_all (first_members c.args.numbers_as_strings r)) middle in
    view-Object c.put_first.new.members ∙ ap object (first ∙ put_in_place (record_members c.args.owner.now c.args.numbers_as_strings r) refl)
