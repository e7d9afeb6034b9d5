use Rattle.std.proofs.Common.{◌∙◌, ap}
use Rattle.std.specs.Prelude.{codes}
use Rattle.serde_json.specs.Data.{put}
use Rattle.serde_json.specs.View.{members_view}
use Rattle.ck_records.proofs.record_write.put_participants.Goals as goal

pub returns-in_ok-put : goal.returns-in_ok-put
returns-in_ok-put c = rw c.in-Share.is (c.in_ok-put.ensures.ok ∙ ap (λ list. put (codes "participants") list (members_view c.args.members.now.entries)) c.in_ok-list.ensures)
