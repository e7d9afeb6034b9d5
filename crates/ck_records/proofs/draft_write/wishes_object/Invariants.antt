use Rattle.std.proofs.Common.{◌≡◌, take}
use Rattle.serde_json.specs.View.{members_view}
use Rattle.ck_records.specs.DraftWriting.{wishes_members}
use Rattle.ck_records.proofs.draft_write.wishes_object.Given as goal

abbrev pub invariant-loop-wish : goal.invariant-loop-wish
invariant-loop-wish l = members_view l.members.entries ≡ wishes_members (take l.wish-index l.wishes)
