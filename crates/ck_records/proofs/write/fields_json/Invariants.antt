use Rattle.std.proofs.Common.{◌≡◌, take}
use Rattle.serde_json.specs.View.{members_view}
use Rattle.ck_records.specs.Writing.{fields_members}
use Rattle.ck_records.proofs.write.fields_json.Given as goal

abbrev pub invariant-loop-field : goal.invariant-loop-field
invariant-loop-field l = members_view l.members.entries ≡ fields_members l.numbers_as_strings (take l.field-index l.fields)
