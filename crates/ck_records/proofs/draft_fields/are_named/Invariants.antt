use Rattle.std.proofs.Common.{◌≡◌}
use Rattle.std.specs.List.{list_all}
use Rattle.serde_json.specs.View.{members_view}
use Rattle.ck_records.specs.DraftFields.{entries, is_named}
use Rattle.ck_records.proofs.draft_fields.are_named.Given as goal

abbrev pub invariant-loop-name : goal.invariant-loop-name
invariant-loop-name l = list_all is_named (entries (members_view l.members.entries)) ≡ list_all is_named (entries (members_view l.name-iterator))
