use Rattle.std.proofs.Common.{◌≡◌, map, take}
use Rattle.serde_json.specs.View.{view}
use Rattle.wire_calls.specs.Replies.{reply_entry_data}
use Rattle.wire_calls.proofs.reply_write.each_entry.Given as goal

abbrev pub invariant-loop-entry : goal.invariant-loop-entry
invariant-loop-entry l = map view l.list.items ≡ map (reply_entry_data l.owner l.numbers_as_strings) (take l.entry-index l.entries)
