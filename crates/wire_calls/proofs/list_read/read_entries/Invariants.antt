use Rattle.std.proofs.Common.{◌≡◌, map, take, length}
use Rattle.serde_json.specs.View.{view}
use Rattle.wire_calls.specs.Found.{AreEntriesFor}
use Rattle.wire_calls.proofs.list_read.read_entries.Given as goal

abbrev pub invariant-loop-place : goal.invariant-loop-place
invariant-loop-place g l = record {
  count : length l.items ≡ length l.asked;
  so_far : AreEntriesFor (g.R.EntryReader.is_asked l.reader) (g.R.EntryReader.entry_data l.reader) (take l.place l.asked) (map view (take l.place l.items)) l.entries.items;
}
