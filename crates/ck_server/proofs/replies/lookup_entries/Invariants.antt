use Rattle.std.proofs.Common.{◌≡◌, ◌++◌, map, drop, reverse}
use Rattle.std.specs.List.{zip}
use Rattle.talk_model.specs.Calls.{found_entry}
use Rattle.ck_server.proofs.replies.lookup_entries.Given as goal

abbrev pub invariant-loop-name : goal.invariant-loop-name
invariant-loop-name l = l.entries ++ map (found_entry l.keys) (zip (drop l.name-index l.names) (reverse l.rest)) ≡ map (found_entry l.keys) (zip l.names l.fn.records)
