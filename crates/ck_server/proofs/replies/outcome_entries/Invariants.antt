use Rattle.std.proofs.Common.{◌≡◌, ◌++◌, map, drop, reverse}
use Rattle.std.specs.List.{zip}
use Rattle.talk_model.specs.Calls.{entry_of}
use Rattle.ck_server.proofs.replies.outcome_entries.Given as goal

abbrev pub invariant-loop-name : goal.invariant-loop-name
invariant-loop-name l = l.entries ++ map entry_of (zip (drop l.name-index l.names) (reverse l.rest)) ≡ map entry_of (zip l.names l.fn.outcomes)
