use Rattle.std.proofs.Common.{◌≡◌, ◌++◌, drop, map}
use Rattle.zone_model.specs.Events.{log_of}
use Rattle.plain_creates.specs.OnePuts.{last_put}
use Rattle.zone_board.proofs.find.find_records.Given as goal

abbrev pub invariant-loop-name : goal.invariant-loop-name
invariant-loop-name l = l.found.items ++ map (λ x. last_put l.key x (log_of l.events)) (drop l.name-index l.names) ≡ map (λ x. last_put l.key x (log_of l.events)) l.names
