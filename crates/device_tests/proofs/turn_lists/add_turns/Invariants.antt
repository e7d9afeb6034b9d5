use Rattle.std.proofs.Common.{◌≡◌, None}
use Rattle.device_tests.proofs.turn_lists.add_turns.Given as goal

abbrev pub invariant-loop : goal.invariant-loop
invariant-loop g l = (l.pass.lock ≡ l.lock) × (l.pass.turn ≡ None)
