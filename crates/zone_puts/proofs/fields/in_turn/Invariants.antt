use Rattle.std.proofs.Common.{◌≡◌, ◌++◌, length}
use Rattle.zone_puts.proofs.fields.in_turn.Given as goal

abbrev pub invariant-loop-field : goal.invariant-loop-field
invariant-loop-field l = l.left ++ l.rest.items ≡ l.fn.fields

abbrev pub decreases-loop-field : goal.decreases-loop-field
decreases-loop-field l = length l.left
