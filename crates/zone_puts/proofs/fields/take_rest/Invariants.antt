use Rattle.std.proofs.Common.{◌≡◌, ◌++◌, length}
use Rattle.zone_puts.proofs.fields.take_rest.Given as goal

abbrev pub invariant-loop-field : goal.invariant-loop-field
invariant-loop-field l = l.after.items ++ l.left.items ≡ l.fn.after.items ++ l.fn.rest.items

abbrev pub decreases-loop-field : goal.decreases-loop-field
decreases-loop-field l = length l.left.items
