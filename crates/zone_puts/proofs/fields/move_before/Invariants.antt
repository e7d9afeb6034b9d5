use Rattle.std.proofs.Common.{length}
use Rattle.zone_puts.proofs.FieldLemmas.{IsMoving}
use Rattle.zone_puts.proofs.fields.move_before.Given as goal

abbrev pub invariant-loop-field : goal.invariant-loop-field
invariant-loop-field l = IsMoving l.name l.fn.after.items l.fn.rest.items l.after.items l.rest.items

abbrev pub decreases-loop-field : goal.decreases-loop-field
decreases-loop-field l = length l.rest.items
