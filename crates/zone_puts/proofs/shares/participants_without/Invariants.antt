use Rattle.std.proofs.Common.{◌≡◌, ◌++◌, length, filter}
use Rattle.zone_puts.specs.Participants.{is_other}
use Rattle.zone_puts.proofs.shares.participants_without.Given as goal

abbrev pub invariant-loop-p : goal.invariant-loop-p
invariant-loop-p l = filter (is_other l.user) l.left ++ l.rest.items ≡ filter (is_other l.user) l.fn.participants

abbrev pub decreases-loop-p : goal.decreases-loop-p
decreases-loop-p l = length l.left
