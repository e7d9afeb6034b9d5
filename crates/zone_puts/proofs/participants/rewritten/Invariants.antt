use Rattle.std.proofs.Common.{[], drop}
use Rattle.zone_puts.proofs.ParticipantLemmas.{IsPutting}
use Rattle.zone_puts.proofs.participants.rewritten.Given as goal

abbrev pub invariant-loop-w : goal.invariant-loop-w
invariant-loop-w l = IsPutting l.old l.after.items [] l.wanted (drop l.w-index l.wanted)
