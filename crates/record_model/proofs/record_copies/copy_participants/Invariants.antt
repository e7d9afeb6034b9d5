use Rattle.std.proofs.Common.{◌≡◌, take}
use Rattle.record_model.proofs.record_copies.copy_participants.Given as goal

abbrev pub invariant-loop-participant : goal.invariant-loop-participant
invariant-loop-participant l = l.copies.items ≡ take l.participant-index l.participants
