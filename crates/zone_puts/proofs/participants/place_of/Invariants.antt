use Rattle.std.proofs.Common.{◌≡◌, ◌+◌, drop}
use Rattle.zone_puts.specs.Participants.{place_of}
use Rattle.zone_puts.proofs.participants.place_of.Given as goal

abbrev pub invariant-loop-p : goal.invariant-loop-p
invariant-loop-p l = record {
  here : l.place ≡ l.p-index;
  told : l.place + place_of l.user (drop l.p-index l.participants) ≡ place_of l.user l.participants;
}
