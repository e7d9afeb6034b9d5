use Rattle.std.proofs.Common.{◌≡◌, map, take}
use Rattle.zone_judging.specs.Judged.{refused}
use Rattle.zone_judging.proofs.judging.all_refused.Given as goal

abbrev pub invariant-loop-fault : goal.invariant-loop-fault
invariant-loop-fault l = l.all.items ≡ map refused (take l.fault-index l.faults)
