use Rattle.std.proofs.Common.{◌+◌, ◌-◌, length}
use Rattle.zone_judging.specs.Removal.{left}
use Rattle.zone_judging.proofs.RemovalLemmas.{IsSpreading}
use Rattle.zone_judging.proofs.cascade.spread.Given as goal

abbrev pub invariant-loop-at : goal.invariant-loop-at
invariant-loop-at g l = IsSpreading (g.V.Sees.rows l.zone) l.taken l.initial.names.items l.names.items l.at

abbrev pub decreases-loop-at : goal.decreases-loop-at
decreases-loop-at g l = (left (g.V.Sees.rows l.zone) l.names.items + length l.names.items) - l.at
