use Rattle.std.proofs.Common.{◌&&◌, take}
use Rattle.zone_model.specs.Names.{is_in}
use Rattle.zone_model.specs.Records.{is_there}
use Rattle.zone_judging.specs.Removal.{HasJoined}
use Rattle.zone_judging.proofs.cascade.add_taken.Given as goal

abbrev pub invariant-loop-name : goal.invariant-loop-name
invariant-loop-name g l = HasJoined (λ y. is_there (g.V.Sees.rows l.zone) y && is_in (take l.name-index l.taken) y) l.initial.names.items l.names.items
