use Rattle.std.proofs.Common.{◌≡◌, ℕ, List, take}
use Rattle.std.specs.List.{list_any}
use Rattle.zone_model.specs.Names.{is_in}
use Rattle.zone_judging.specs.Removal.{goes_first}
use Rattle.zone_judging.proofs.cascade.first_names.Given as goal

abbrev pub invariant-loop-name : goal.invariant-loop-name
invariant-loop-name g l = (y : List ℕ) → is_in l.names.items y ≡ list_any (goes_first (g.V.Sees.rows l.zone) l.taken y) (take l.name-index l.taken)
