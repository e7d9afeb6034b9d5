use Rattle.std.proofs.Common.{take}
use Rattle.std.specs.List.{list_any}
use Rattle.zone_commit.specs.Maps.{Relinked, element_takes_along}
use Rattle.zone_commit.proofs.links.set_elements.Given as goal

abbrev pub invariant-loop-value : goal.invariant-loop-value
invariant-loop-value l = Relinked (λ x. list_any (element_takes_along x) (take l.value-index l.values)) l.there l.name l.fn.links l.links
