use Rattle.std.proofs.Common.{◌≡◌}
use Rattle.std.specs.List.{list_any}
use Rattle.name_rules.specs.Parents.{upward}
use Rattle.zone_model.specs.Ancestry.{links_of}
use Rattle.zone_judging.specs.Sights.{permits}
use Rattle.zone_judging.proofs.permits.any_permits.Given as goal

abbrev pub invariant-loop-left : goal.invariant-loop-left
invariant-loop-left g l = list_any (permits (g.V.Sees.rows l.seen) l.user) (upward l.left (links_of (g.V.Sees.rows l.seen)) l.at)
    ≡ list_any (permits (g.V.Sees.rows l.seen) l.user) (upward l.steps (links_of (g.V.Sees.rows l.seen)) l.fn.name)

abbrev pub decreases-loop-left : goal.decreases-loop-left
decreases-loop-left g l = l.left
