use Rattle.std.proofs.Common.{◌≡◌}
use Rattle.name_rules.specs.Names.{is_in}
use Rattle.name_rules.specs.Parents.{upward}
use Rattle.zone_model.specs.Ancestry.{links_of}
use Rattle.zone_judging.specs.Asked.{grounds_in}
use Rattle.zone_judging.proofs.ancestors.is_passed.Given as goal

abbrev pub invariant-loop-left : goal.invariant-loop-left
invariant-loop-left g l = is_in (upward l.left (links_of (grounds_in g.V.Sees.rows l.g).working) l.at) l.name
    ≡ is_in (upward l.steps (links_of (grounds_in g.V.Sees.rows l.g).working) l.fn.from) l.name

abbrev pub decreases-loop-left : goal.decreases-loop-left
decreases-loop-left g l = l.left
