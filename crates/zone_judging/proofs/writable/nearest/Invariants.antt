use Rattle.std.proofs.Common.{◌≡◌, find, map}
use Rattle.name_rules.specs.Parents.{upward}
use Rattle.zone_model.specs.Records.{is_there}
use Rattle.zone_judging.specs.Asked.{named}
use Rattle.zone_judging.specs.Made.{made_links}
use Rattle.zone_judging.proofs.writable.nearest.Given as goal

abbrev pub invariant-loop-left : goal.invariant-loop-left
invariant-loop-left g l = find (is_there (g.V.Sees.rows l.g.seen.now)) (upward l.left (made_links (map named l.g.ops.now)) l.at)
    ≡ find (is_there (g.V.Sees.rows l.g.seen.now)) (upward l.steps (made_links (map named l.g.ops.now)) l.fn.name)

abbrev pub decreases-loop-left : goal.decreases-loop-left
decreases-loop-left g l = l.left
