use Rattle.std.proofs.Common.{◌≡◌, ◌&&◌, option_map, length}
use Rattle.std.specs.List.{list_any}
use Rattle.zone_judging.specs.Asked.{grounds_in}
use Rattle.zone_judging.specs.Ties.{is_tied}
use Rattle.zone_judging.specs.Holding.{holds_at}
use Rattle.zone_judging.proofs.StepLemmas.{any_behind, behind}
use Rattle.zone_judging.proofs.held.any_tied_holds.Given as goal

abbrev pub invariant-loop-row : goal.invariant-loop-row
invariant-loop-row g l = any_behind l.tie l.held (λ r. holds_at (grounds_in g.V.Sees.rows l.g) l.held r.name) (g.V.Sees.rows l.g.seen.now) (option_map (λ x. x.now) l.after)
    ≡ list_any (λ r. is_tied l.tie l.held r && holds_at (grounds_in g.V.Sees.rows l.g) l.held r.name) (g.V.Sees.rows l.g.seen.now)

abbrev pub decreases-loop-row : goal.decreases-loop-row
decreases-loop-row g l = length (behind (option_map (λ x. x.now) l.after) (g.V.Sees.rows l.g.seen.now))
