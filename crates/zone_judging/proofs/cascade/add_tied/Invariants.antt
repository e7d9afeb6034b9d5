use Rattle.std.proofs.Common.{not, option_map, length}
use Rattle.zone_model.specs.Names.{is_in}
use Rattle.zone_judging.proofs.StepLemmas.{behind}
use Rattle.zone_judging.proofs.GrowLemmas.{IsGrowing}
use Rattle.zone_judging.proofs.cascade.add_tied.Given as goal

abbrev pub invariant-loop-row : goal.invariant-loop-row
invariant-loop-row g l = IsGrowing (g.V.Sees.rows l.zone) l.tie l.name (λ r. not (is_in l.taken r.name)) l.initial.names.items l.names.items (option_map (λ x. x.now) l.after)

abbrev pub decreases-loop-row : goal.decreases-loop-row
decreases-loop-row g l = length (behind (option_map (λ x. x.now) l.after) (g.V.Sees.rows l.zone))
