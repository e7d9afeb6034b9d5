use Rattle.std.proofs.Common.{arith, get_or, ap, ◌∙◌}
use Rattle.zone_judging.proofs.RemovalLemmas.{spreading_next}
use Rattle.zone_judging.proofs.cascade.spread.Goals as goal

pub loop-at-preserved : goal.loop-at-preserved
loop-at-preserved g c =
    let at = c.loop-at.at in
    let name = c.in_ok-name.name in
    spreading_next (g.V.Sees.rows c.args.zone.now) c.args.taken.now c.args.names.now.items c.loop-at.names.items c.add_below.new.names.items at name
    (omega (arith, c.loop-at.names.ok.0, c.len.ensures, c.loop-at-test.true)) (c.in_ok-name.ensures ∙ ap (λ names. get_or names at name) c.deref.ensures.value) c.loop-at.invariant c.in_ok-add_below.ensures
