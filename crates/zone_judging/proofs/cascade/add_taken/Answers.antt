use Rattle.zone_judging.proofs.GrowLemmas.{joined_more}
use Rattle.zone_judging.proofs.cascade.add_taken.Goals as goal

pub loop-name-preserved : goal.loop-name-preserved
loop-name-preserved g c =
    joined_more (g.V.Sees.rows c.args.zone.now) c.args.taken.now c.args.names.now.items c.loop-name.names.items c.add_there.new.names.items c.loop-name.name-index c.name-item.result
    c.loop-name-test.true c.name-item.is c.loop-name.invariant c.in_ok-add_there.ensures
