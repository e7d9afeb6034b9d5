use Rattle.zone_judging.proofs.RemovalLemmas.{is_least}
use Rattle.zone_judging.proofs.cascade.removed_names.Goals as goal

pub returns : goal.returns
returns g c =
    is_least (g.V.Sees.rows c.args.zone.now) c.args.taken.now c.in_ok-names.names.items c.spread.new.names.items c.add_taken.new.names.items c.requires
    c.in_ok-names.ensures c.in_ok-spread.ensures c.in_ok-add_taken.ensures
