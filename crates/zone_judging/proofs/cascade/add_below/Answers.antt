use Rattle.zone_judging.proofs.GrowLemmas.{if_ok, grown_below}
use Rattle.zone_judging.proofs.cascade.add_below.Goals as goal

pub returns : goal.returns
returns g c = if_ok (λ _ along. grown_below (g.V.Sees.rows c.args.zone.now) c.args.taken.now c.args.name.now c.args.names.now.items c.add_tied.new.names.items c.add_along.new.names.items c.in_ok-add_tied.ensures along) c.add_along.result c.add_along.ensures
