use Rattle.zone_judging.proofs.GrowLemmas.{if_ok, grown_along}
use Rattle.zone_judging.proofs.cascade.add_along.Goals as goal

pub returns : goal.returns
returns g c = if_ok (λ _ shared. grown_along (g.V.Sees.rows c.args.zone.now) c.args.taken.now c.args.name.now c.args.names.now.items c.add_tied.new.names.items c.add_share.new.names.items c.in_ok-add_tied.ensures shared) c.add_share.result c.add_share.ensures
