use Rattle.std.proofs.Common.{sym, ◌∙◌}
use Rattle.zone_judging.proofs.GrowLemmas.{if_ok, joined_there}
use Rattle.zone_judging.proofs.cascade.add_there.Goals as goal

pub returns-then-is_there : goal.returns-then-is_there
returns-then-is_there g c = if_ok (λ _ more. joined_there (g.V.Sees.rows c.args.zone.now) c.args.names.now.items c.add.new.names.items c.args.name.now (sym c.is_there.ensures ∙ c.if-is_there.true) more) c.add.result c.add.ensures
