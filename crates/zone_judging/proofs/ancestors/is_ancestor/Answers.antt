use Rattle.std.proofs.Common.{◌+◌, length, refl, ◌∙◌}
use Rattle.zone_judging.specs.Asked.{named}
use Rattle.zone_judging.proofs.WayLemmas.{enough_in_working}
use Rattle.zone_judging.proofs.ancestors.is_ancestor.Goals as goal

pub returns : goal.returns
returns g c = c.is_passed.ensures
    ∙ enough_in_working named c.args.g.now.scope (g.V.Sees.rows c.args.g.now.seen.now) c.args.g.now.ops.now (c.most.result + length c.args.g.now.ops.now) c.most.result c.args.name.now c.args.from.now c.most.ensures.bound refl
