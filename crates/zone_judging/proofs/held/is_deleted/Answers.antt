use Rattle.std.proofs.Common.{◌∙◌}
use Rattle.zone_judging.specs.Asked.{named}
use Rattle.zone_judging.proofs.HoldLemmas.{one_deletes}
use Rattle.zone_judging.proofs.held.is_deleted.Goals as goal

pub returns : goal.returns
returns c = c.any_deletes.ensures ∙ one_deletes named c.args.ops.now c.args.name.now
