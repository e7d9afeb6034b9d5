use Rattle.std.proofs.Common.{sym}
use Rattle.zone_judging.specs.Asked.{named}
use Rattle.zone_judging.proofs.AfterPutLemmas.{found_ordered}
use Rattle.zone_judging.proofs.working_references.any_in_working.Goals as goal

pub any_after_put-requires : goal.any_after_put-requires
any_after_put-requires g c = found_ordered c.args.g.now.ops.now c.args.name.now (named c.in-Some.put.now) c.requires (sym c.in-Some.ensures)
