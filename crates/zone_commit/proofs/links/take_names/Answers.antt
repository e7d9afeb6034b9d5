use Rattle.std.proofs.Common.{None, refl}
use Rattle.zone_commit.proofs.LinkLemmas.{linked-update}
use Rattle.zone_commit.proofs.links.take_names.Goals as goal

pub returns-in-Some-clause-rest : goal.returns-in-Some-clause-rest
returns-in-Some-clause-rest c = linked-update c.args.links.now c.remove.new.self c.args.above.now c.args.above.now None refl c.in-Some.ensures.updates.0
