use Rattle.std.proofs.Common.{length}
use Rattle.zone_judging.proofs.held.+any_put_holds.Given as goal

abbrev pub decreases-any_put_holds : goal.decreases-any_put_holds
decreases-any_put_holds g l = length l.ops.now
