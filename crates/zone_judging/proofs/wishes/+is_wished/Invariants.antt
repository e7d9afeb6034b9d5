use Rattle.std.proofs.Common.{length}
use Rattle.zone_judging.proofs.wishes.+is_wished.Given as goal

abbrev pub decreases-is_wished : goal.decreases-is_wished
decreases-is_wished l = length l.wishes.now
