use Rattle.std.proofs.Common.{rules}
use Rattle.zone_locks.proofs.StepLemmas.{look_allowed}
use Rattle.zone_locks.proofs.lock.ZoneLock.look.Goals as goal

pub load-requires : goal.load-requires
load-requires g c = (search rules, search rules, look_allowed _ _ _ _ _ c.args.ticket c.requires.waits.0)
