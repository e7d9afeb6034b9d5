use Rattle.std.proofs.Common.{rules}
use Rattle.zone_locks.proofs.StepLemmas.{draw_allowed}
use Rattle.zone_locks.proofs.lock.ZoneLock.try_draw.Goals as goal

pub compare_exchange-found-requires : goal.compare_exchange-found-requires
compare_exchange-found-requires g c = (search rules, search rules, draw_allowed _ _ _ _ _ _ c.requires.out.0 c.requires.out.1)
