use Rattle.std.proofs.Common.{rules}
use Rattle.zone_locks.proofs.StepLemmas.{serve_allowed}
use Rattle.zone_locks.proofs.lock.ZoneLock.serve.Goals as goal

pub store-requires : goal.store-requires
store-requires g c = (search rules, search rules, serve_allowed _ _ _ _ _ c.args.ticket c.requires.back.0)
