use Rattle.std.proofs.Common.{arith}
use Rattle.zone_locks.proofs.PassLemmas.{gave_sound, count_fits}
use Rattle.zone_locks.proofs.lock.ZoneLock.give.Goals as goal

pub overflow_add-pass : goal.overflow_add-pass
overflow_add-pass g c =
    let fits = count_fits _ _ _ _ _ _ _ _ _ c.pass.view_is c.pass.invariant c.requires.taken.1 c.requires.grown c.requires.taken.2 in
    omega (arith, fits, c.len.ensures, c.len.type_inv)

pub invariant_of-pass : goal.invariant_of-pass
invariant_of-pass g c =
    let sound = gave_sound _ _ _ _ _ _ _ _ _ _ _ _ c.pass.view_is c.pass.invariant c.requires.taken.1 c.requires.grown c.requires.taken.2 c.put_back.ensures.back c.serve.ensures.served in
    rw c.len.ensures sound
