use Rattle.std.proofs.Common.{rules, ap, ◌∙◌}
use Rattle.zone_locks.proofs.StepLemmas.{join_allowed, learn_told}
use Rattle.zone_locks.proofs.PassLemmas.{outside}
use Rattle.zone_locks.proofs.lock.ZoneLock.meet.Goals as goal

pub join_seat-requires : goal.join_seat-requires
join_seat-requires g c =
    let pass = outside _ _ c.pass.invariant.rests (ap (λ k. k.turn) c.pass.view_is ∙ c.requires.out.0) in
    let ended = outside _ _ c.ended.invariant.rests (ap (λ k. k.turn) c.ended.view_is ∙ c.requires.out.1) in
    (search rules, search rules, ended.1, search rules, join_allowed _ _ _ _ _ _ pass.0 ended.0 c.pass.invariant.quiet c.ended.invariant.quiet)

pub load-requires : goal.load-requires
load-requires g c =
    let pass = outside _ _ c.pass.invariant.rests (ap (λ k. k.turn) c.pass.view_is ∙ c.requires.out.0) in
    (search rules, search rules, learn_told _ _ _ _ _ c.pass.inside.seat.me.0 c.ended.inside.seat.me.0 _ c.join_seat.ensures.2 pass.0)
