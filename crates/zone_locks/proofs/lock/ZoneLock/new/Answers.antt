use Rattle.std.proofs.Common.{rules, ap, ◌∙◌, ◌≡◌, [], refl}
use Rattle.zone_locks.specs.Rules.{first_view}
use Rattle.zone_locks.proofs.StepLemmas.{start_allowed}
use Rattle.zone_locks.proofs.PassLemmas.{first_sound}
use Rattle.zone_locks.proofs.lock.ZoneLock.new.Goals as goal

pub new-requires : goal.new-requires
new-requires g c = start_allowed g.T.Grows.items g.T.Grows.seat_of c.args.value c.of-about.result.value (record { value = c.args.value; turn = 0 }) c.push.new.self.items (search rules) (search rules) refl refl c.requires

pub invariant_of-pass : goal.invariant_of-pass
invariant_of-pass g c =
    let me : c.in-Ok.seat.me ≡ (first_view (g.T.Grows.items c.args.value), []) = c.in-Ok.ensures.ok.4 ∙ ap (λ v. (first_view (g.T.Grows.items v), [])) c.of-about.ensures in
    first_sound _ _ _ _ me c.len-count.ensures c.requires
