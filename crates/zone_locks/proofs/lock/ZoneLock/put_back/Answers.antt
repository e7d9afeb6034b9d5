use Rattle.std.proofs.Common.{rules, ◌+◌, ap, ◌∙◌, refl, ◌∷◌, Some}
use Rattle.atomic_table.specs.Table.{rest}
use Rattle.zone_locks.proofs.StepLemmas.{note_allowed}
use Rattle.zone_locks.proofs.lock.ZoneLock.put_back.Goals as goal

pub load-requires : goal.load-requires
load-requires g c = (
  search rules,
  search rules,
  note_allowed _ _ _ _ _ c.args.seat.now.me.0 c.args.ticket c.args.number (record { value = c.args.value; turn = c.args.ticket + 1 })
      (c.exchange-was.ensures.3 ∙ ap (λ cs. (c.args.seat.now.me.0, (0, Some (record { value = c.args.value; turn = c.args.ticket + 1 })) ∷ rest cs)) c.requires.inside.1)
      c.requires.inside.0 c.requires.inside.2 c.requires.grown refl,
)
