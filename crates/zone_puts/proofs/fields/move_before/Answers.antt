use Rattle.zone_puts.proofs.FieldLemmas.{one_moved}
use Rattle.zone_puts.proofs.fields.move_before.Goals as goal

pub loop-field-preserved : goal.loop-field-preserved
loop-field-preserved c = one_moved _ _ _ _ _ _ _ c.in-Some.field c.loop-field.invariant c.in-Some.ensures c.in_ok-push.ensures.items
