use Rattle.zone_commit.specs.Maps.{field_takes_along}
use Rattle.zone_commit.proofs.LinkLemmas.{relinked-more}
use Rattle.zone_commit.proofs.links.set_fields.Goals as goal

pub loop-field-preserved : goal.loop-field-preserved
loop-field-preserved c =
    relinked-more (λ f y. field_takes_along y f) c.args.there c.args.name.now c.args.links.now c.loop-field.links c.set_value.new.links c.args.fields.now c.loop-field.field-index c.field-item.result
    c.loop-field-test.true c.field-item.is c.loop-field.invariant c.in_ok-set_value.ensures
