use Rattle.zone_commit.specs.Maps.{element_takes_along}
use Rattle.zone_commit.proofs.LinkLemmas.{relinked-more}
use Rattle.zone_commit.proofs.links.set_elements.Goals as goal

pub loop-value-preserved : goal.loop-value-preserved
loop-value-preserved c =
    relinked-more (λ v y. element_takes_along y v) c.args.there c.args.name.now c.args.links.now c.loop-value.links c.set_single.new.links c.args.values.now c.loop-value.value-index c.value-item.result
    c.loop-value-test.true c.value-item.is c.loop-value.invariant c.in_ok-set_single.ensures
