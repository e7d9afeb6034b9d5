use Rattle.std.proofs.Common.{◌∙◌}
use Rattle.zone_commit.proofs.KeptLemmas.{first-left, told-first}
use Rattle.zone_commit.proofs.zone.Zone.new.Goals as goal

pub invariant_of-result : goal.invariant_of-result
invariant_of-result c = λ _. record {
  linked = c.first_contents.ensures.linked;
  left = first-left c.args.key _
      (told-first c.args.key c.first_contents.result.here c.first_contents.result.records.rows c.first_contents.result.counts c.first_contents.result.subscriptions.items
      (c.first_contents.ensures.here ∙ c.is_default-here.ensures) c.first_contents.ensures.rows c.first_contents.ensures.counts c.first_contents.ensures.subscriptions);
}
