use Rattle.ck_base.specs.Order.{is_before}
use Rattle.zone_commit.proofs.NextLemmas.{first-kept}
use Rattle.zone_commit.proofs.OrderLemmas.{behind}
use Rattle.zone_commit.proofs.links.name_after.Goals as goal

pub returns : goal.returns
returns c =
    first-kept (λ r. r.now) (is_before c.args.after.now) _ (behind c.args.after.now) c.args.names.now.keys c.range.result c.next.result c.next.new.self (c.range.ensures.between tt) c.next.ensures.steps
