use Rattle.std.proofs.Common.{◌≡◌, ◌+◌, ap, rules}
use Rattle.zone_commit.proofs.LinkLemmas.{count-update}
use Rattle.zone_commit.proofs.counts.count_put.Goals as goal

pub returns : goal.returns
returns c =
    let named : c.in_ok-clone.field-0 ≡ c.args.name.now = search rules in
    count-update c.args.counts.now c.insert.new.self c.in_ok-clone.field-0 c.args.name.now (c.count_at-count.result + 1) named (ap (λ n. n + 1) c.count_at-count.ensures) c.in_ok-insert.ensures.updates.0
