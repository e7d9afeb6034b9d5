use Rattle.std.proofs.Common.{◌≡◌, ◌≤◌, length, arith, rules, Some}
use Rattle.zone_commit.proofs.LinkLemmas.{linked-update, linked-none}
use Rattle.zone_commit.proofs.links.put_names.Goals as goal

pub returns-in_ok-insert : goal.returns-in_ok-insert
returns-in_ok-insert c =
    let named : c.in_ok-clone.field-0 ≡ c.args.above.now = search rules in
    linked-update c.args.links.now c.insert.new.self c.in_ok-clone.field-0 c.args.above.now (Some c.args.names) named c.in_ok-insert.ensures.updates.0

pub returns-else-len-gt0 : goal.returns-else-len-gt0
returns-else-len-gt0 c =
    let short : length c.args.names.keys ≤ 0 = omega (arith, c.len.ensures.len, c.if-len-gt0.false) in
    linked-none c.args.links.now c.args.above.now c.args.names.keys c.requires short
