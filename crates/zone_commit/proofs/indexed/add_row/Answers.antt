use Rattle.zone_commit.proofs.RowLemmas.{linked-added, rows-added}
use Rattle.zone_commit.proofs.indexed.add_row.Goals as goal

pub returns-clause-linked : goal.returns-clause-linked
returns-clause-linked c =
    linked-added c.args.zone.now.rows c.insert.new.self c.args.name c.args.row c.args.zone.now.children c.set_parent.new.children c.args.zone.now.referrers c.set_referrer.new.referrers c.requires.linked
    c.requires.named c.requires.absent c.in_ok-insert.ensures.entries c.insert.ensures.ordered c.in_ok-set_parent.ensures c.in_ok-set_referrer.ensures

pub returns-clause-rows : goal.returns-clause-rows
returns-clause-rows c = rows-added c.args.zone.now.rows c.insert.new.self c.args.name c.args.row c.requires.linked.rows c.requires.named c.in_ok-insert.ensures.entries
