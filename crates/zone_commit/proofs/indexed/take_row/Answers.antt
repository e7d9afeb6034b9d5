use Rattle.std.proofs.Common.{sym, ◌∙◌}
use Rattle.zone_commit.proofs.RowLemmas.{linked-taken, rows-taken}
use Rattle.zone_commit.proofs.indexed.take_row.Goals as goal

pub returns-in_ok-set_referrer-clause-linked : goal.returns-in_ok-set_referrer-clause-linked
returns-in_ok-set_referrer-clause-linked c =
    linked-taken c.args.zone.now.rows c.remove.new.self c.args.name.now c.in-Some.row c.args.zone.now.children c.set_parent.new.children c.args.zone.now.referrers c.set_referrer.new.referrers c.requires
    c.remove.ensures.entries c.remove.ensures.ordered (sym c.in-Some.is ∙ c.remove.ensures.value) c.in_ok-set_parent.ensures c.in_ok-set_referrer.ensures

pub returns-in_ok-set_referrer-clause-rows : goal.returns-in_ok-set_referrer-clause-rows
returns-in_ok-set_referrer-clause-rows c = rows-taken c.args.zone.now.rows c.remove.new.self c.args.name.now c.requires.rows c.remove.ensures.entries

pub returns-in_default-clause-rows : goal.returns-in_default-clause-rows
returns-in_default-clause-rows c = rows-taken c.args.zone.now.rows c.remove.new.self c.args.name.now c.requires.rows c.remove.ensures.entries
