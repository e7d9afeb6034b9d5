use Rattle.std.proofs.Common.{sym, ◌∙◌}
use Rattle.zone_judging.specs.Asked.{named, caller_in}
use Rattle.zone_judging.proofs.HoldLemmas.{held_then, held_else}
use Rattle.zone_judging.proofs.held.is_held.Goals as goal

pub returns-then-any_seen_holds : goal.returns-then-any_seen_holds
returns-then-any_seen_holds g c = c.if-any_seen_holds.true
    ∙ held_then named (caller_in c.args.g.now) c.args.g.now.pasts.now (g.V.Sees.rows c.args.g.now.seen.now) c.args.g.now.ops.now c.args.name.now c.requires.seen (sym c.any_seen_holds.ensures ∙ c.if-any_seen_holds.true)

pub returns-else-any_seen_holds : goal.returns-else-any_seen_holds
returns-else-any_seen_holds g c = c.any_put_holds.ensures
    ∙ held_else named (caller_in c.args.g.now) c.args.g.now.pasts.now (g.V.Sees.rows c.args.g.now.seen.now) c.args.g.now.ops.now c.args.name.now c.requires.seen (sym c.any_seen_holds.ensures ∙ c.if-any_seen_holds.false)
