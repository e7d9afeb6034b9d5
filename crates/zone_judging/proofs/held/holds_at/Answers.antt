use Rattle.std.proofs.Common.{sym, ◌∙◌}
use Rattle.zone_judging.specs.Asked.{grounds_in}
use Rattle.zone_judging.proofs.HoldLemmas.{holds_then, holds_else}
use Rattle.zone_judging.proofs.held.holds_at.Goals as goal

pub returns-then-needs_at : goal.returns-then-needs_at
returns-then-needs_at g c = c.stays_at.ensures ∙ sym (holds_then (grounds_in g.V.Sees.rows c.args.g.now) c.args.held.now c.args.name.now (sym c.needs_at.ensures ∙ c.if-needs_at.true))

pub returns-else-needs_at : goal.returns-else-needs_at
returns-else-needs_at g c = c.if-needs_at.false ∙ sym (holds_else (grounds_in g.V.Sees.rows c.args.g.now) c.args.held.now c.args.name.now (sym c.needs_at.ensures ∙ c.if-needs_at.false))
