use Rattle.std.proofs.Common.{ap, ◌∙◌}
use Rattle.name_rules.specs.Options.{is_some_and}
use Rattle.zone_model.specs.Coverage.{may_write}
use Rattle.zone_judging.specs.Asked.{named, caller_in}
use Rattle.zone_judging.proofs.WritableLemmas.{writable_told}
use Rattle.zone_judging.proofs.writable.is_writable.Goals as goal

pub returns-in-Some : goal.returns-in-Some
returns-in-Some g c =
    let rows = g.V.Sees.rows c.args.g.now.seen.now in
    c.may_write.ensures ∙ ap (is_some_and (may_write rows c.args.g.now.user.now)) c.in-Some.ensures ∙ writable_told named (caller_in c.args.g.now) c.args.g.now.pasts.now rows c.args.g.now.ops.now c.args.name.now

pub returns-in-None : goal.returns-in-None
returns-in-None g c =
    let rows = g.V.Sees.rows c.args.g.now.seen.now in
    ap (is_some_and (may_write rows c.args.g.now.user.now)) c.in-None.ensures ∙ writable_told named (caller_in c.args.g.now) c.args.g.now.pasts.now rows c.args.g.now.ops.now c.args.name.now
