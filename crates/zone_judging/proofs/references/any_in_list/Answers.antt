use Rattle.std.proofs.Common.{sym, ◌∙◌}
use Rattle.zone_judging.proofs.ReferenceLemmas.{any_flat}
use Rattle.zone_judging.proofs.references.any_in_list.Goals as goal

pub returns : goal.returns
returns g c = c.any_element.ensures ∙ sym (any_flat (g.T.RefTest.test c.args.test.now) c.args.values.now)
