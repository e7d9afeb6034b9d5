use Rattle.std.proofs.Common.{◌∙◌}
use Rattle.zone_judging.proofs.ListLemmas.{one_wanted}
use Rattle.zone_judging.proofs.form.is_wanted.Goals as goal

pub returns : goal.returns
returns c = c.any_wanted.ensures ∙ one_wanted c.args.wanted.now c.args.user.now
