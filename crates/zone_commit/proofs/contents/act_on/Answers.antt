use Rattle.std.proofs.Common.{◌+◌, ap, sym, ◌∙◌, subst}
use Rattle.std.specs.Prelude.{count_by, if◌then◌else◌}
use Rattle.zone_model.specs.declared.commits.Act.{Act}
use Rattle.zone_model.specs.declared.commits.Act.TheVariants.{Writes}
use Rattle.zone_model.specs.Form.{IsActInForm}
use Rattle.zone_model.specs.Zones.{puts_name, act_puts}
use Rattle.zone_commit.specs.Maps.{count_at}
use Rattle.zone_commit.proofs.CountLemmas.{counted-once}
use Rattle.zone_commit.proofs.LinkLemmas.{on_ok}
use Rattle.zone_commit.proofs.contents.act_on.Goals as goal

pub returns-in-Writes-clause-counts : goal.returns-in-Writes-clause-counts
returns-in-Writes-clause-counts c =
    let formed : IsActInForm (Writes c.in-Writes.writes) = subst IsActInForm c.in-Writes.is c.requires.form in
    on_ok c.write_all.result
    (λ counts x. counts x ∙ ap (λ n. count_at c.args.contents.now.counts x + n)
    (ap (count_by (puts_name x)) c.as_slice.ensures ∙ counted-once c.in-Writes.writes x formed.ordered ∙ ap (λ (act : Act). if act_puts x act then 1 else 0) (sym c.in-Writes.is)))
    c.write_all.ensures.counts
