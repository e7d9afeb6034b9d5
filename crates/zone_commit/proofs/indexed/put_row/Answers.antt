use Rattle.std.proofs.Common.{◌≡◌, ap, ◌∙◌, rules}
use Rattle.std.specs.BTreeMap.{values}
use Rattle.zone_model.specs.Records.{record_at, with_record, without}
use Rattle.zone_commit.proofs.LinkLemmas.{on_ok}
use Rattle.zone_commit.proofs.RowLemmas.{absent-without, with-without}
use Rattle.zone_commit.proofs.indexed.put_row.Goals as goal

pub add_row-requires-clause-absent : goal.add_row-requires-clause-absent
add_row-requires-clause-absent c =
    ap (λ vs. record_at vs c.in_ok-name.name) c.in_ok-take_row.ensures.rows ∙ absent-without (values c.args.zone.now.rows) c.in_ok-name.name

pub returns-clause-rows : goal.returns-clause-rows
returns-clause-rows c =
    let named : c.in_ok-name.name ≡ c.args.row.name = search rules in
    on_ok c.add_row.result
    (λ is. is ∙ ap (λ vs. with_record vs c.args.row) (c.in_ok-take_row.ensures.rows ∙ ap (without (values c.args.zone.now.rows)) named) ∙ with-without (values c.args.zone.now.rows) c.args.row)
    c.add_row.ensures.rows
