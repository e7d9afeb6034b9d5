use Rattle.std.proofs.Common.{◌≡◌, true, sym, ap, ◌∙◌}
use Rattle.record_model.specs.Counts.{are_counted}
use Rattle.ck_records.proofs.ShownLemmas.{fields_kept}
use Rattle.ck_records.proofs.shown.given_fields.Goals as goal

pub returns-in-Some-clause-meant : goal.returns-in-Some-clause-meant
returns-in-Some-clause-meant c = λ are.
    let counted : are_counted c.in-Some.fields ≡ true = sym (c.are_counted.ensures ∙ ap are_counted c.as_slice.ensures) ∙ c.if-are_counted.true in
    fields_kept c.in-Some.fields c.args.wishes.now (rw c.in-Some.is at c.in_ok-fields.ensures.values) are counted
