use Rattle.std.proofs.Common.{rules, ◌≡◌, None, Some, map, ap, ◌∙◌}
use Rattle.std.proofs.lemmas.List.{take_all}
use Rattle.ck_records.specs.Shown.{as_wish}
use Rattle.ck_records.proofs.ShowsBackLemmas.{same_fields, no_wish}
use Rattle.ck_records.proofs.shown.with_values.Goals as goal

pub returns-in_default-clause-back : goal.returns-in_default-clause-back
returns-in_default-clause-back c = λ fields e.
    let none : c.wish-item.result.1 ≡ None = search rules in
    absurd (no_wish fields c.args.wishes.now c.loop-wish.wish-index c.wish-item.result e c.loop-wish-test.true c.wish-item.is none)

pub returns-clause-back : goal.returns-clause-back
returns-clause-back c = λ fields e.
    let whole = c.loop-wish.invariant ∙ take_all c.loop-wish.wish-index c.args.wishes.now c.loop-wish-test.false in
    ap Some (c.from_vec.ensures ∙ same_fields c.loop-wish.fields.items fields (whole ∙ e))
