use Rattle.std.proofs.Common.{◌≡◌, ◌∷◌, ◌++◌, ◌+◌, sym, ap, ◌∙◌, subst, drop}
use Rattle.std.proofs.lemmas.List.{drop_more}
use Rattle.zone_model.specs.Putting.{after_wishes}
use Rattle.zone_judging.specs.Wishes.{AreInOrder}
use Rattle.zone_puts.proofs.FieldLemmas.{wish_done, rest_ordered, wishes_left}
use Rattle.zone_puts.proofs.fields.after_wishes.Goals as goal

pub loop-wish-preserved : goal.loop-wish-preserved
loop-wish-preserved c =
    let w = c.wish-item.result in
    let ws = drop (c.loop-wish.wish-index + 1) c.args.wishes.now in
    let split : drop c.loop-wish.wish-index c.args.wishes.now ≡ w ∷ ws = drop_more c.args.wishes.now c.loop-wish.wish-index w c.loop-wish-test.true ∙ ap (λ v. v ∷ ws) (sym c.wish-item.is) in
    let ordered : AreInOrder (w ∷ ws) = subst AreInOrder split c.loop-wish.invariant.wishes in
    record {
      done =
          wish_done _ _ _ _ _ w ws c.loop-wish.invariant.fields ordered c.in_ok-pass.ensures.moved c.in_ok-give.ensures c.in_ok-pass.ensures.behind
          ∙ ap (λ vs. c.loop-wish.after.items ++ after_wishes c.loop-wish.rest.items vs) (sym split) ∙ c.loop-wish.invariant.done;
      fields = rest_ordered _ _ w.0 c.loop-wish.invariant.fields c.in_ok-pass.ensures.behind;
      wishes = wishes_left w ws ordered;
    }
