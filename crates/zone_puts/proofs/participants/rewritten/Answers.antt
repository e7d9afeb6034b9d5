use Rattle.std.proofs.Common.{◌≡◌, ◌∷◌, ◌+◌, [], sym, ap, ◌∙◌, subst, drop}
use Rattle.std.proofs.lemmas.List.{drop_more}
use Rattle.zone_puts.proofs.ParticipantLemmas.{IsPutting, one_put}
use Rattle.zone_puts.proofs.participants.rewritten.Goals as goal

pub loop-w-preserved : goal.loop-w-preserved
loop-w-preserved c =
    let w = c.w-item.result in
    let ws = drop (c.loop-w.w-index + 1) c.args.wanted.now in
    let split : drop c.loop-w.w-index c.args.wanted.now ≡ w ∷ ws = drop_more c.args.wanted.now c.loop-w.w-index w c.loop-w-test.true ∙ ap (λ v. v ∷ ws) (sym c.w-item.is) in
    one_put _ c.loop-w.after.items _ [] _ w ws (subst (IsPutting c.args.old.now c.loop-w.after.items [] c.args.wanted.now) split c.loop-w.invariant) c.in_ok-put_wanted.ensures
