use Rattle.std.proofs.Common.{sym, subst}
use Rattle.ck_records.specs.DraftFields.{wish_of}
use Rattle.record_model.specs.DraftForms.{IsWish, AreWishes}
use Rattle.ck_records.proofs.LoopLemmas.{all_more}
use Rattle.ck_records.proofs.WishLemmas.{wish_read, wishes_ascend}
use Rattle.ck_records.proofs.draft_fields.read_wishes.Goals as goal

pub loop-name-preserved : goal.loop-name-preserved
loop-name-preserved c = record {
  so_far = wish_read (wish_of c.args.here.now c.args.caller.now) _ (c.in-Some.name.now, c.in-Some.json.now) c.loop-name.name-iterator c.next.new.self c.loop-name.wishes.items c.push.new.self.items c.in_ok-wish.wish c.as_str.result.now c.in-Some.ensures.steps c.as_str.ensures.value (c.in_ok-wish.ensures.wish (λ e. cc e)) c.in_ok-push.ensures.items c.loop-name.invariant.so_far;
  meant = all_more IsWish c.loop-name.wishes.items c.push.new.self.items c.in_ok-wish.wish c.in_ok-push.ensures.items c.loop-name.invariant.meant c.in_ok-wish.ensures.meant;
}

pub returns-clause-meant : goal.returns-clause-meant
returns-clause-meant c =
    let done = c.loop-name.wishes.items in
    let ascend = wishes_ascend c.args.here.now c.args.caller.now c.args.members.now.entries c.loop-name.name-iterator done c.iter-name-items.ensures.ordered c.in-None.ensures.steps.0 c.loop-name.invariant.so_far in
    let both : AreWishes done = (c.loop-name.invariant.meant, ascend) in
    subst AreWishes (sym c.from_vec.ensures) both
