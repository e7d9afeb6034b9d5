use Rattle.std.proofs.Common.{rules, ◌≡◌, ◌<◌, ◌≤◌, false, length, sym, ◌∙◌}
use Rattle.ck_base.specs.Order.{is_before}
use Rattle.ck_records.proofs.AscendingLemmas.{users, ascending-rises, rises_no_more, rises_end}
use Rattle.ck_records.proofs.reply_record.are_ascending.Goals as goal

pub returns-then-not-lt : goal.returns-then-not-lt
returns-then-not-lt c =
    let p = c.index-participants-place.result in
    let q = c.index-participants-place-in-loop-place.result in
    let within : c.loop-place.place < length c.args.participants.now = search rules in
    let before : is_before p.user q.user ≡ false = search rules in
    sym (ascending-rises (users c.args.participants.now) ∙ c.loop-place.invariant.so_far
    ∙ rises_no_more c.args.participants.now c.loop-place.place p q c.loop-place.invariant.some within c.index-participants-place.is c.index-participants-place-in-loop-place.is before)

pub returns : goal.returns
returns c =
    let past : length c.args.participants.now ≤ c.loop-place.place = search rules in
    sym (ascending-rises (users c.args.participants.now) ∙ c.loop-place.invariant.so_far ∙ rises_end c.args.participants.now c.loop-place.place past)
