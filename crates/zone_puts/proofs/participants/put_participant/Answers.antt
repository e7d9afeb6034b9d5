use Rattle.std.proofs.Common.{◌≡◌, true, drop, slice_set, sym, ap, ◌∙◌}
use Rattle.zone_puts.specs.Participants.{place_of, is_at}
use Rattle.zone_puts.proofs.ParticipantLemmas.{replaced}
use Rattle.zone_puts.proofs.participants.put_participant.Goals as goal

pub returns-then-is_at : goal.returns-then-is_at
returns-then-is_at c =
    let p = c.args.p in
    let ps = c.args.participants.now.items in
    let told : c.place_of-place.result ≡ place_of p.user ps = c.place_of-place.ensures.told ∙ ap (place_of p.user) c.deref.ensures.value in
    let here : is_at p.user (drop (place_of p.user ps) ps) ≡ true =
    (λ i. is_at p.user (drop (sym told i) (sym c.deref-2.ensures.value i))) ∙ sym c.is_at.ensures ∙ c.if-is_at.true in
    ap (λ n. slice_set ps n p) told ∙ replaced p ps c.requires here
