use Rattle.std.proofs.Common.{◌∷◌, []}
use Rattle.zone_board.proofs.StripeLemmas.{none_kept}
use Rattle.zone_board.proofs.solo.Solo.new.Goals as goal

pub invariant_of-result : goal.invariant_of-result
invariant_of-result c lock within = none_kept
    (c.new.result.events.items ∷ c.new-2.result.events.items ∷ c.new-3.result.events.items ∷ c.new-4.result.events.items ∷ c.new-5.result.events.items ∷ c.new-6.result.events.items ∷ c.new-7.result.events.items ∷ c.new-8.result.events.items ∷ c.new-9.result.events.items ∷ c.new-10.result.events.items ∷ c.new-11.result.events.items ∷ c.new-12.result.events.items ∷ c.new-13.result.events.items ∷ c.new-14.result.events.items ∷ c.new-15.result.events.items ∷ c.new-16.result.events.items ∷ [])
    (c.new.ensures.events, (c.new-2.ensures.events, (c.new-3.ensures.events, (c.new-4.ensures.events, (c.new-5.ensures.events, (c.new-6.ensures.events, (c.new-7.ensures.events, (c.new-8.ensures.events, (c.new-9.ensures.events, (c.new-10.ensures.events, (c.new-11.ensures.events, (c.new-12.ensures.events, (c.new-13.ensures.events, (c.new-14.ensures.events, (c.new-15.ensures.events, (c.new-16.ensures.events, tt))))))))))))))))
    lock lock
