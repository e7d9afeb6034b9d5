use Rattle.std.proofs.Common.{◌≡◌}
use Rattle.std.specs.Prelude.{filter}
use Rattle.record_model.specs.declared.subscription.Subscription.{Subscription}
use Rattle.zone_model.specs.Subscriptions.{stands_before}
use Rattle.zone_records.proofs.subscriptions.set_subscription.Given as goal

abbrev pub invariant-loop-subscription : goal.invariant-loop-subscription
invariant-loop-subscription l = (l.front.items ≡ filter (λ (t : Subscription). stands_before t l.set) l.yielded) × (l.back.items ≡ filter (λ (t : Subscription). stands_before l.set t) l.yielded)
