use Rattle.std.proofs.Common.{◌≡◌, not}
use Rattle.std.specs.Prelude.{filter}
use Rattle.record_model.specs.declared.subscription.Subscription.{Subscription}
use Rattle.zone_model.specs.Subscriptions.{is_subscription}
use Rattle.zone_records.proofs.subscriptions.drop_subscription.Given as goal

abbrev pub invariant-loop-subscription : goal.invariant-loop-subscription
invariant-loop-subscription l = l.kept.items ≡ filter (λ (s : Subscription). not (is_subscription l.scope l.id s)) l.yielded
