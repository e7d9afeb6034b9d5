use Rattle.std.proofs.Common.{◌≡◌, sym, ap, ◌∙◌}
use Rattle.std.proofs.lemmas.List.{map-id}
use Rattle.std.proofs.lemmas.Iterator.Adapters.{YieldsList-from_vec}
use Rattle.std.proofs.lemmas.Iterator.Consumers.{YieldsList-end}
use Rattle.zone_model.specs.Subscriptions.{with_subscription}
use Rattle.zone_records.proofs.SubscriptionLemmas.{set-before, set-whole}
use Rattle.zone_records.proofs.subscriptions.set_subscription.Goals as goal

pub loop-subscription-preserved-in-Continue-1 : goal.loop-subscription-preserved-in-Continue-1
loop-subscription-preserved-in-Continue-1 c =
    set-before c.args.set c.in-Some.subscription _ c.loop-subscription.front.items c.loop-subscription.back.items c.push.new.self.items
    (sym c.stands_before.ensures ∙ c.if-stands_before.true) c.loop-subscription.invariant.0 c.loop-subscription.invariant.1 c.in_ok-push.ensures.items

pub returns : goal.returns
returns c =
    let all : c.loop-subscription.yielded ≡ c.args.subscriptions.items = sym (map-id c.loop-subscription.yielded)
    ∙ (YieldsList-end
    (YieldsList-from_vec {s = c.into_iter-subscription-iterator.result} c.args.subscriptions.items c.into_iter-subscription-iterator.ensures.into_iter_gives.0 (c.into_iter-subscription-iterator.ensures.into_iter_gives.1 ∙ c.args.subscriptions.ok.0))
    c.loop-subscription.yielded _ c.loop-subscription.yielded_by c.next.result c.next.new.self c.in-None.is c.next.ensures.steps).0 in
    set-whole c.args.set c.loop-subscription.yielded c.loop-subscription.front.items c.loop-subscription.back.items c.push-2.new.self.items c.append.new.self.items
    c.loop-subscription.invariant.0 c.loop-subscription.invariant.1 c.in_ok-push-3.ensures.items c.in_ok-append.ensures.items
    ∙ ap (λ xs. with_subscription xs c.args.set) all
