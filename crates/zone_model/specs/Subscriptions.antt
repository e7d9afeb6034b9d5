-- The subscriptions after the commits of a log.
use Rattle.std.specs.Prelude.{ℕ, Bool, not, ◌||◌, ◌&&◌, nat_lt, ◌==◌, List, [], ◌∷◌, ◌++◌, filter, fold, unwrap_or}
use Rattle.ck_base.specs.Order.{is_before}
use Rattle.ck_base.specs.KnownNames.{own_default}
use Rattle.ck_base.specs.declared.key.ZoneKey.{ZoneKey}
use Rattle.ck_base.specs.declared.scope.Scope.{Scope}
use Rattle.ck_base.specs.declared.scope.Scope.TheVariants.{Private, Shared}
use Rattle.record_model.specs.declared.subscription.Subscription.{Subscription}
use Rattle.zone_model.specs.declared.commits.Act.{Act}
use Rattle.zone_model.specs.declared.commits.Act.TheVariants.{SetSubscription, DropSubscription}
use Rattle.zone_model.specs.declared.commits.Commit.{Commit}
use Rattle.zone_model.specs.Names.{same}
use Rattle.zone_model.specs.Zones.{commits_at}

abbrev pub scope_place : Scope → ℕ
scope_place Private = 0
scope_place Shared = 1

-- the name that a kept subscription has
abbrev pub id_of : Subscription → List ℕ
id_of s = unwrap_or s.id []

abbrev pub is_subscription : Scope → List ℕ → Subscription → Bool
is_subscription scope id s = (scope_place scope == scope_place s.scope) && same id (id_of s)

-- by scope, and then by name
abbrev pub stands_before : Subscription → Subscription → Bool
stands_before s t = nat_lt (scope_place s.scope) (scope_place t.scope) || ((scope_place s.scope == scope_place t.scope) && is_before (id_of s) (id_of t))

abbrev pub with_subscription : List Subscription → Subscription → List Subscription
with_subscription subs s = filter (λ t. stands_before t s) subs ++ s ∷ filter (λ t. stands_before s t) subs

abbrev pub subscriptions_after : List Subscription → Act → List Subscription
subscriptions_after subs (SetSubscription s) = with_subscription subs s
subscriptions_after subs (DropSubscription scope id) = filter (λ s. not (is_subscription scope id s)) subs
subscriptions_after subs _ = subs

-- for each scope and name the one that the commits of the key set last and did not drop since, in ascending order
abbrev pub subscriptions_at : List Commit → ZoneKey → List Subscription
subscriptions_at log key = fold (λ subs (c : Commit). subscriptions_after subs c.act) [] (commits_at log key)

-- those of a user in a scope, which the key of the user's default zone has
abbrev pub subscriptions_of : List Commit → List ℕ → Scope → List Subscription
subscriptions_of log user scope = filter (λ (s : Subscription). scope_place scope == scope_place s.scope) (subscriptions_at log (own_default user))
