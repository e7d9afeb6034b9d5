-- A zone, its puts and its views after one commit more.
use Rattle.std.proofs.Common.{◌≡◌, ℕ, ◌+◌, List, [], ◌∷◌, ◌++◌, Bool, true, false, cond, refl, ap, ◌∙◌, map, append-nil}
use Rattle.std.specs.Prelude.{if◌then◌else◌, fold, count_by}
use Rattle.std.proofs.lemmas.List.{map-append}
use Rattle.std.proofs.lemmas.List.Elements.{filter-append}
use Rattle.std.proofs.lemmas.List.Sums.{fold-append, sum_by-append}
use Rattle.ck_base.specs.declared.key.ZoneKey.{ZoneKey}
use Rattle.record_model.specs.declared.subscription.Subscription.{Subscription}
use Rattle.zone_model.specs.declared.commits.Commit.{Commit}
use Rattle.ck_base.specs.declared.scope.Scope.{Scope}
use Rattle.zone_model.specs.Zones.{Zone, first_zone, zone_at, commits_at, after_act, act_puts, puts_at}
use Rattle.zone_model.specs.Names.{same_key}
use Rattle.zone_model.specs.Subscriptions.{subscriptions_at, subscriptions_after}
use Rattle.zone_laws.specs.Laws.{ChangesNothing}
use Rattle.zone_model.specs.Views.{view_of, views_at_fronts, fronts, view_of_zone}

pub commits_at-append : (log more : List Commit) (key : ZoneKey) → commits_at (log ++ more) key ≡ commits_at log key ++ commits_at more key
commits_at-append log more key = filter-append (λ (c : Commit). same_key key c.key) log more

-- the zone after more commits is what the acts of its own among them leave
pub zone-append : (log more : List Commit) (key : ZoneKey) → zone_at (log ++ more) key ≡ fold (λ z (c : Commit). after_act z c.act) (zone_at log key) (commits_at more key)
zone-append log more key = ap (fold (λ z (c : Commit). after_act z c.act) (first_zone key)) (commits_at-append log more key)
    ∙ fold-append (λ z (c : Commit). after_act z c.act) (first_zone key) (commits_at log key) (commits_at more key)

pub puts-append : (log more : List Commit) (key : ZoneKey) (x : List ℕ) → puts_at (log ++ more) key x ≡ puts_at log key x + puts_at more key x
puts-append log more key x = ap (count_by (λ (c : Commit). act_puts x c.act)) (commits_at-append log more key)
    ∙ sum_by-append (λ (c : Commit). cond (act_puts x c.act) 1 0) (commits_at log key) (commits_at more key)

one_commit : (c : Commit) (b : Bool) (z : Zone) → fold (λ z (c : Commit). after_act z c.act) z (cond b (c ∷ []) []) ≡ cond b (after_act z c.act) z
one_commit c true z = refl
one_commit c false z = refl

-- after one commit more
pub zone-snoc : (log : List Commit) (c : Commit) (key : ZoneKey) → zone_at (log ++ c ∷ []) key ≡ (if same_key key c.key then after_act (zone_at log key) c.act else zone_at log key)
zone-snoc log c key = zone-append log (c ∷ []) key ∙ one_commit c (same_key key c.key) (zone_at log key)

one_subscribed : (c : Commit) (b : Bool) (subs : List Subscription) → fold (λ subs (c : Commit). subscriptions_after subs c.act) subs (cond b (c ∷ []) []) ≡ cond b (subscriptions_after subs c.act) subs
one_subscribed c true subs = refl
one_subscribed c false subs = refl

pub subscriptions-snoc : (log : List Commit) (c : Commit) (key : ZoneKey) → subscriptions_at (log ++ c ∷ []) key ≡ (if same_key key c.key then subscriptions_after (subscriptions_at log key) c.act else subscriptions_at log key)
subscriptions-snoc log c key = ap (fold (λ subs (c : Commit). subscriptions_after subs c.act) []) (commits_at-append log (c ∷ []) key)
    ∙ fold-append (λ subs (c : Commit). subscriptions_after subs c.act) [] (commits_at log key) (commits_at (c ∷ []) key)
    ∙ one_subscribed c (same_key key c.key) (subscriptions_at log key)

-- a commit of another key is none of this zone's
pub commits_at-other : (log : List Commit) (c : Commit) (key : ZoneKey) → same_key key c.key ≡ false → commits_at (log ++ c ∷ []) key ≡ commits_at log key
commits_at-other log c key other = commits_at-append log (c ∷ []) key ∙ ap (λ b. commits_at log key ++ cond b (c ∷ []) []) other ∙ append-nil (commits_at log key)

pub other_changes_nothing : ChangesNothing
other_changes_nothing = record {
  zone = λ log c key other. ap (fold (λ z (c : Commit). after_act z c.act) (first_zone key)) (commits_at-other log c key other);
  puts = λ log c key x other. ap (count_by (λ (c : Commit). act_puts x c.act)) (commits_at-other log c key other);
  subscriptions = λ log c key other. ap (fold (λ subs (c : Commit). subscriptions_after subs c.act) []) (commits_at-other log c key other);
  view = λ log c u scope key other. ap (λ z. view_of_zone z u scope key) (ap (fold (λ z (c : Commit). after_act z c.act) (first_zone key)) (commits_at-other log c key other));
}

pub fronts-snoc : {X : Type 0} (xs : List X) (x : X) → fronts (xs ++ x ∷ []) ≡ fronts xs ++ (xs ++ x ∷ []) ∷ []
fronts-snoc [] x = refl
fronts-snoc (y ∷ ys) x = ap (λ fs. [] ∷ map (λ front. y ∷ front) fs) (fronts-snoc ys x) ∙ ap (λ fs. [] ∷ fs) (map-append (λ front. y ∷ front) (fronts ys) ((ys ++ x ∷ []) ∷ []))

-- the views of a longer log are those of the shorter one, and then one more
pub views-snoc : (log : List Commit) (c : Commit) (u : List ℕ) (scope : Scope) (key : ZoneKey) → views_at_fronts (log ++ c ∷ []) u scope key ≡ views_at_fronts log u scope key ++ view_of (log ++ c ∷ []) u scope key ∷ []
views-snoc log c u scope key = ap (map (λ front. view_of front u scope key)) (fronts-snoc log c) ∙ map-append (λ front. view_of front u scope key) (fronts log) ((log ++ c ∷ []) ∷ [])
