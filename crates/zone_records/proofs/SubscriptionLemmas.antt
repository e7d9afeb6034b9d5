-- The order of subscriptions, and lists of them with one set.
use Rattle.std.proofs.Common.{◌≡◌, ℕ, List, [], ◌∷◌, ◌++◌, Bool, true, false, cond, ◌||◌, ◌&&◌, refl, sym, ap, ◌∙◌, append-nil, append_assoc}
use Rattle.std.specs.Prelude.{filter, nat_lt, ◌==◌}
use Rattle.std.proofs.lemmas.Bool.{both_ways}
use Rattle.std.proofs.lemmas.List.Elements.{filter-append}
use Rattle.ck_base.specs.Order.{is_before}
use Rattle.ck_base.specs.declared.scope.Scope.{Scope}
use Rattle.ck_base.specs.declared.scope.Scope.TheVariants.{Private, Shared}
use Rattle.record_model.specs.declared.subscription.Subscription.{Subscription}
use Rattle.zone_model.specs.Subscriptions.{scope_place, id_of, stands_before, with_subscription}
use Rattle.name_rules.proofs.NameLemmas.{before-asym}

abbrev in_order : Scope → Scope → List ℕ → List ℕ → Bool
in_order a b x y = nat_lt (scope_place a) (scope_place b) || ((scope_place a == scope_place b) && is_before x y)

in_order-asym : (a b : Scope) (x y : List ℕ) → in_order a b x y ≡ true → in_order b a y x ≡ false
in_order-asym Private Private x y e = before-asym x y e
in_order-asym Private Shared x y e = refl
in_order-asym Shared Private x y e = absurd (both_ways false refl e)
in_order-asym Shared Shared x y e = before-asym x y e

pub stands_before-asym : (s t : Subscription) → stands_before s t ≡ true → stands_before t s ≡ false
stands_before-asym s t e = in_order-asym s.scope t.scope (id_of s) (id_of t) e

-- one item more that passes, and one that doesn't
pub filter-more : {X : Type 0} (p : X → Bool) (xs : List X) (x : X) → p x ≡ true → filter p (xs ++ x ∷ []) ≡ filter p xs ++ x ∷ []
filter-more p xs x is = filter-append p xs (x ∷ []) ∙ ap (λ b. filter p xs ++ cond b (x ∷ []) []) is

pub filter-less : {X : Type 0} (p : X → Bool) (xs : List X) (x : X) → p x ≡ false → filter p (xs ++ x ∷ []) ≡ filter p xs
filter-less p xs x is = filter-append p xs (x ∷ []) ∙ ap (λ b. filter p xs ++ cond b (x ∷ []) []) is ∙ append-nil (filter p xs)

-- ---- one turn of the loop that finds the place of the one that is set

abbrev pub before : Subscription → List Subscription → List Subscription
before s subs = filter (λ t. stands_before t s) subs

abbrev pub behind : Subscription → List Subscription → List Subscription
behind s subs = filter (λ t. stands_before s t) subs

-- one more that stands before it
pub set-before : (s x : Subscription) (xs front back more : List Subscription) → stands_before x s ≡ true → front ≡ before s xs → back ≡ behind s xs → more ≡ front ++ x ∷ []
    → (more ≡ before s (xs ++ x ∷ [])) × (back ≡ behind s (xs ++ x ∷ []))
set-before s x xs front back more is at_front at_back grown = (
  grown ∙ ap (λ l. l ++ x ∷ []) at_front ∙ sym (filter-more (λ t. stands_before t s) xs x is),
  at_back ∙ sym (filter-less (λ t. stands_before s t) xs x (stands_before-asym x s is)),
)

-- the front, the one that is set, and the back
pub set-whole : (s : Subscription) (xs front back grown whole : List Subscription) → front ≡ before s xs → back ≡ behind s xs → grown ≡ front ++ s ∷ [] → whole ≡ grown ++ back → whole ≡ with_subscription xs s
set-whole s xs front back grown whole at_front at_back pushed appended =
    appended ∙ ap (λ l. l ++ back) pushed ∙ append_assoc front (s ∷ []) back ∙ ap (λ l. l ++ s ∷ back) at_front ∙ ap (λ l. before s xs ++ s ∷ l) at_back
