-- Subscriptions of one name in two scopes, at worked examples.
use Rattle.std.proofs.Common.{◌≡◌, ℕ, List, [], ◌∷◌, ◌++◌, Some, None, refl, true, false}
use Rattle.ck_base.specs.KnownNames.{own_default}
use Rattle.ck_base.specs.declared.scope.Scope.{Scope}
use Rattle.ck_base.specs.declared.scope.Scope.TheVariants.{Private, Shared}
use Rattle.record_model.specs.declared.subscription.SubKind.{SubKind}
use Rattle.record_model.specs.declared.subscription.Subscription.{Subscription}
use Rattle.zone_model.specs.declared.commits.Act.TheVariants.{SetSubscription, DropSubscription}
use Rattle.zone_model.specs.declared.commits.Commit.{Commit}
use Rattle.zone_model.specs.Subscriptions.{subscriptions_of}
use Rattle.zone_laws.specs.LawfulTests.{are_lawful}
use Rattle.zone_rows.proofs.RowWords.{ann, bob, notes, act_at}
use Rattle.zone_rows.proofs.RowRecords.{k, m}

abbrev watch : Scope → List ℕ → Subscription
watch scope id = record { scope = scope; id = Some id; key = notes; kind = SubKind.Zone; fires = record { create = true; update = true; delete = true }; rtype = None; filters = [] }

abbrev set : Scope → List ℕ → Commit
set scope id = act_at (own_default ann) (SetSubscription (watch scope id))

abbrev drop : Scope → List ℕ → Commit
drop scope id = act_at (own_default ann) (DropSubscription scope id)

-- k in both scopes, and m in the shared one
abbrev watching : List Commit
watching = set Shared m ∷ set Private k ∷ set Shared k ∷ []

pub watching_is_lawful : are_lawful [] watching ≡ true
watching_is_lawful = refl

pub each_scope_has_its_own : subscriptions_of watching ann Private ≡ watch Private k ∷ []
each_scope_has_its_own = refl

pub they_ascend_by_name : subscriptions_of watching ann Shared ≡ watch Shared k ∷ watch Shared m ∷ []
they_ascend_by_name = refl

pub nobody_else_has_them : subscriptions_of watching bob Shared ≡ []
nobody_else_has_them = refl

pub one_is_dropped : subscriptions_of (watching ++ drop Private k ∷ []) ann Private ≡ []
one_is_dropped = refl

pub the_other_scope_keeps_its_own : subscriptions_of (watching ++ drop Private k ∷ []) ann Shared ≡ watch Shared k ∷ watch Shared m ∷ []
the_other_scope_keeps_its_own = refl

pub other_names_stay : subscriptions_of (watching ++ drop Shared k ∷ []) ann Shared ≡ watch Shared m ∷ []
other_names_stay = refl

pub dropping_one_is_lawful : are_lawful [] (watching ++ drop Private k ∷ []) ≡ true
dropping_one_is_lawful = refl

pub dropping_the_other_is_lawful : are_lawful [] (watching ++ drop Shared k ∷ []) ≡ true
dropping_the_other_is_lawful = refl

pub none_is_dropped_for_another_scope : are_lawful [] (watching ++ drop Private m ∷ []) ≡ false
none_is_dropped_for_another_scope = refl
