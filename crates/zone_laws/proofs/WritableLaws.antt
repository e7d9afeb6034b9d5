-- The test of what may be written passes just where the nearest name in the view may be written.
use Rattle.std.proofs.Common.{◌≡◌, ℕ, zero, suc, List, [], ◌∷◌, Bool, true, false, cond, refl, sym, ap, ◌∙◌, subst, Some, None, Option, inl, inr, length}
use Rattle.std.specs.Prelude.{◌⊎◌, find}
use Rattle.std.specs.Option.{option_map_or}
use Rattle.std.proofs.lemmas.Bool.{both_ways, or_cases}
use Rattle.std.proofs.lemmas.Option.{same_Some}
use Rattle.name_rules.specs.Options.{is_some_and}
use Rattle.name_rules.specs.Parents.{here, up, upward}
use Rattle.name_rules.proofs.NameLemmas.{same-true}
use Rattle.zone_model.specs.Names.{same, is_in}
use Rattle.zone_model.specs.Ancestry.{links_of, parent_at, ancestors, IsAncestor}
use Rattle.zone_model.specs.Coverage.{may_write}
use Rattle.zone_model.specs.Grounds.{Grounds, is_seen, is_writable}
use Rattle.zone_laws.specs.Writable.{IsNearestSeen, itself, above, IsWritable, WritableIsTold}
use Rattle.zone_laws.proofs.AncestryLaws.{is_ancestor_from}
use Rattle.zone_laws.proofs.TestLaws.{some_and_so}

not_some : {X : Type 0} (x : X) → None ≡ Some x → ⊥
not_some x e = both_ways false refl (ap (λ o. option_map_or (λ _. true) o false) e)

module _ (g : Grounds) where
  -- ---- there is one nearest at most

  at_seen : (z x : List ℕ) → is_seen g x ≡ true → IsNearestSeen g z x → z ≡ x
  at_seen z x seen (itself _ e _) = e
  at_seen z x seen (above _ _ unseen _ _) = absurd (both_ways (is_seen g x) unseen seen)

  from_parent : (z x p : List ℕ) → is_seen g x ≡ false → parent_at g.working x ≡ Some p → IsNearestSeen g z x → IsNearestSeen g z p
  from_parent z x p unseen at (itself _ _ seen) = absurd (both_ways (is_seen g x) unseen seen)
  from_parent z x p unseen at (above _ q _ is rest) = subst (IsNearestSeen g z) (same_Some q p (sym is ∙ at)) rest

  one_nearest : (y z x : List ℕ) → IsNearestSeen g y x → IsNearestSeen g z x → y ≡ z
  one_nearest y z x (itself _ e seen) other = e ∙ sym (at_seen z x seen other)
  one_nearest y z x (above _ p unseen at rest) other = one_nearest y z p rest (from_parent z x p unseen at other)

  -- ---- it is the first that is found

  nearest_seen : (y x : List ℕ) → IsNearestSeen g y x → is_seen g y ≡ true
  nearest_seen y x (itself _ e seen) = subst (λ n. is_seen g n ≡ true) (sym e) seen
  nearest_seen y x (above _ p _ _ rest) = nearest_seen y p rest

  nearest_above : (y x : List ℕ) → IsNearestSeen g y x → IsAncestor g.working y x
  nearest_above y x (itself _ e _) = here x e
  nearest_above y x (above _ p _ at rest) = up x p at (nearest_above y p rest)

  found_at : (b : Bool) (x z : List ℕ) (rest : Option (List ℕ)) → is_seen g x ≡ b → (is_seen g x ≡ false → rest ≡ Some z → IsNearestSeen g z x) → cond b (Some x) rest ≡ Some z → IsNearestSeen g z x
  found_at true x z rest is more e = itself x (sym (same_Some x z e)) is
  found_at false x z rest is more e = more is e

  found_above : (n : ℕ) (x z : List ℕ) (o : Option (List ℕ)) → ((p : List ℕ) → find (is_seen g) (upward n (links_of g.working) p) ≡ Some z → IsNearestSeen g z p)
      → is_seen g x ≡ false → parent_at g.working x ≡ o → find (is_seen g) (option_map_or (upward n (links_of g.working)) o []) ≡ Some z → IsNearestSeen g z x
  found_above n x z None more unseen at e = absurd (not_some z e)
  found_above n x z (Some p) more unseen at e = above x p unseen at (more p e)

  found_nearest : (n : ℕ) (x z : List ℕ) → find (is_seen g) (upward n (links_of g.working) x) ≡ Some z → IsNearestSeen g z x
  found_nearest zero x z e = found_at (is_seen g x) x z None refl (λ _ f. absurd (not_some z f)) e
  found_nearest (suc n) x z e = found_at (is_seen g x) x z (find (is_seen g) (option_map_or (upward n (links_of g.working)) (parent_at g.working x) [])) refl
      (λ unseen f. found_above n x z (parent_at g.working x) (λ p. found_nearest n p z) unseen refl f) e

  none_by : (b : Bool) (names : List (List ℕ)) (x y : List ℕ) → is_seen g x ≡ b → is_seen g y ≡ true → (is_in names y ≡ true → find (is_seen g) names ≡ None → ⊥)
      → (same y x ≡ true) ⊎ (is_in names y ≡ true) → cond b (Some x) (find (is_seen g) names) ≡ None → ⊥
  none_by true names x y is seen rest which e = not_some x (sym e)
  none_by false names x y is seen rest (inl one) e = both_ways (is_seen g x) is (subst (λ n. is_seen g n ≡ true) (same-true y x one) seen)
  none_by false names x y is seen rest (inr more) e = rest more e

  some_found : (names : List (List ℕ)) (y : List ℕ) → is_in names y ≡ true → is_seen g y ≡ true → find (is_seen g) names ≡ None → ⊥
  some_found [] y there seen e = both_ways false refl there
  some_found (x ∷ names) y there seen e = none_by (is_seen g x) names x y refl seen (λ more. some_found names y more seen) (or_cases (same y x) (is_in names y) there) e

  nearest_by : (o : Option (List ℕ)) (y x : List ℕ) → find (is_seen g) (ancestors g.working x) ≡ o → IsNearestSeen g y x → o ≡ Some y
  nearest_by None y x e is = absurd (some_found (ancestors g.working x) y (is_ancestor_from g.working y x (nearest_above y x is)) (nearest_seen y x is) e)
  nearest_by (Some z) y x e is = ap Some (one_nearest z y x (found_nearest (length (links_of g.working)) x z e) is)

  pub nearest-found : (y x : List ℕ) → IsNearestSeen g y x → find (is_seen g) (ancestors g.working x) ≡ Some y
  nearest-found y x is = nearest_by (find (is_seen g) (ancestors g.working x)) y x refl is

  pub writable-so : (x : List ℕ) → is_writable g x ≡ true → IsWritable g x
  writable-so x e =
      let found = some_and_so (may_write g.seen g.caller.user) (find (is_seen g) (ancestors g.working x)) e in
      record { nearest = found.0; is = found_nearest (length (links_of g.working)) x found.0 found.1; writable = found.2 }

  writable-back : (x : List ℕ) → IsWritable g x → is_writable g x ≡ true
  writable-back x is = ap (is_some_and (may_write g.seen g.caller.user)) (nearest-found is.nearest x is.is) ∙ is.writable

pub writable_told : WritableIsTold
writable_told = record { told = writable-so; found = writable-back }
