-- What one changed view means for all of them.
use Rattle.std.proofs.Common.{◌≡◌, ◌≢◌, ℕ, zero, suc, List, [], ◌∷◌, set, sym, refl, ap, ◌∙◌, subst, ⊎_elim, Option, Some, unwrap_or}
use mathlib.Core.Option.{some, some-ne-none, some-injective}
use mathlib.Core.Logic.{dite}
use native.Mathlib.Decide.{ℕ_discrete}
use lib.ListN.{get_elem?}
use Rattle.atomic_table.proofs.Lists.{at_set, set_else}
use Rattle.zone_locks.specs.declared.rule.View.{View}
use Rattle.zone_locks.specs.Rules.{Apart, AreApart}

pub some_same : (m n : ℕ) → Some m ≡ Some n → m ≡ n
some_same m n e = ap (λ (o : Option ℕ). unwrap_or o 0) e

module _ {I : Type 0} where
  -- one view changes
  pub each_set : (K : View I → Type 0) (vs : List (View I)) (me : ℕ) (w : View I) → K w → ((j : ℕ) (u : View I) → j ≢ me → get_elem? vs j ≡ some u → K u)
      → (j : ℕ) (u : View I) → get_elem? (set vs me w) j ≡ some u → K u
  each_set K vs me w mine others j u e = ⊎_elim (λ (t : (j ≡ me) × (w ≡ u)). subst K t.1 mine) (λ (t : (j ≢ me) × (get_elem? vs j ≡ some u)). others j u t.0 t.1) (at_set vs me j w u e)

  pub apart_back : (v w : View I) → Apart v w → Apart w v
  apart_back v w a = record { tickets = λ n x y. a.tickets n y x; seats = λ n x y. a.seats n y x }

  pub apart_set : (vs : List (View I)) (me : ℕ) (w : View I) → AreApart vs → ((j : ℕ) (u : View I) → j ≢ me → get_elem? vs j ≡ some u → Apart w u) → AreApart (set vs me w)
  apart_set vs me w apart mine i j u v ne at_i at_j =
      ⊎_elim
      (λ (t : (i ≡ me) × (w ≡ u)). ⊎_elim
      (λ (t' : (j ≡ me) × (w ≡ v)). absurd (ne (t.0 ∙ sym t'.0)))
      (λ (t' : (j ≢ me) × (get_elem? vs j ≡ some v)). subst (λ x. Apart x v) t.1 (mine j v t'.0 t'.1))
      (at_set vs me j w v at_j))
      (λ (t : (i ≢ me) × (get_elem? vs i ≡ some u)). ⊎_elim
      (λ (t' : (j ≡ me) × (w ≡ v)). subst (λ x. Apart u x) t'.1 (apart_back w u (mine i u t.0 t.1)))
      (λ (t' : (j ≢ me) × (get_elem? vs j ≡ some v)). apart i j u v ne t.1 t'.1)
      (at_set vs me j w v at_j))
      (at_set vs me i w u at_i)

  -- a view of that stage stays among the views, where mine is another
  pub stays : (P : View I → Type 0) (vs : List (View I)) (me : ℕ) (v w : View I) → get_elem? vs me ≡ some v → (P v → ⊥) → (j : ℕ) × (u : View I) × (get_elem? vs j ≡ some u) × P u
      → (j : ℕ) × (u : View I) × (get_elem? (set vs me w) j ≡ some u) × P u
  stays P vs me v w at other h =
      (h.0, h.1, set_else vs me h.0 w (λ e. other (subst P (some-injective h.1 v (sym h.2 ∙ (ap (get_elem? vs) e ∙ at))) h.3)) ∙ h.2, h.3)

  pub here_set : (vs : List (View I)) (me : ℕ) (v w : View I) → get_elem? vs me ≡ some v → get_elem? (set vs me w) me ≡ some w
  here_set [] me v w at = absurd (some-ne-none v (sym at))
  here_set (x ∷ xs) zero v w at = refl
  here_set (x ∷ xs) (suc me) v w at = here_set xs me v w at

  -- what some view has, some view still has, where mine keeps it
  pub changes : (P : View I → Type 0) (vs : List (View I)) (me : ℕ) (v w : View I) → get_elem? vs me ≡ some v → (P v → P w) → (j : ℕ) × (u : View I) × (get_elem? vs j ≡ some u) × P u
      → (j : ℕ) × (u : View I) × (get_elem? (set vs me w) j ≡ some u) × P u
  changes P vs me v w at keep h = dite (ℕ_discrete h.0 me)
      (λ e. (me, w, here_set vs me v w at, keep (subst P (some-injective h.1 v (sym h.2 ∙ (ap (get_elem? vs) e ∙ at))) h.3)))
      (λ ne. (h.0, h.1, set_else vs me h.0 w ne ∙ h.2, h.3))
