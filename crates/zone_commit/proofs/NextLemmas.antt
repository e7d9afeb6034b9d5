-- The first of those that a test keeps is the first that passes it.
use Rattle.std.proofs.Common.{◌≡◌, ℕ, List, [], ◌∷◌, Bool, true, false, cond, refl, sym, ap, ◌∙◌, Some, None, Option}
use Rattle.std.specs.Prelude.{filter, find, option_map}
use Rattle.std.specs.Map.Iter.{TakesFirst}

first_step : (b : Bool) (p q : List ℕ → Bool) (y x : List ℕ) (ys t : List (List ℕ)) → p y ≡ b → (filter q ys ≡ x ∷ t → find p ys ≡ Some x) → cond b (y ∷ filter q ys) (filter q ys) ≡ x ∷ t → cond b (Some y) (find p ys) ≡ Some x
first_step true p q y x ys t is ih e = ap Some (same_head y x (filter q ys) t e)
  where
    same_head : (y x : List ℕ) (ys xs : List (List ℕ)) → y ∷ ys ≡ x ∷ xs → y ≡ x
    same_head y x ys xs e = cc
first_step false p q y x ys t is ih e = ih e

no_cons : (x : List ℕ) (t : List (List ℕ)) → [] ≡ x ∷ t → ⊥
no_cons x t e = cc

pub first-some : (p q : List ℕ → Bool) → ((y : List ℕ) → q y ≡ p y) → (xs : List (List ℕ)) (x : List ℕ) (t : List (List ℕ)) → filter q xs ≡ x ∷ t → find p xs ≡ Some x
first-some p q agree [] x t e = absurd (no_cons x t e)
first-some p q agree (y ∷ ys) x t e = first_step (p y) p q y x ys t refl (first-some p q agree ys x t) (sym (ap (λ b. cond b (y ∷ filter q ys) (filter q ys)) (agree y)) ∙ e)

none_step : (b : Bool) (p q : List ℕ → Bool) (y : List ℕ) (ys : List (List ℕ)) → (filter q ys ≡ [] → find p ys ≡ None) → cond b (y ∷ filter q ys) (filter q ys) ≡ [] → cond b (Some y) (find p ys) ≡ None
none_step true p q y ys ih e = absurd (no_cons y (filter q ys) (sym e))
none_step false p q y ys ih e = ih e

pub first-none : (p q : List ℕ → Bool) → ((y : List ℕ) → q y ≡ p y) → (xs : List (List ℕ)) → filter q xs ≡ [] → find p xs ≡ None
first-none p q agree [] e = refl
first-none p q agree (y ∷ ys) e = none_step (p y) p q y ys (first-none p q agree ys) (sym (ap (λ b. cond b (y ∷ filter q ys) (filter q ys)) (agree y)) ∙ e)

-- what is taken first of those that a test keeps
pub first-kept : {A : Type 0} (shows : A → List ℕ) (p q : List ℕ → Bool) → ((y : List ℕ) → q y ≡ p y) → (xs all : List (List ℕ)) (r : Option A) (t : List (List ℕ)) → all ≡ filter q xs → TakesFirst shows all r t → option_map shows r ≡ find p xs
first-kept shows p q agree xs all None t is step = sym (first-none p q agree xs (sym is ∙ step.0))
first-kept shows p q agree xs all (Some x) t is step = sym (first-some p q agree xs (shows x) t (sym is ∙ step))

-- and of all
pub first-all : {A : Type 0} (shows : A → List ℕ) (p : List ℕ → Bool) → ((y : List ℕ) → p y ≡ true) → (xs : List (List ℕ)) (r : Option A) (t : List (List ℕ)) → TakesFirst shows xs r t → option_map shows r ≡ find p xs
first-all shows p each xs None t step = sym (ap (find p) step.0)
first-all shows p each xs (Some x) t step = sym (ap (find p) step ∙ ap (λ b. cond b (Some (shows x)) (find p t)) (each (shows x)))
