-- Lists in the order of the names that their items give, and what of them stands around a name.
use Rattle.std.proofs.Common.{◌≡◌, ℕ, List, [], ◌∷◌, ◌++◌, Bool, true, false, cond, not, refl, sym, ap, ◌∙◌, subst, map, ⊎_elim}
use Rattle.std.specs.Prelude.{filter}
use Rattle.std.specs.List.{list_all}
use Rattle.std.proofs.lemmas.Bool.{and_parts, and_from, both_ways}
use Rattle.ck_base.specs.Order.{is_before, are_ascending}
use Rattle.name_rules.specs.Names.{same}
use Rattle.name_rules.proofs.NameLemmas.{same-true, same-refl, same-sym_false, three_ways, before-trans, before-asym, before-irrefl}

-- ---- filters

pub passes : {T : Type 0} (p : T → Bool) (t : T) (ts : List T) → p t ≡ true → filter p (t ∷ ts) ≡ t ∷ filter p ts
passes p t ts e = ap (λ b. cond b (t ∷ filter p ts) (filter p ts)) e

pub fails : {T : Type 0} (p : T → Bool) (t : T) (ts : List T) → p t ≡ false → filter p (t ∷ ts) ≡ filter p ts
fails p t ts e = ap (λ b. cond b (t ∷ filter p ts) (filter p ts)) e

pub before-same : (x y : List ℕ) → is_before x y ≡ true → same x y ≡ false
before-same x y e = by_test (same x y) refl
  where
    by_test : (b : Bool) → same x y ≡ b → same x y ≡ false
    by_test true is = absurd (both_ways (is_before x x) (before-irrefl x) (subst (λ z. is_before x z ≡ true) (sym (same-true x y is)) e))
    by_test false is = is

module _ {T : Type 0} (key : T → List ℕ) where
  abbrev pub are_in_order : List T → Bool
  are_in_order ts = are_ascending (map key ts)

  abbrev pub before : List ℕ → T → Bool
  before x t = is_before (key t) x

  abbrev pub behind : List ℕ → T → Bool
  behind x t = is_before x (key t)

  abbrev pub other : List ℕ → T → Bool
  other x t = not (same x (key t))

  abbrev pub all_behind : List ℕ → List T → Bool
  all_behind x ts = list_all (is_before x) (map key ts)

  abbrev pub all_before : List ℕ → List T → Bool
  all_before x ts = list_all (before x) ts

  -- ---- all on one side

  pub further : (x y : List ℕ) (ts : List T) → is_before x y ≡ true → all_behind y ts ≡ true → all_behind x ts ≡ true
  further x y [] e all = refl
  further x y (t ∷ ts) e all = let parts = and_parts (is_before y (key t)) _ all in
      and_from (is_before x (key t)) _ (before-trans x y (key t) e parts.0) (further x y ts e parts.1)

  pub nearer : (x y : List ℕ) (ts : List T) → is_before x y ≡ true → all_before x ts ≡ true → all_before y ts ≡ true
  nearer x y [] e all = refl
  nearer x y (t ∷ ts) e all = let parts = and_parts (before x t) _ all in
      and_from (before y t) _ (before-trans (key t) x y parts.0 e) (nearer x y ts e parts.1)

  pub behind_kept : (x : List ℕ) (ts : List T) → all_behind x ts ≡ true → filter (behind x) ts ≡ ts
  behind_kept x [] all = refl
  behind_kept x (t ∷ ts) all = let parts = and_parts (behind x t) _ all in
      passes (behind x) t ts parts.0 ∙ ap (λ us. t ∷ us) (behind_kept x ts parts.1)

  pub behind_gone : (x : List ℕ) (ts : List T) → all_behind x ts ≡ true → filter (before x) ts ≡ []
  behind_gone x [] all = refl
  behind_gone x (t ∷ ts) all = let parts = and_parts (behind x t) _ all in
      fails (before x) t ts (before-asym x (key t) parts.0) ∙ behind_gone x ts parts.1

  pub before_kept : (x : List ℕ) (ts : List T) → all_before x ts ≡ true → filter (before x) ts ≡ ts
  before_kept x [] all = refl
  before_kept x (t ∷ ts) all = let parts = and_parts (before x t) _ all in
      passes (before x) t ts parts.0 ∙ ap (λ us. t ∷ us) (before_kept x ts parts.1)

  pub before_gone : (x : List ℕ) (ts : List T) → all_before x ts ≡ true → filter (behind x) ts ≡ []
  before_gone x [] all = refl
  before_gone x (t ∷ ts) all = let parts = and_parts (before x t) _ all in
      fails (behind x) t ts (before-asym (key t) x parts.0) ∙ before_gone x ts parts.1

  pub before_other : (x : List ℕ) (ts : List T) → all_before x ts ≡ true → filter (other x) ts ≡ ts
  before_other x [] all = refl
  before_other x (t ∷ ts) all = let parts = and_parts (before x t) _ all in
      passes (other x) t ts (ap not (same-sym_false (key t) x (before-same (key t) x parts.0))) ∙ ap (λ us. t ∷ us) (before_other x ts parts.1)

  -- those that stand before a name do so
  pub before_passed : (x : List ℕ) (ts : List T) → all_before x (filter (before x) ts) ≡ true
  before_passed x [] = refl
  before_passed x (t ∷ ts) = by_test (before x t) refl (before_passed x ts)
    where
      by_test : (b : Bool) → before x t ≡ b → all_before x (filter (before x) ts) ≡ true → all_before x (cond b (t ∷ filter (before x) ts) (filter (before x) ts)) ≡ true
      by_test true is rest = and_from (before x t) _ is rest
      by_test false is rest = rest

  pub behind_passed : (p : T → Bool) (x : List ℕ) (ts : List T) → all_behind x ts ≡ true → all_behind x (filter p ts) ≡ true
  behind_passed p x [] all = refl
  behind_passed p x (t ∷ ts) all = by_test (p t) (behind_passed p x ts (and_parts (behind x t) _ all).1)
    where
      by_test : (b : Bool) → all_behind x (filter p ts) ≡ true → all_behind x (cond b (t ∷ filter p ts) (filter p ts)) ≡ true
      by_test true rest = and_from (behind x t) _ (and_parts (behind x t) _ all).0 rest
      by_test false rest = rest

  -- ---- lists in order

  pub tail_ordered : (t : T) (ts : List T) → are_in_order (t ∷ ts) ≡ true → are_in_order ts ≡ true
  tail_ordered t ts up = (and_parts (all_behind (key t) ts) _ up).1

  pub tail_behind : (t : T) (ts : List T) → are_in_order (t ∷ ts) ≡ true → all_behind (key t) ts ≡ true
  tail_behind t ts up = (and_parts (all_behind (key t) ts) _ up).0

  pub filter_ordered : (p : T → Bool) (ts : List T) → are_in_order ts ≡ true → are_in_order (filter p ts) ≡ true
  filter_ordered p [] up = refl
  filter_ordered p (t ∷ ts) up = by_test (p t) (filter_ordered p ts (tail_ordered t ts up))
    where
      by_test : (b : Bool) → are_in_order (filter p ts) ≡ true → are_in_order (cond b (t ∷ filter p ts) (filter p ts)) ≡ true
      by_test true rest = and_from (all_behind (key t) (filter p ts)) _ (behind_passed p (key t) ts (tail_behind t ts up)) rest
      by_test false rest = rest

  -- the first is no longer before the name, so that none is
  pub all_past : (x : List ℕ) (t : T) (ts : List T) → are_in_order (t ∷ ts) ≡ true → before x t ≡ false → all_behind x ts ≡ true
  all_past x t ts up past = ⊎_elim
      (λ (e : is_before (key t) x ≡ true). absurd (both_ways (before x t) past e))
      (⊎_elim
      (λ (e : same (key t) x ≡ true). subst (λ y. all_behind y ts ≡ true) (same-true (key t) x e) (tail_behind t ts up))
      (λ (e : is_before x (key t) ≡ true). further x (key t) ts e (tail_behind t ts up)))
      (three_ways (key t) x)

  -- one whose name is that one stands on no side of it
  pub same_gone : (x : List ℕ) (t : T) (ts : List T) → are_in_order (t ∷ ts) ≡ true → x ≡ key t → filter (behind x) (t ∷ ts) ≡ ts
  same_gone x t ts up is =
      fails (behind x) t ts (subst (λ y. is_before y (key t) ≡ false) (sym is) (before-irrefl (key t)))
      ∙ behind_kept x ts (subst (λ y. all_behind y ts ≡ true) (sym is) (tail_behind t ts up))

  side_step : (x : List ℕ) (t : T) (ts : List T) → are_in_order (t ∷ ts) ≡ true → filter (other x) ts ≡ filter (before x) ts ++ filter (behind x) ts
      → filter (other x) (t ∷ ts) ≡ filter (before x) (t ∷ ts) ++ filter (behind x) (t ∷ ts)
  side_step x t ts up rest = ⊎_elim
      (λ (e : is_before (key t) x ≡ true).
      passes (other x) t ts (ap not (same-sym_false (key t) x (before-same (key t) x e))) ∙ ap (λ us. t ∷ us) rest
      ∙ sym (λ i. passes (before x) t ts e i ++ fails (behind x) t ts (before-asym (key t) x e) i))
      (⊎_elim
      (λ (e : same (key t) x ≡ true).
      let is : key t ≡ x = same-true (key t) x e in
      fails (other x) t ts (ap not (subst (λ y. same y (key t) ≡ true) is (same-refl (key t)))) ∙ rest
      ∙ sym (λ i. fails (before x) t ts (subst (λ y. is_before (key t) y ≡ false) is (before-irrefl (key t))) i ++ fails (behind x) t ts (subst (λ y. is_before y (key t) ≡ false) is (before-irrefl (key t))) i))
      (λ (e : is_before x (key t) ≡ true).
      let none : filter (before x) ts ≡ [] = behind_gone x ts (further x (key t) ts e (tail_behind t ts up)) in
      passes (other x) t ts (ap not (before-same x (key t) e)) ∙ ap (λ us. t ∷ us) (rest ∙ ap (λ us. us ++ filter (behind x) ts) none)
      ∙ sym (λ i. (fails (before x) t ts (before-asym x (key t) e) ∙ none) i ++ passes (behind x) t ts e i)))
      (three_ways (key t) x)

  -- those of another name stand before it or behind it
  pub sides : (x : List ℕ) (ts : List T) → are_in_order ts ≡ true → filter (other x) ts ≡ filter (before x) ts ++ filter (behind x) ts
  sides x [] up = refl
  sides x (t ∷ ts) up = side_step x t ts up (sides x ts (tail_ordered t ts up))
