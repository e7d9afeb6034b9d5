-- Lists in ascending order of the names of their items: with an item, and without one.
use Rattle.std.proofs.Common.{◌≡◌, ℕ, List, [], ◌∷◌, ◌++◌, Bool, true, false, cond, not, refl, sym, ap, ◌∙◌, subst, Some, None, map, ⊎_elim}
use Rattle.std.specs.Prelude.{◌⊎◌, filter, find}
use Rattle.std.specs.List.{list_all, AllByRecursion}
use Rattle.std.proofs.lemmas.Bool.{false_from_ne_true, both_ways, and_parts, and_from}
use Rattle.std.proofs.lemmas.List.{map-append}
use Rattle.std.proofs.lemmas.List.Elements.{filter-append}
use Rattle.ck_base.specs.Order.{is_before, are_ascending}
use Rattle.name_rules.specs.Names.{same, with_name}
use Rattle.zone_laws.proofs.RecordLaws.{same-comm}
use Rattle.name_rules.proofs.NameLemmas.{same-true, three_ways, before-trans, before-asym, before-irrefl}

-- a name that stands before another is not that one
pub before-apart : (k y : List ℕ) → is_before k y ≡ true → same k y ≡ false
before-apart k y e = false_from_ne_true (same k y) (λ s. both_ways (is_before y y) (before-irrefl y) (subst (λ z. is_before z y ≡ true) (same-true k y s) e))

pub after-apart : (k y : List ℕ) → is_before y k ≡ true → same k y ≡ false
after-apart k y e = same-comm k y ∙ before-apart y k e

module _ {X : Type 0} (name_of : X → List ℕ) where
  abbrev pub names : List X → List (List ℕ)
  names xs = map name_of xs

  abbrev pub below : List ℕ → List X → List X
  below k xs = filter (λ q. is_before (name_of q) k) xs

  abbrev pub above : List ℕ → List X → List X
  above k xs = filter (λ q. is_before k (name_of q)) xs

  abbrev pub with_item : List X → X → List X
  with_item xs x = filter (λ q. is_before (name_of q) (name_of x)) xs ++ x ∷ filter (λ q. is_before (name_of x) (name_of q)) xs

  abbrev pub without_item : List X → List ℕ → List X
  without_item xs k = filter (λ q. not (same k (name_of q))) xs

  -- the name stands before all of the items
  abbrev pub AreAbove : List ℕ → List X → Type 0
  AreAbove k xs = AllByRecursion (λ q. is_before k (name_of q) ≡ true) xs

  -- the items ascend by name
  abbrev pub Ascend : List X → Type 0
  Ascend [] = Unit {0}
  Ascend (x ∷ xs) = AreAbove (name_of x) xs × Ascend xs

  pub above-trans : (j k : List ℕ) (xs : List X) → is_before j k ≡ true → AreAbove k xs → AreAbove j xs
  above-trans j k [] e all = tt
  above-trans j k (x ∷ xs) e all = (before-trans j k (name_of x) e all.0, above-trans j k xs e all.1)

  pub none_below : (k : List ℕ) (xs : List X) → AreAbove k xs → below k xs ≡ []
  none_below k [] all = refl
  none_below k (x ∷ xs) all = ap (λ b. cond b (x ∷ below k xs) (below k xs)) (before-asym k (name_of x) all.0) ∙ none_below k xs all.1

  pub all_above : (k : List ℕ) (xs : List X) → AreAbove k xs → above k xs ≡ xs
  all_above k [] all = refl
  all_above k (x ∷ xs) all = ap (λ b. cond b (x ∷ above k xs) (above k xs)) all.0 ∙ ap (λ ys. x ∷ ys) (all_above k xs all.1)

  pub all_kept : (k : List ℕ) (xs : List X) → AreAbove k xs → without_item xs k ≡ xs
  all_kept k [] all = refl
  all_kept k (x ∷ xs) all = ap (λ b. cond (not b) (x ∷ without_item xs k) (without_item xs k)) (before-apart k (name_of x) all.0) ∙ ap (λ ys. x ∷ ys) (all_kept k xs all.1)

  -- ---- the item at its place

  pub with_first : (x : X) (xs : List X) → AreAbove (name_of x) xs → with_item xs x ≡ x ∷ xs
  with_first x xs all = ap (λ ys. ys ++ x ∷ above (name_of x) xs) (none_below (name_of x) xs all) ∙ ap (λ ys. x ∷ ys) (all_above (name_of x) xs all)

  pub with_same : (x y : X) (xs : List X) → name_of x ≡ name_of y → AreAbove (name_of y) xs → with_item (y ∷ xs) x ≡ x ∷ xs
  with_same x y xs e all =
      let here : AreAbove (name_of x) xs = subst (λ n. AreAbove n xs) (sym e) all in
      let low : is_before (name_of y) (name_of x) ≡ false = subst (λ n. is_before n (name_of x) ≡ false) e (before-irrefl (name_of x)) in
      let high : is_before (name_of x) (name_of y) ≡ false = subst (λ n. is_before (name_of x) n ≡ false) e (before-irrefl (name_of x)) in
      ap (λ b. cond b (y ∷ below (name_of x) xs) (below (name_of x) xs) ++ x ∷ above (name_of x) (y ∷ xs)) low
      ∙ ap (λ b. below (name_of x) xs ++ x ∷ cond b (y ∷ above (name_of x) xs) (above (name_of x) xs)) high
      ∙ with_first x xs here

  pub with_later : (x y : X) (xs : List X) → is_before (name_of y) (name_of x) ≡ true → with_item (y ∷ xs) x ≡ y ∷ with_item xs x
  with_later x y xs e =
      ap (λ b. cond b (y ∷ below (name_of x) xs) (below (name_of x) xs) ++ x ∷ above (name_of x) (y ∷ xs)) e
      ∙ ap (λ b. y ∷ (below (name_of x) xs ++ x ∷ cond b (y ∷ above (name_of x) xs) (above (name_of x) xs))) (before-asym (name_of y) (name_of x) e)

  pub without_first : (k : List ℕ) (y : X) (xs : List X) → same k (name_of y) ≡ true → AreAbove (name_of y) xs → without_item (y ∷ xs) k ≡ xs
  without_first k y xs e all =
      ap (λ b. cond (not b) (y ∷ without_item xs k) (without_item xs k)) e ∙ all_kept k xs (subst (λ n. AreAbove n xs) (sym (same-true k (name_of y) e)) all)

  pub without_later : (k : List ℕ) (y : X) (xs : List X) → same k (name_of y) ≡ false → without_item (y ∷ xs) k ≡ y ∷ without_item xs k
  without_later k y xs e = ap (λ b. cond (not b) (y ∷ without_item xs k) (without_item xs k)) e

  -- ---- the names of the items that pass a test

  module _ (p : X → Bool) where
    abbrev pub passing : List X → List (List ℕ)
    passing xs = map name_of (filter p xs)

    both_step : (a b : Bool) (t : List ℕ → Bool) (x : X) (some all : List X) → p x ≡ a → t (name_of x) ≡ b → passing some ≡ filter t (passing all)
        → passing (cond b (x ∷ some) some) ≡ filter t (map name_of (cond a (x ∷ filter p all) (filter p all)))
    both_step true true t x some all px tx ih = ap (λ a. map name_of (cond a (x ∷ filter p some) (filter p some))) px ∙ ap (λ ns. name_of x ∷ ns) ih
        ∙ sym (ap (λ b. cond b (name_of x ∷ filter t (passing all)) (filter t (passing all))) tx)
    both_step true false t x some all px tx ih = ih ∙ sym (ap (λ b. cond b (name_of x ∷ filter t (passing all)) (filter t (passing all))) tx)
    both_step false true t x some all px tx ih = ap (λ a. map name_of (cond a (x ∷ filter p some) (filter p some))) px ∙ ih
    both_step false false t x some all px tx ih = ih

    -- a test of names goes through
    pub passing-some : (t : List ℕ → Bool) (xs : List X) → passing (filter (λ q. t (name_of q)) xs) ≡ filter t (passing xs)
    passing-some t [] = refl
    passing-some t (x ∷ xs) = both_step (p x) (t (name_of x)) t x (filter (λ q. t (name_of q)) xs) xs refl refl (passing-some t xs)

    passing_parts : (front back : List X) (x : X) → passing (front ++ x ∷ back) ≡ passing front ++ map name_of (cond (p x) (x ∷ filter p back) (filter p back))
    passing_parts front back x = ap (map name_of) (filter-append p front (x ∷ back)) ∙ map-append name_of (filter p front) (filter p (x ∷ back))

    with_passing : (b : Bool) (xs : List X) (x : X) → p x ≡ b → passing (with_item xs x) ≡ cond b (with_name (passing xs) (name_of x)) (filter (λ y. is_before y (name_of x)) (passing xs) ++ filter (is_before (name_of x)) (passing xs))
    with_passing true xs x is = passing_parts (below (name_of x) xs) (above (name_of x) xs) x
        ∙ ap (λ b. passing (below (name_of x) xs) ++ map name_of (cond b (x ∷ filter p (above (name_of x) xs)) (filter p (above (name_of x) xs)))) is
        ∙ ap (λ ns. ns ++ name_of x ∷ passing (above (name_of x) xs)) (passing-some (λ y. is_before y (name_of x)) xs)
        ∙ ap (λ ns. filter (λ y. is_before y (name_of x)) (passing xs) ++ name_of x ∷ ns) (passing-some (is_before (name_of x)) xs)
    with_passing false xs x is = passing_parts (below (name_of x) xs) (above (name_of x) xs) x
        ∙ ap (λ b. passing (below (name_of x) xs) ++ map name_of (cond b (x ∷ filter p (above (name_of x) xs)) (filter p (above (name_of x) xs)))) is
        ∙ ap (λ ns. ns ++ passing (above (name_of x) xs)) (passing-some (λ y. is_before y (name_of x)) xs)
        ∙ ap (λ ns. filter (λ y. is_before y (name_of x)) (passing xs) ++ ns) (passing-some (is_before (name_of x)) xs)

    -- the names of an item that passes, put over none of its name
    pub passing-with : (xs : List X) (x : X) → p x ≡ true → passing (with_item xs x) ≡ with_name (passing xs) (name_of x)
    passing-with xs x is = with_passing true xs x is

    -- and of one that doesn't
    pub passing-apart : (xs : List X) (x : X) → p x ≡ false → passing (with_item xs x) ≡ filter (λ y. is_before y (name_of x)) (passing xs) ++ filter (is_before (name_of x)) (passing xs)
    passing-apart xs x is = with_passing false xs x is

    absent_step : (b a : Bool) (k : List ℕ) (x : X) (xs : List X) → same k (name_of x) ≡ a → cond a (Some x) (find (λ q. same k (name_of q)) xs) ≡ None
        → (find (λ q. same k (name_of q)) xs ≡ None → AllByRecursion (λ n. same k n ≡ false) (passing xs)) → AllByRecursion (λ n. same k n ≡ false) (map name_of (cond b (x ∷ filter p xs) (filter p xs)))
    absent_step b true k x xs is e ih = absurd (some_none x e)
      where
        some_none : (x : X) → Some x ≡ None → ⊥
        some_none x e = cc
    absent_step true false k x xs is e ih = (is, ih e)
    absent_step false false k x xs is e ih = ih e

    -- no item has the name, so none that passes has
    pub absent-passing : (k : List ℕ) (xs : List X) → find (λ q. same k (name_of q)) xs ≡ None → AllByRecursion (λ n. same k n ≡ false) (passing xs)
    absent-passing k [] e = tt
    absent-passing k (x ∷ xs) e = absent_step (p x) (same k (name_of x)) k x xs refl e (absent-passing k xs)

    above_some : (k : List ℕ) (xs : List X) (b : Bool) (x : X) → is_before k (name_of x) ≡ true → list_all (is_before k) (passing xs) ≡ true → list_all (is_before k) (map name_of (cond b (x ∷ filter p xs) (filter p xs))) ≡ true
    above_some k xs true x e all = and_from (is_before k (name_of x)) _ e all
    above_some k xs false x e all = all

    above_passing : (k : List ℕ) (xs : List X) → AreAbove k xs → list_all (is_before k) (passing xs) ≡ true
    above_passing k [] all = refl
    above_passing k (x ∷ xs) all = above_some k xs (p x) x all.0 (above_passing k xs all.1)

    ascending_step : (b : Bool) (x : X) (xs : List X) → list_all (is_before (name_of x)) (passing xs) ≡ true → are_ascending (passing xs) ≡ true → are_ascending (map name_of (cond b (x ∷ filter p xs) (filter p xs))) ≡ true
    ascending_step true x xs first rest = and_from (list_all (is_before (name_of x)) (passing xs)) _ first rest
    ascending_step false x xs first rest = rest

    pub passing-ascend : (xs : List X) → Ascend xs → are_ascending (passing xs) ≡ true
    passing-ascend [] ascend = refl
    passing-ascend (x ∷ xs) ascend = ascending_step (p x) x xs (above_passing (name_of x) xs ascend.0) (passing-ascend xs ascend.1)

    -- a name that none of the passing items has
    abbrev pub IsNonePassing : List ℕ → List X → Type 0
    IsNonePassing k xs = AllByRecursion (λ q. p q ≡ true → same k (name_of q) ≡ false) xs

    kept_step : (b : Bool) (k : List ℕ) (x : X) (xs : List X) → p x ≡ b → (p x ≡ true → same k (name_of x) ≡ false) → filter (λ y. not (same k y)) (passing xs) ≡ passing xs
        → filter (λ y. not (same k y)) (map name_of (cond b (x ∷ filter p xs) (filter p xs))) ≡ map name_of (cond b (x ∷ filter p xs) (filter p xs))
    kept_step true k x xs is apart ih = ap (λ b. cond (not b) (name_of x ∷ filter (λ y. not (same k y)) (passing xs)) (filter (λ y. not (same k y)) (passing xs))) (apart is) ∙ ap (λ ns. name_of x ∷ ns) ih
    kept_step false k x xs is apart ih = ih

    pub passing-kept : (k : List ℕ) (xs : List X) → IsNonePassing k xs → filter (λ y. not (same k y)) (passing xs) ≡ passing xs
    passing-kept k [] none = refl
    passing-kept k (x ∷ xs) none = kept_step (p x) k x xs refl none.0 (passing-kept k xs none.1)

    apart_from_above : (k : List ℕ) (xs : List X) → AreAbove k xs → IsNonePassing k xs
    apart_from_above k [] all = tt
    apart_from_above k (x ∷ xs) all = ((λ e. before-apart k (name_of x) all.0), apart_from_above k xs all.1)

    found_step : (b : Bool) (k : List ℕ) (y x : X) (xs : List X) → same k (name_of x) ≡ b → AreAbove (name_of x) xs → (find (λ q. same k (name_of q)) xs ≡ Some y → IsNonePassing k xs) → p y ≡ false
        → cond b (Some x) (find (λ q. same k (name_of q)) xs) ≡ Some y → (p x ≡ true → same k (name_of x) ≡ false) × IsNonePassing k xs
    found_step true k y x xs is all ih py e = ((λ px. absurd (both_ways (p y) py (subst (λ (q : X). p q ≡ true) (some_same x y e) px))), apart_from_above k xs (subst (λ n. AreAbove n xs) (sym (same-true k (name_of x) is)) all))
      where
        some_same : (x y : X) → Some x ≡ Some y → x ≡ y
        some_same x y e = cc
    found_step false k y x xs is all ih py e = ((λ px. is), ih e)

    -- the item of the name doesn't pass, so none that passes has the name
    pub none-found : (k : List ℕ) (y : X) (xs : List X) → Ascend xs → find (λ q. same k (name_of q)) xs ≡ Some y → p y ≡ false → IsNonePassing k xs
    none-found k y [] ascend e py = tt
    none-found k y (x ∷ xs) ascend e py = found_step (same k (name_of x)) k y x xs refl ascend.0 (λ f. none-found k y xs ascend.1 f py) py e

-- ---- names alone

all_over : (k n : List ℕ) (ms : List (List ℕ)) → is_before k n ≡ true → list_all (is_before n) ms ≡ true → AreAbove (λ (q : List ℕ). q) k ms
all_over k n [] l all = tt
all_over k n (m ∷ ms) l all = let parts = and_parts (is_before n m) _ all in (before-trans k n m l parts.0, all_over k n ms l parts.1)

parts_first : (k n : List ℕ) (ns : List (List ℕ)) → is_before k n ≡ true → list_all (is_before n) ns ≡ true → filter (λ y. is_before y k) (n ∷ ns) ++ filter (is_before k) (n ∷ ns) ≡ n ∷ ns
parts_first k n ns l rest =
    ap (λ ms. ms ++ filter (is_before k) (n ∷ ns)) (none_below (λ (q : List ℕ). q) k (n ∷ ns) (l, all_over k n ns l rest)) ∙ all_above (λ (q : List ℕ). q) k (n ∷ ns) (l, all_over k n ns l rest)

parts_later : (k n : List ℕ) (ns : List (List ℕ)) → is_before n k ≡ true → filter (λ y. is_before y k) ns ++ filter (is_before k) ns ≡ ns → filter (λ y. is_before y k) (n ∷ ns) ++ filter (is_before k) (n ∷ ns) ≡ n ∷ ns
parts_later k n ns g ih =
    ap (λ b. cond b (n ∷ filter (λ y. is_before y k) ns) (filter (λ y. is_before y k) ns) ++ filter (is_before k) (n ∷ ns)) g
    ∙ ap (λ b. n ∷ (filter (λ y. is_before y k) ns ++ cond b (n ∷ filter (is_before k) ns) (filter (is_before k) ns))) (before-asym n k g)
    ∙ ap (λ ms. n ∷ ms) ih

-- a name that is none of them falls out between those before it and those after it
pub parts-all : (k : List ℕ) (ns : List (List ℕ)) → are_ascending ns ≡ true → AllByRecursion (λ n. same k n ≡ false) ns → filter (λ y. is_before y k) ns ++ filter (is_before k) ns ≡ ns
parts-all k [] ascend apart = refl
parts-all k (n ∷ ns) ascend apart = ⊎_elim
    (λ (l : is_before k n ≡ true). parts_first k n ns l (and_parts (list_all (is_before n) ns) _ ascend).0)
    (λ (o : (same k n ≡ true) ⊎ (is_before n k ≡ true)). ⊎_elim
    (λ (s : same k n ≡ true). absurd (both_ways (same k n) apart.0 s))
    (λ (g : is_before n k ≡ true). parts_later k n ns g (parts-all k ns (and_parts (list_all (is_before n) ns) _ ascend).1 apart.1)) o)
    (three_ways k n)
