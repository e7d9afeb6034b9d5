-- Names that are the same, their order, lists of names, and tests of a list.
use Rattle.std.proofs.Common.{◌≡◌, ℕ, List, [], ◌∷◌, ◌++◌, Bool, true, false, cond, ◌||◌, refl, sym, ap, ◌∙◌, subst, inl, inr, ⊎_elim, Ordering, Less, Equal, Greater}
use Rattle.std.specs.Prelude.{◌⊎◌, nat_eq, filter, if◌then◌else◌, is_some, Option, Some}
use Rattle.std.specs.List.{list_any}
use Rattle.std.specs.Ordering.{nat_cmp, is_lt, is_eq, ordering_reverse}
use Rattle.std.specs.Cmp.Lexicographic.{slice_cmp, nat_list_cmp_total, same_text}
use Rattle.std.proofs.lemmas.Bool.{false_from_ne_true, both_ways, or_cases, or_left, or_right, and_from, eq-eqb}
use Rattle.std.proofs.lemmas.List.Folds.{list_any-append}
use Rattle.std.proofs.lemmas.Map.Text.{is_eq-slice_cmp}
use Rattle.ck_base.specs.Order.{is_before}
use Rattle.name_rules.specs.Names.{same, is_in, has_twice, again_after, first_again, with_name, names_of_both}

pub same-true : (x y : List ℕ) → same x y ≡ true → x ≡ y
same-true x y e = same_text x y (sym e)

pub same-refl : (x : List ℕ) → same x x ≡ true
same-refl [] = refl
same-refl (x ∷ xs) = and_from (nat_eq x x) (same xs xs) (eq-eqb x x refl) (same-refl xs)

pub same-sym_false : (x y : List ℕ) → same x y ≡ false → same y x ≡ false
same-sym_false x y ne = false_from_ne_true (same y x) (λ e. both_ways (same x y) ne (subst (λ z. same x z ≡ true) (sym (same-true y x e)) (same-refl x)))

-- ---- the order

-- of two names one is before the other, or they are the same
pub three_ways : (x y : List ℕ) → (is_before x y ≡ true) ⊎ ((same x y ≡ true) ⊎ (is_before y x ≡ true))
three_ways x y = by_order (slice_cmp nat_cmp x y) refl (is_eq-slice_cmp x y)
  where
    by_order : (o : Ordering) → slice_cmp nat_cmp x y ≡ o → is_eq (slice_cmp nat_cmp x y) ≡ same x y → (is_before x y ≡ true) ⊎ ((same x y ≡ true) ⊎ (is_before y x ≡ true))
    by_order Less is eq = inl (ap is_lt is)
    by_order Equal is eq = inr (inl (sym eq ∙ ap is_eq is))
    by_order Greater is eq = inr (inr (ap is_lt (nat_list_cmp_total.antisymm y x ∙ ap ordering_reverse is)))

less : (o : Ordering) → is_lt o ≡ true → o ≡ Less
less Less e = refl
less Equal e = absurd (both_ways false refl e)
less Greater e = absurd (both_ways false refl e)

pub before-trans : (x y z : List ℕ) → is_before x y ≡ true → is_before y z ≡ true → is_before x z ≡ true
before-trans x y z e f = ap is_lt (nat_list_cmp_total.trans x y z (less (slice_cmp nat_cmp x y) e) (less (slice_cmp nat_cmp y z) f))

pub before-asym : (x y : List ℕ) → is_before x y ≡ true → is_before y x ≡ false
before-asym x y e = ap is_lt (nat_list_cmp_total.antisymm y x ∙ ap ordering_reverse (less (slice_cmp nat_cmp x y) e))

pub before-irrefl : (x : List ℕ) → is_before x x ≡ false
before-irrefl x = false_from_ne_true (is_before x x) (λ e. both_ways (is_before x x) (before-asym x x e) e)

-- ---- tests of a list

-- a test that some element passes, and one that is weaker
pub any-weaker : {X : Type 0} (p q : X → Bool) → ((x : X) → p x ≡ true → q x ≡ true) → (xs : List X) → list_any p xs ≡ true → list_any q xs ≡ true
any-weaker p q w [] e = e
any-weaker p q w (x ∷ xs) e = ⊎_elim
    (λ (h : p x ≡ true). or_left (q x) (list_any q xs) (w x h))
    (λ (h : list_any p xs ≡ true). or_right (q x) (list_any q xs) (any-weaker p q w xs h))
    (or_cases (p x) (list_any p xs) e)

pub any-in : (p : List ℕ → Bool) (xs : List (List ℕ)) (x : List ℕ) → is_in xs x ≡ true → p x ≡ true → list_any p xs ≡ true
any-in p [] x e h = e
any-in p (y ∷ ys) x e h = ⊎_elim
    (λ (s : same x y ≡ true). or_left (p y) (list_any p ys) (subst (λ z. p z ≡ true) (same-true x y s) h))
    (λ (t : is_in ys x ≡ true). or_right (p y) (list_any p ys) (any-in p ys x t h))
    (or_cases (same x y) (is_in ys x) e)

-- each name of the one list is in the other
abbrev pub IsWithin : List (List ℕ) → List (List ℕ) → Type 0
IsWithin xs ys = (x : List ℕ) → is_in xs x ≡ true → is_in ys x ≡ true

pub any-within : (p : List ℕ → Bool) (xs ys : List (List ℕ)) → IsWithin xs ys → list_any p xs ≡ true → list_any p ys ≡ true
any-within p [] ys w e = absurd (both_ways false refl e)
any-within p (x ∷ xs) ys w e = ⊎_elim
    (λ (h : p x ≡ true). any-in p ys x (w x (or_left (same x x) (is_in xs x) (same-refl x))) h)
    (λ (h : list_any p xs ≡ true). any-within p xs ys (λ y i. w y (or_right (same y x) (is_in xs y) i)) h)
    (or_cases (p x) (list_any p xs) e)

-- ---- names of two lists

kept_step : (b : Bool) (p : List ℕ → Bool) (y x : List ℕ) (ys : List (List ℕ)) → p y ≡ b → p x ≡ true → (is_in ys x ≡ true → is_in (filter p ys) x ≡ true) → is_in (y ∷ ys) x ≡ true → is_in (cond b (y ∷ filter p ys) (filter p ys)) x ≡ true
kept_step true p y x ys is px ih i = ⊎_elim (λ (s : same x y ≡ true). or_left (same x y) (is_in (filter p ys) x) s) (λ (t : is_in ys x ≡ true). or_right (same x y) (is_in (filter p ys) x) (ih t)) (or_cases (same x y) (is_in ys x) i)
kept_step false p y x ys is px ih i = ⊎_elim (λ (s : same x y ≡ true). absurd (both_ways (p y) is (subst (λ z. p z ≡ true) (same-true x y s) px))) (λ (t : is_in ys x ≡ true). ih t) (or_cases (same x y) (is_in ys x) i)

-- a name of the list that passes is in what the test keeps
pub kept : (p : List ℕ → Bool) (ys : List (List ℕ)) (x : List ℕ) → p x ≡ true → is_in ys x ≡ true → is_in (filter p ys) x ≡ true
kept p [] x px i = i
kept p (y ∷ ys) x px i = kept_step (p y) p y x ys refl px (kept p ys x px) i

in_back : (xs ys : List (List ℕ)) (x : List ℕ) → is_in ys x ≡ true → is_in (xs ++ ys) x ≡ true
in_back xs ys x i = list_any-append (same x) xs ys ∙ or_right (is_in xs x) (is_in ys x) i

in_front : (xs ys : List (List ℕ)) (x : List ℕ) → is_in xs x ≡ true → is_in (xs ++ ys) x ≡ true
in_front xs ys x i = list_any-append (same x) xs ys ∙ or_left (is_in xs x) (is_in ys x) i

with_name-new : (names : List (List ℕ)) (x : List ℕ) → is_in (with_name names x) x ≡ true
with_name-new names x = in_back (filter (λ y. is_before y x) names) (x ∷ filter (λ y. is_before x y) names) x (or_left (same x x) (is_in (filter (λ y. is_before x y) names) x) (same-refl x))

with_name-old : (names : List (List ℕ)) (x y : List ℕ) → is_in names y ≡ true → is_in (with_name names x) y ≡ true
with_name-old names x y i = ⊎_elim
    (λ (l : is_before y x ≡ true). in_front (filter (λ z. is_before z x) names) (x ∷ filter (λ z. is_before x z) names) y (kept (λ z. is_before z x) names y l i))
    (λ (r : (same y x ≡ true) ⊎ (is_before x y ≡ true)). in_back (filter (λ z. is_before z x) names) (x ∷ filter (λ z. is_before x z) names) y (⊎_elim
    (λ (s : same y x ≡ true). or_left (same y x) (is_in (filter (λ z. is_before x z) names) y) s)
    (λ (g : is_before x y ≡ true). or_right (same y x) (is_in (filter (λ z. is_before x z) names) y) (kept (λ z. is_before x z) names y g i)) r))
    (three_ways y x)

pub both_left : (xs ys : List (List ℕ)) (x : List ℕ) → is_in xs x ≡ true → is_in (names_of_both xs ys) x ≡ true
both_left xs [] x i = i
both_left xs (y ∷ ys) x i = both_left (with_name xs y) ys x (with_name-old xs y x i)

pub both_right : (xs ys : List (List ℕ)) (x : List ℕ) → is_in ys x ≡ true → is_in (names_of_both xs ys) x ≡ true
both_right xs [] x i = absurd (both_ways false refl i)
both_right xs (y ∷ ys) x i = ⊎_elim
    (λ (s : same x y ≡ true). both_left (with_name xs y) ys x (subst (λ z. is_in (with_name xs z) x ≡ true) (same-true x y s) (with_name-new xs x)))
    (λ (t : is_in ys x ≡ true). both_right (with_name xs y) ys x t)
    (or_cases (same x y) (is_in ys x) i)

-- ---- a name that comes again

same-sym : (x y : List ℕ) → same x y ≡ same y x
same-sym x y = by_case (same x y) refl
  where
    by_case : (b : Bool) → same x y ≡ b → same x y ≡ same y x
    by_case true e = e ∙ sym (subst (λ z. same z x ≡ true) (same-true x y e) (same-refl x))
    by_case false e = e ∙ sym (same-sym_false x y e)

or_middle : (a b c d : Bool) → ((a || b) || (c || d)) ≡ ((a || c) || (b || d))
or_middle true b c d = refl
or_middle false true true d = refl
or_middle false true false d = refl
or_middle false false c d = refl

among_more : (earlier : List (List ℕ)) (x : List ℕ) (xs : List (List ℕ)) → list_any (is_in (x ∷ earlier)) xs ≡ (is_in xs x || list_any (is_in earlier) xs)
among_more earlier x [] = refl
among_more earlier x (y ∷ ys) =
    ap (λ b. (same y x || is_in earlier y) || b) (among_more earlier x ys)
    ∙ or_middle (same y x) (is_in earlier y) (is_in ys x) (list_any (is_in earlier) ys)
    ∙ ap (λ b. (b || is_in ys x) || (is_in earlier y || list_any (is_in earlier) ys)) (same-sym y x)

or_true : (l : Bool) → true ≡ (l || true)
or_true true = refl
or_true false = refl

again_step : (a i h : Bool) (x : List ℕ) (l : Bool) (o : Option (List ℕ)) → is_some o ≡ ((i || l) || h) → is_some (if a then Some x else o) ≡ ((a || l) || (if i then true else h))
again_step true i h x l o e = refl
again_step false true h x l o e = e ∙ or_true l
again_step false false h x l o e = e

again_after-twice : (earlier xs : List (List ℕ)) → is_some (again_after earlier xs) ≡ (list_any (is_in earlier) xs || has_twice xs)
again_after-twice earlier [] = refl
again_after-twice earlier (x ∷ xs) = again_step (is_in earlier x) (is_in xs x) (has_twice xs) x (list_any (is_in earlier) xs) (again_after (x ∷ earlier) xs)
    (again_after-twice (x ∷ earlier) xs ∙ ap (λ b. b || has_twice xs) (among_more earlier x xs))

none_among : (xs : List (List ℕ)) → list_any (is_in []) xs ≡ false
none_among [] = refl
none_among (x ∷ xs) = none_among xs

-- some name is the first that comes again, exactly where one comes twice
pub first_again-twice : (xs : List (List ℕ)) → is_some (first_again xs) ≡ has_twice xs
first_again-twice xs = again_after-twice [] xs ∙ ap (λ b. b || has_twice xs) (none_among xs)
