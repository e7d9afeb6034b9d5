-- Wishes in the order of their names, cut in two.
use Rattle.std.proofs.Common.{◌≡◌, ℕ, List, [], ◌∷◌, ◌++◌, Bool, true, false, ◌||◌, refl, sym, ap, ◌∙◌, subst, Option, map, Less, Equal, Greater}
use Rattle.std.specs.List.{list_all}
use Rattle.std.specs.Ordering.{nat_cmp, is_lt, is_eq, ordering_reverse}
use Rattle.std.specs.Cmp.Lexicographic.{slice_cmp, nat_list_cmp_total}
use Rattle.std.proofs.lemmas.Bool.{and_parts, and_from, both_ways}
use Rattle.std.proofs.lemmas.Map.Text.{is_eq-slice_cmp}
use Rattle.ck_base.specs.Order.{is_before}
use Rattle.record_model.specs.declared.value.Value.{Value}
use Rattle.zone_model.specs.Names.{same}
use Rattle.name_rules.proofs.NameLemmas.{before-trans}
use Rattle.zone_laws.proofs.RecordLaws.{same-comm, before_differs}
use Rattle.zone_judging.specs.Wishes.{AreInOrder, is_wished}

abbrev Wish : Type 0
Wish = List ℕ × Option Value

abbrev names : List Wish → List (List ℕ)
names ws = map (λ (w : Wish). w.0) ws

none_behind : (x : List ℕ) (w : Wish) (ws : List Wish) → is_before x w.0 ≡ true → list_all (is_before w.0) (names ws) ≡ true → is_wished ws x ≡ false
none_behind x w [] e all = refl
none_behind x w (v ∷ ws) e all = let parts = and_parts (is_before w.0 v.0) _ all in
    ap (λ b. b || is_wished ws x) (before_differs x v.0 (before-trans x w.0 v.0 e parts.0)) ∙ none_behind x w ws e parts.1

-- ---- one wish between others

all_front : (p : List ℕ → Bool) (front : List Wish) (w : Wish) (behind : List Wish) → list_all p (names (front ++ w ∷ behind)) ≡ true → list_all p (names front) ≡ true
all_front p [] w behind all = refl
all_front p (v ∷ front) w behind all = let parts = and_parts (p v.0) _ all in and_from (p v.0) _ parts.0 (all_front p front w behind parts.1)

all_here : (p : List ℕ → Bool) (front : List Wish) (w : Wish) (behind : List Wish) → list_all p (names (front ++ w ∷ behind)) ≡ true → p w.0 ≡ true
all_here p [] w behind all = (and_parts (p w.0) _ all).0
all_here p (v ∷ front) w behind all = all_here p front w behind (and_parts (p v.0) _ all).1

front_up : (front : List Wish) (w : Wish) (behind : List Wish) → AreInOrder (front ++ w ∷ behind) → AreInOrder front
front_up [] w behind up = refl
front_up (v ∷ front) w behind up = let parts = and_parts (list_all (is_before v.0) (names (front ++ w ∷ behind))) _ up in
    and_from (list_all (is_before v.0) (names front)) _ (all_front (is_before v.0) front w behind parts.0) (front_up front w behind parts.1)

from_here : (front : List Wish) (w : Wish) (behind : List Wish) → AreInOrder (front ++ w ∷ behind) → (list_all (is_before w.0) (names behind) ≡ true) × AreInOrder behind
from_here [] w behind up = and_parts (list_all (is_before w.0) (names behind)) _ up
from_here (v ∷ front) w behind up = from_here front w behind (and_parts (list_all (is_before v.0) (names (front ++ w ∷ behind))) _ up).1

none_ahead : (x : List ℕ) (front : List Wish) (w : Wish) (behind : List Wish) → is_before w.0 x ≡ true → AreInOrder (front ++ w ∷ behind) → is_wished front x ≡ false
none_ahead x [] w behind e up = refl
none_ahead x (v ∷ front) w behind e up = let parts = and_parts (list_all (is_before v.0) (names (front ++ w ∷ behind))) _ up in
    ap (λ b. b || is_wished front x) (same-comm x v.0 ∙ before_differs v.0 x (before-trans v.0 w.0 x (all_here (is_before v.0) front w behind parts.0) e))
    ∙ none_ahead x front w behind e parts.1

-- ---- where the two halves are known

abbrev Cut : List Wish → List Wish → Wish → List Wish → Type 0
Cut ws front w behind = ws ≡ front ++ w ∷ behind

pub nothing_wished : (ws : List Wish) (x : List ℕ) → ws ≡ [] → is_wished ws x ≡ false
nothing_wished ws x is = ap (λ vs. is_wished vs x) is

any_joined : (x : List ℕ) (front : List Wish) (w : Wish) (behind : List Wish) → is_wished (front ++ w ∷ behind) x ≡ (is_wished front x || (same x w.0 || is_wished behind x))
any_joined x [] w behind = refl
any_joined x (v ∷ front) w behind = ap (λ b. same x v.0 || b) (any_joined x front w behind) ∙ moved (same x v.0) (is_wished front x) (same x w.0 || is_wished behind x)
  where
    moved : (a b c : Bool) → (a || (b || c)) ≡ ((a || b) || c)
    moved true b c = refl
    moved false b c = refl

or_true : (a b c : Bool) → b ≡ true → (a || (b || c)) ≡ true
or_true true b c e = refl
or_true false true c e = refl
or_true false false c e = absurd (both_ways false refl e)

or_front : (a b c : Bool) → b ≡ false → c ≡ false → (a || (b || c)) ≡ a
or_front true b c e f = refl
or_front false false c e f = f
or_front false true c e f = absurd (both_ways true e refl)

or_behind : (a b c : Bool) → a ≡ false → b ≡ false → (a || (b || c)) ≡ c
or_behind false false c e f = refl
or_behind true b c e f = absurd (both_ways true e refl)
or_behind a true c e f = absurd (both_ways true f refl)

pub wished_here : (x : List ℕ) (ws front : List Wish) (w : Wish) (behind : List Wish) → Cut ws front w behind → slice_cmp nat_cmp x w.0 ≡ Equal → is_wished ws x ≡ true
wished_here x ws front w behind is e = ap (λ vs. is_wished vs x) is ∙ any_joined x front w behind
    ∙ or_true (is_wished front x) (same x w.0) (is_wished behind x) (sym (is_eq-slice_cmp x w.0) ∙ ap is_eq e)

pub wished_front : (x : List ℕ) (ws front : List Wish) (w : Wish) (behind : List Wish) → Cut ws front w behind → AreInOrder ws → slice_cmp nat_cmp x w.0 ≡ Less → is_wished ws x ≡ is_wished front x
wished_front x ws front w behind is up e =
    let cut = subst AreInOrder is up in
    ap (λ vs. is_wished vs x) is ∙ any_joined x front w behind
    ∙ or_front (is_wished front x) (same x w.0) (is_wished behind x) (before_differs x w.0 (ap is_lt e)) (none_behind x w behind (ap is_lt e) (from_here front w behind cut).0)

pub wished_behind : (x : List ℕ) (ws front : List Wish) (w : Wish) (behind : List Wish) → Cut ws front w behind → AreInOrder ws → slice_cmp nat_cmp x w.0 ≡ Greater → is_wished ws x ≡ is_wished behind x
wished_behind x ws front w behind is up e =
    let cut = subst AreInOrder is up in
    let later : is_before w.0 x ≡ true = ap is_lt (nat_list_cmp_total.antisymm w.0 x ∙ ap ordering_reverse e) in
    ap (λ vs. is_wished vs x) is ∙ any_joined x front w behind
    ∙ or_behind (is_wished front x) (same x w.0) (is_wished behind x) (none_ahead x front w behind later cut) (same-comm x w.0 ∙ before_differs w.0 x later)

pub front_ordered : (ws front : List Wish) (w : Wish) (behind : List Wish) → Cut ws front w behind → AreInOrder ws → AreInOrder front
front_ordered ws front w behind is up = front_up front w behind (subst AreInOrder is up)

pub behind_ordered : (ws front : List Wish) (w : Wish) (behind : List Wish) → Cut ws front w behind → AreInOrder ws → AreInOrder behind
behind_ordered ws front w behind is up = (from_here front w behind (subst AreInOrder is up)).1
