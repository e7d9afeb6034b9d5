-- Fields after wishes, one wish after another.
use Rattle.std.proofs.Common.{◌≡◌, ℕ, List, [], ◌∷◌, ◌++◌, Bool, true, false, refl, sym, ap, ◌∙◌, subst, Some, None, Option, map, append-nil, append_assoc, ⊎_elim, drop}
use Rattle.std.specs.Prelude.{filter}
use Rattle.std.specs.List.{list_all}
use Rattle.std.proofs.lemmas.Bool.{and_parts, and_from, both_ways}
use Rattle.std.proofs.lemmas.List.Elements.{filter-append}
use Rattle.ck_base.specs.Order.{is_before}
use Rattle.record_model.specs.declared.value.Value.{Value}
use Rattle.name_rules.specs.Names.{same}
use Rattle.zone_model.specs.Putting.{after_wish, after_wishes}
use Rattle.zone_judging.specs.Wishes.{AreInOrder}
use Rattle.zone_puts.specs.Orders.{AreFieldsInOrder, stands_before, stands_behind, begins_before, begins_with, IsNextBefore, given}
use Rattle.zone_puts.proofs.OrderedLemmas.{other, all_before, nearer, behind_kept, behind_gone, before_kept, before_gone, before_other, before_passed, tail_ordered, filter_ordered, all_past, same_gone, sides, passes, fails}
use Rattle.name_rules.proofs.NameLemmas.{before-asym, same-true, three_ways}

abbrev Field : Type 0
Field = List ℕ × Value

abbrev Wish : Type 0
Wish = List ℕ × Option Value

abbrev name_of : Field → List ℕ
name_of f = f.0

-- ---- one wish

-- fields that stand before the name of a wish stay as they are
one_behind : (xs ys : List Field) (x : List ℕ) (o : Option Value) → all_before name_of x xs ≡ true → after_wish (xs ++ ys) (x, o) ≡ xs ++ after_wish ys (x, o)
one_behind xs ys x None low =
    filter-append (other name_of x) xs ys ∙ ap (λ fs. fs ++ filter (other name_of x) ys) (before_other name_of x xs low)
one_behind xs ys x (Some v) low =
    (λ i. filter-append (stands_before x) xs ys i ++ (x, v) ∷ filter-append (stands_behind x) xs ys i)
    ∙ (λ i. (before_kept name_of x xs low i ++ filter (stands_before x) ys) ++ (x, v) ∷ (before_gone name_of x xs low i ++ filter (stands_behind x) ys))
    ∙ append_assoc xs (filter (stands_before x) ys) ((x, v) ∷ filter (stands_behind x) ys)

-- what the wish leaves: the fields before it, what it gives, and the fields behind it
one_done : (fields : List Field) (x : List ℕ) (o : Option Value) → AreFieldsInOrder fields
    → after_wish fields (x, o) ≡ (filter (stands_before x) fields ++ given (x, o)) ++ filter (stands_behind x) fields
one_done fields x None up = sides name_of x fields up ∙ ap (λ fs. fs ++ filter (stands_behind x) fields) (sym (append-nil (filter (stands_before x) fields)))
one_done fields x (Some v) up = sym (append_assoc (filter (stands_before x) fields) ((x, v) ∷ []) (filter (stands_behind x) fields))

-- ---- all wishes

abbrev names : List Wish → List (List ℕ)
names ws = map (λ (w : Wish). w.0) ws

abbrev are_low : List Field → List Wish → Bool
are_low xs ws = list_all (λ x. all_before name_of x xs) (names ws)

all_further : (xs ys : List Field) (ws : List Wish) → are_low xs ws ≡ true → after_wishes (xs ++ ys) ws ≡ xs ++ after_wishes ys ws
all_further xs ys [] low = refl
all_further xs ys (w ∷ ws) low = let parts = and_parts (all_before name_of w.0 xs) _ low in
    ap (λ fs. after_wishes fs ws) (one_behind xs ys w.0 w.1 parts.0) ∙ all_further xs (after_wish ys w) ws parts.1

joined_low : (x : List ℕ) (xs : List Field) (w : Wish) → all_before name_of w.0 xs ≡ true → is_before w.0 x ≡ true → all_before name_of x (xs ++ given w) ≡ true
joined_low x [] (y, None) low e = refl
joined_low x [] (y, Some v) low e = and_from (is_before y x) _ e refl
joined_low x (f ∷ xs) w low e = let parts = and_parts (is_before f.0 w.0) _ low in
    let here = (and_parts (is_before f.0 x) _ (nearer name_of w.0 x (f ∷ xs) e low)).0 in
    and_from (is_before f.0 x) _ here (joined_low x xs w parts.1 e)

all_low : (xs : List Field) (w : Wish) (ws : List Wish) → all_before name_of w.0 xs ≡ true → list_all (is_before w.0) (names ws) ≡ true → are_low (xs ++ given w) ws ≡ true
all_low xs w [] low ahead = refl
all_low xs w (v ∷ ws) low ahead = let parts = and_parts (is_before w.0 v.0) _ ahead in
    and_from (all_before name_of v.0 (xs ++ given w)) _ (joined_low v.0 xs w low parts.0) (all_low xs w ws low parts.1)

-- one wish after those that are done
pub wish_done : (done rest done_now given_now rest_now : List Field) (w : Wish) (ws : List Wish) → AreFieldsInOrder rest → AreInOrder (w ∷ ws)
    → done_now ≡ done ++ filter (stands_before w.0) rest → given_now ≡ done_now ++ given w → rest_now ≡ filter (stands_behind w.0) rest
    → given_now ++ after_wishes rest_now ws ≡ done ++ after_wishes rest (w ∷ ws)
wish_done done rest done_now given_now rest_now w ws up ordered moved gave left =
    let front = filter (stands_before w.0) rest ++ given w in
    let back = filter (stands_behind w.0) rest in
    let ahead = (and_parts (list_all (is_before w.0) (names ws)) _ ordered).0 in
    (λ i. gave i ++ after_wishes (left i) ws)
    ∙ ap (λ fs. (fs ++ given w) ++ after_wishes back ws) moved
    ∙ ap (λ fs. fs ++ after_wishes back ws) (append_assoc done (filter (stands_before w.0) rest) (given w))
    ∙ append_assoc done front (after_wishes back ws)
    ∙ ap (λ fs. done ++ fs) (sym (ap (λ fs. after_wishes fs ws) (one_done rest w.0 w.1 up) ∙ all_further front back ws (all_low (filter (stands_before w.0) rest) w ws (before_passed name_of w.0 rest) ahead)))

pub rest_ordered : (rest rest_now : List Field) (x : List ℕ) → AreFieldsInOrder rest → rest_now ≡ filter (stands_behind x) rest → AreFieldsInOrder rest_now
rest_ordered rest rest_now x up left = subst AreFieldsInOrder (sym left) (filter_ordered name_of (stands_behind x) rest up)

pub wishes_left : (w : Wish) (ws : List Wish) → AreInOrder (w ∷ ws) → AreInOrder ws
wishes_left w ws ordered = (and_parts (list_all (is_before w.0) (names ws)) _ ordered).1

-- ---- the fields before a name

-- what has moved so far, of what moves
pub record IsMoving (x : List ℕ) (done rest done_now rest_now : List Field) : Type 0 where
  pub moved : done_now ++ filter (stands_before x) rest_now ≡ done ++ filter (stands_before x) rest
  pub behind : filter (stands_behind x) rest_now ≡ filter (stands_behind x) rest
  pub ordered : AreFieldsInOrder rest_now

pub one_moved : (x : List ℕ) (done rest done_old rest_old done_now rest_now : List Field) (f : Field)
    → IsMoving x done rest done_old rest_old → IsNextBefore x rest_old (Some f) rest_now → done_now ≡ done_old ++ f ∷ [] → IsMoving x done rest done_now rest_now
one_moved x done rest done_old rest_old done_now rest_now f moving next pushed = record {
  moved =
      ap (λ fs. fs ++ filter (stands_before x) rest_now) pushed ∙ append_assoc done_old (f ∷ []) (filter (stands_before x) rest_now)
      ∙ ap (λ fs. done_old ++ fs) (sym (ap (filter (stands_before x)) next.1 ∙ passes (stands_before x) f rest_now next.0)) ∙ moving.moved;
  behind = sym (ap (filter (stands_behind x)) next.1 ∙ fails (stands_behind x) f rest_now (before-asym f.0 x next.0)) ∙ moving.behind;
  ordered = tail_ordered name_of f rest_now (subst AreFieldsInOrder next.1 moving.ordered);
}

none_before : (x : List ℕ) (rest : List Field) → AreFieldsInOrder rest → begins_before x rest ≡ false → filter (stands_before x) rest ≡ []
none_before x [] up past = refl
none_before x (f ∷ rest) up past = fails (stands_before x) f rest past ∙ behind_gone name_of x rest (all_past name_of x f rest up past)

pub all_moved : (x : List ℕ) (done rest done_now rest_now : List Field) → IsMoving x done rest done_now rest_now → begins_before x rest_now ≡ false
    → done_now ≡ done ++ filter (stands_before x) rest
all_moved x done rest done_now rest_now moving past =
    sym (append-nil done_now) ∙ ap (λ fs. done_now ++ fs) (sym (none_before x rest_now moving.ordered past)) ∙ moving.moved

-- ---- the field of a name

pub same_skipped : (x : List ℕ) (rest rest_now : List Field) → AreFieldsInOrder rest → begins_with x rest ≡ true → rest_now ≡ drop 1 rest → rest_now ≡ filter (stands_behind x) rest
same_skipped x [] rest_now up e is = is
same_skipped x (f ∷ rest) rest_now up e is = is ∙ sym (same_gone name_of x f rest up (sym (same-true f.0 x e)))

pub none_skipped : (x : List ℕ) (rest : List Field) → AreFieldsInOrder rest → begins_before x rest ≡ false → begins_with x rest ≡ false → rest ≡ filter (stands_behind x) rest
none_skipped x [] up past other = refl
none_skipped x (f ∷ rest) up past other = ⊎_elim
    (λ (e : is_before f.0 x ≡ true). absurd (both_ways (is_before f.0 x) past e))
    (⊎_elim
    (λ (e : same f.0 x ≡ true). absurd (both_ways (same f.0 x) other e))
    (λ (e : is_before x f.0 ≡ true). sym (behind_kept name_of x (f ∷ rest) (and_from (is_before x f.0) _ e (all_past name_of x f rest up past)))))
    (three_ways f.0 x)
