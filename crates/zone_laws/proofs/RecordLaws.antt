-- Records looked up by name, after changes one after another.
use Rattle.std.proofs.Common.{◌≡◌, ℕ, List, [], ◌∷◌, ◌++◌, Bool, true, false, cond, not, refl, sym, ap, ◌∙◌, subst, Some, None, Option, map, ⊎_elim}
use Rattle.std.specs.Prelude.{◌⊎◌, filter, filter_map, fold, find, option_map}
use Rattle.std.specs.List.{list_all, cons_option}
use Rattle.std.specs.Option.{option_map_or}
use Rattle.std.proofs.lemmas.Bool.{false_from_ne_true, both_ways, and_parts, and_from, cond-true}
use Rattle.std.proofs.lemmas.Option.{same_Some}
use Rattle.ck_base.specs.Order.{is_before}
use Rattle.record_model.specs.declared.records.Record.{Record}
use Rattle.zone_model.specs.declared.commits.Write.{Write}
use Rattle.zone_model.specs.declared.commits.Write.TheVariants.{Put, Remove, PutRemove}
use Rattle.zone_model.specs.Names.{same}
use Rattle.name_rules.specs.Options.{or_else}
use Rattle.zone_model.specs.Records.{record_at, names_in, IsAscending, with_record, without}
use Rattle.zone_model.specs.Zones.{after_write, written_name}
use Rattle.name_rules.proofs.NameLemmas.{same-true, same-refl, same-sym_false, three_ways, before-asym, before-irrefl}

pub same-comm : (x y : List ℕ) → same x y ≡ same y x
same-comm x y = by (same x y) refl
  where
    by : (b : Bool) → same x y ≡ b → same x y ≡ same y x
    by true is = is ∙ sym (subst (λ z. same z x ≡ true) (same-true x y is) (same-refl x))
    by false is = is ∙ sym (same-sym_false x y is)

pub or-none : (o : Option Record) → or_else o None ≡ o
or-none None = refl
or-none (Some r) = refl

pub none-some : (o : Option Record) (r : Record) → o ≡ None → o ≡ Some r → ⊥
none-some o r none some = both_ways false refl (ap (λ (p : Option Record). option_map_or (λ _. true) p false) (sym none ∙ some))

-- ---- one list

found_step : (b : Bool) (q r : Record) (o : Option Record) (x : List ℕ) → same x q.name ≡ b → (o ≡ Some r → same x r.name ≡ true) → cond b (Some q) o ≡ Some r → same x r.name ≡ true
found_step true q r o x is ih e = subst (λ (p : Record). same x p.name ≡ true) (same_Some q r e) is
found_step false q r o x is ih e = ih e

pub found-name : (rows : List Record) (x : List ℕ) (r : Record) → record_at rows x ≡ Some r → same x r.name ≡ true
found-name [] x r e = absurd (none-some None r refl e)
found-name (q ∷ rows) x r e = found_step (same x q.name) q r (record_at rows x) x refl (found-name rows x r) e

pub found-append : (front back : List Record) (x : List ℕ) → record_at (front ++ back) x ≡ or_else (record_at front x) (record_at back x)
found-append [] back x = refl
found-append (r ∷ front) back x = by (same x r.name) (found-append front back x)
  where
    by : (b : Bool) → record_at (front ++ back) x ≡ or_else (record_at front x) (record_at back x) → cond b (Some r) (record_at (front ++ back) x) ≡ or_else (cond b (Some r) (record_at front x)) (record_at back x)
    by true ih = refl
    by false ih = ih

kept_step : (b s : Bool) (p : List ℕ → Bool) (r : Record) (some rows : List Record) (x : List ℕ) → p x ≡ true → p r.name ≡ b → same x r.name ≡ s → record_at some x ≡ record_at rows x
    → record_at (cond b (r ∷ some) some) x ≡ cond s (Some r) (record_at rows x)
kept_step true s p r some rows x px pr is ih = ap (λ b. cond b (Some r) (record_at some x)) is ∙ ap (λ o. cond s (Some r) o) ih
kept_step false true p r some rows x px pr is ih = absurd (both_ways (p r.name) pr (subst (λ y. p y ≡ true) (same-true x r.name is) px))
kept_step false false p r some rows x px pr is ih = ih

-- a name that passes is found as before among those that pass
pub found-kept : (p : List ℕ → Bool) (rows : List Record) (x : List ℕ) → p x ≡ true → record_at (filter (λ (q : Record). p q.name) rows) x ≡ record_at rows x
found-kept p [] x px = refl
found-kept p (r ∷ rows) x px = kept_step (p r.name) (same x r.name) p r (filter (λ (q : Record). p q.name) rows) rows x px refl refl (found-kept p rows x px)

dropped_step : (b s : Bool) (p : List ℕ → Bool) (r : Record) (some : List Record) (x : List ℕ) → p x ≡ false → p r.name ≡ b → same x r.name ≡ s → record_at some x ≡ None
    → record_at (cond b (r ∷ some) some) x ≡ None
dropped_step true true p r some x px pr is ih = absurd (both_ways (p x) px (subst (λ y. p y ≡ true) (sym (same-true x r.name is)) pr))
dropped_step true false p r some x px pr is ih = ap (λ b. cond b (Some r) (record_at some x)) is ∙ ih
dropped_step false s p r some x px pr is ih = ih

-- and one that doesn't pass is not found
pub found-dropped : (p : List ℕ → Bool) (rows : List Record) (x : List ℕ) → p x ≡ false → record_at (filter (λ (q : Record). p q.name) rows) x ≡ None
found-dropped p [] x px = refl
found-dropped p (r ∷ rows) x px = dropped_step (p r.name) (same x r.name) p r (filter (λ (q : Record). p q.name) rows) x px refl refl (found-dropped p rows x px)

found_map_step : (b : Bool) (f : Record → Record) (r : Record) (some rows : List Record) (x : List ℕ) → record_at some x ≡ option_map f (record_at rows x)
    → cond b (Some (f r)) (record_at some x) ≡ option_map f (cond b (Some r) (record_at rows x))
found_map_step true f r some rows x ih = refl
found_map_step false f r some rows x ih = ih

-- changed records are found by their names
pub found-map : (f : Record → Record) → ((r : Record) → (f r).name ≡ r.name) → (rows : List Record) (x : List ℕ) → record_at (map f rows) x ≡ option_map f (record_at rows x)
found-map f keeps [] x = refl
found-map f keeps (r ∷ rows) x = ap (λ y. cond (same x y) (Some (f r)) (record_at (map f rows) x)) (keeps r) ∙ found_map_step (same x r.name) f r (map f rows) rows x (found-map f keeps rows x)

-- ---- a list in order

below_step : (b : Bool) (y : List ℕ) (r : Record) (o : Option Record) → same y r.name ≡ b → is_before y r.name ≡ true → o ≡ None → cond b (Some r) o ≡ None
below_step true y r o is before none = absurd (both_ways (is_before y y) (before-irrefl y) (subst (λ z. is_before y z ≡ true) (sym (same-true y r.name is)) before))
below_step false y r o is before none = none

-- a name before all others is none of them
pub found-below : (y : List ℕ) (rows : List Record) → list_all (is_before y) (names_in rows) ≡ true → record_at rows y ≡ None
found-below y [] all = refl
found-below y (r ∷ rows) all = let parts = and_parts (is_before y r.name) _ all in below_step (same y r.name) y r (record_at rows y) refl parts.0 (found-below y rows parts.1)

pub later_step : (b : Bool) (r q : Record) (rows : List Record) (x : List ℕ) → same x r.name ≡ b → record_at rows r.name ≡ None → record_at rows x ≡ Some q → cond b (Some r) (record_at rows x) ≡ Some q
later_step true r q rows x is none e = absurd (none-some (record_at rows x) q (subst (λ y. record_at rows y ≡ None) (sym (same-true x r.name is)) none) e)
later_step false r q rows x is none e = e

-- what holds of each record that is found holds of all
pub all-found : (p : Record → Bool) (rows : List Record) → IsAscending rows → ((x : List ℕ) (r : Record) → record_at rows x ≡ Some r → p r ≡ true) → list_all p rows ≡ true
all-found p [] ascend each = refl
all-found p (r ∷ rows) ascend each =
    let parts = and_parts (list_all (is_before r.name) (names_in rows)) _ ascend in
    and_from (p r) _ (each r.name r (cond-true (same r.name r.name) (Some r) (record_at rows r.name) (same-refl r.name)))
    (all-found p rows parts.1 (λ x q e. each x q (later_step (same x r.name) r q rows x refl (found-below r.name rows parts.0) e)))

all_step : (b : Bool) (p : Record → Bool) (q r : Record) (o : Option Record) → p q ≡ true → (o ≡ Some r → p r ≡ true) → cond b (Some q) o ≡ Some r → p r ≡ true
all_step true p q r o pq ih e = subst (λ (w : Record). p w ≡ true) (same_Some q r e) pq
all_step false p q r o pq ih e = ih e

pub found-all : (p : Record → Bool) (rows : List Record) (x : List ℕ) (r : Record) → list_all p rows ≡ true → record_at rows x ≡ Some r → p r ≡ true
found-all p [] x r all e = absurd (none-some None r refl e)
found-all p (q ∷ rows) x r all e = let parts = and_parts (p q) _ all in all_step (same x q.name) p q r (record_at rows x) parts.0 (found-all p rows x r parts.1) e

-- ---- one change

with_before : (f b o : Option Record) (s : Bool) (r : Record) → s ≡ false → f ≡ o → b ≡ None → or_else f (cond s (Some r) b) ≡ cond s (Some r) o
with_before f b o s r off front back =
    ap (λ t. or_else t (cond s (Some r) b)) front ∙ ap (λ t. or_else o (cond s (Some r) t)) back ∙ ap (λ t. or_else o (cond t (Some r) None)) off ∙ or-none o ∙ sym (ap (λ t. cond t (Some r) o) off)

with_same : (f b o : Option Record) (s : Bool) (r : Record) → s ≡ true → f ≡ None → or_else f (cond s (Some r) b) ≡ cond s (Some r) o
with_same f b o s r on front = ap (λ t. or_else t (cond s (Some r) b)) front ∙ ap (λ t. cond t (Some r) b) on ∙ sym (ap (λ t. cond t (Some r) o) on)

with_after : (f b o : Option Record) (s : Bool) (r : Record) → f ≡ None → b ≡ o → or_else f (cond s (Some r) b) ≡ cond s (Some r) o
with_after f b o s r front back = ap (λ t. or_else t (cond s (Some r) b)) front ∙ ap (λ t. cond s (Some r) t) back

pub before_differs : (x y : List ℕ) → is_before x y ≡ true → same x y ≡ false
before_differs x y e = false_from_ne_true (same x y) (λ s. both_ways (is_before y y) (before-irrefl y) (subst (λ z. is_before z y ≡ true) (same-true x y s) e))

-- a record that is put is found by its name, and the others as before
pub found-with : (rows : List Record) (r : Record) (x : List ℕ) → record_at (with_record rows r) x ≡ cond (same x r.name) (Some r) (record_at rows x)
found-with rows r x =
    let front = filter (λ (q : Record). is_before q.name r.name) rows in
    let back = filter (λ (q : Record). is_before r.name q.name) rows in
    found-append front (r ∷ back) x ∙ ⊎_elim
    (λ (l : is_before x r.name ≡ true). with_before (record_at front x) (record_at back x) (record_at rows x) (same x r.name) r (before_differs x r.name l)
    (found-kept (λ y. is_before y r.name) rows x l) (found-dropped (is_before r.name) rows x (before-asym x r.name l)))
    (λ (o : (same x r.name ≡ true) ⊎ (is_before r.name x ≡ true)). ⊎_elim
    (λ (s : same x r.name ≡ true). with_same (record_at front x) (record_at back x) (record_at rows x) (same x r.name) r s
    (found-dropped (λ y. is_before y r.name) rows x (subst (λ y. is_before x y ≡ false) (same-true x r.name s) (before-irrefl x))))
    (λ (g : is_before r.name x ≡ true). with_after (record_at front x) (record_at back x) (record_at rows x) (same x r.name) r
    (found-dropped (λ y. is_before y r.name) rows x (before-asym r.name x g)) (found-kept (is_before r.name) rows x g)) o)
    (three_ways x r.name)

without_step : (b : Bool) (rows : List Record) (y x : List ℕ) → same y x ≡ b → record_at (without rows y) x ≡ cond b None (record_at rows x)
without_step true rows y x is = found-dropped (λ z. not (same y z)) rows x (ap not is)
without_step false rows y x is = found-kept (λ z. not (same y z)) rows x (ap not is)

-- a name that is removed is not found, and the others as before
pub found-without : (rows : List Record) (y x : List ℕ) → record_at (without rows y) x ≡ cond (same x y) None (record_at rows x)
found-without rows y x = without_step (same y x) rows y x refl ∙ ap (λ b. cond b None (record_at rows x)) (same-comm y x)

-- what a write leaves of its name
abbrev pub left_by : Write → Option Record
left_by (Put r) = Some r
left_by (Remove x) = None
left_by (PutRemove x) = None

pub found-after : (rows : List Record) (w : Write) (x : List ℕ) → record_at (after_write rows w) x ≡ cond (same x (written_name w)) (left_by w) (record_at rows x)
found-after rows (Put r) x = found-with rows r x
found-after rows (Remove y) x = found-without rows y x
found-after rows (PutRemove y) x = found-without rows y x

-- ---- changes one after another, each of another name

module _ {X U : Type 0} (name_of : X → List ℕ) (change_of : X → Option U) (step : List Record → U → List Record) (changed_name : U → List ℕ) (left : U → Option Record)
    (stepped : (rows : List Record) (u : U) (x : List ℕ) → record_at (step rows u) x ≡ cond (same x (changed_name u)) (left u) (record_at rows x))
    (named : (i : X) (u : U) → change_of i ≡ Some u → changed_name u ≡ name_of i) where
  abbrev pub item_at : List X → List ℕ → Option X
  item_at xs x = find (λ i. same x (name_of i)) xs

  abbrev pub EachOnce : List X → Type 0
  EachOnce [] = Unit {0}
  EachOnce (i ∷ xs) = (item_at xs (name_of i) ≡ None) × EachOnce xs

  -- what the item of a name makes of its record
  abbrev pub settled : Option X → Option Record → Option Record
  settled None o = o
  settled (Some i) o = option_map_or left (change_of i) o

  unchanged_step : (s : Bool) (i : X) (xs : List X) (x : List ℕ) (o : Option Record) → same x (name_of i) ≡ s → item_at xs (name_of i) ≡ None → change_of i ≡ None
      → settled (item_at xs x) o ≡ settled (cond s (Some i) (item_at xs x)) o
  unchanged_step true i xs x o is once none = ap (λ j. settled j o) (subst (λ y. item_at xs y ≡ None) (sym (same-true x (name_of i) is)) once) ∙ sym (ap (λ c. option_map_or left c o) none)
  unchanged_step false i xs x o is once none = refl

  changed_step : (s : Bool) (i : X) (u : U) (xs : List X) (x : List ℕ) (o : Option Record) → same x (name_of i) ≡ s → item_at xs (name_of i) ≡ None → change_of i ≡ Some u
      → settled (item_at xs x) (cond s (left u) o) ≡ settled (cond s (Some i) (item_at xs x)) o
  changed_step true i u xs x o is once some = ap (λ j. settled j (left u)) (subst (λ y. item_at xs y ≡ None) (sym (same-true x (name_of i) is)) once) ∙ sym (ap (λ c. option_map_or left c o) some)
  changed_step false i u xs x o is once some = refl

  fold_step : (c : Option U) (i : X) (xs : List X) (rows : List Record) (x : List ℕ) → change_of i ≡ c → item_at xs (name_of i) ≡ None
      → ((some : List Record) → record_at (fold step some (filter_map change_of xs)) x ≡ settled (item_at xs x) (record_at some x))
      → record_at (fold step rows (cons_option c (filter_map change_of xs))) x ≡ settled (cond (same x (name_of i)) (Some i) (item_at xs x)) (record_at rows x)
  fold_step None i xs rows x is once ih = ih rows ∙ unchanged_step (same x (name_of i)) i xs x (record_at rows x) refl once is
  fold_step (Some u) i xs rows x is once ih = ih (step rows u)
      ∙ ap (settled (item_at xs x)) (stepped rows u x ∙ ap (λ y. cond (same x y) (left u) (record_at rows x)) (named i u is))
      ∙ changed_step (same x (name_of i)) i u xs x (record_at rows x) refl once is

  -- each name has what its own item leaves
  pub found-fold : (xs : List X) (rows : List Record) (x : List ℕ) → EachOnce xs → record_at (fold step rows (filter_map change_of xs)) x ≡ settled (item_at xs x) (record_at rows x)
  found-fold [] rows x once = refl
  found-fold (i ∷ xs) rows x once = fold_step (change_of i) i xs rows x refl once.0 (λ some. found-fold xs some x once.1)
