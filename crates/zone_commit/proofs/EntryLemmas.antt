-- Entries of maps by names, each under the name of its item; and sets of names.
use Rattle.std.proofs.Common.{◌≡◌, ℕ, List, [], ◌∷◌, Bool, true, false, cond, not, refl, sym, ap, ◌∙◌, subst, Some, Ordering, Less, Equal, Greater}
use Rattle.std.specs.Prelude.{filter, find}
use Rattle.std.specs.List.{AllByRecursion}
use Rattle.std.specs.Ordering.{nat_cmp, is_lt, is_eq, ordering_reverse, match_ordering}
use Rattle.std.specs.Cmp.Lexicographic.{slice_cmp, nat_list_cmp_total}
use Rattle.std.specs.List.Sorted.{IsStrictlySortedBy}
use Rattle.std.specs.Map.{keys_of, values_of, lookup, remove_entry}
use Rattle.std.specs.Set.{remove_key}
use Rattle.std.specs.BTreeMap.{insert_entry, is_at}
use Rattle.std.specs.BTreeSet.{insert_key}
use Rattle.std.proofs.lemmas.Map.Keys.{sorted_head, sorted_tail}
use Rattle.std.proofs.lemmas.Map.Lookups.{exact_bytes}
use Rattle.std.proofs.lemmas.Map.Text.{is_eq-slice_cmp}
use Rattle.ck_base.specs.Order.{is_before}
use Rattle.name_rules.specs.Names.{same, with_name}
use Rattle.zone_commit.proofs.OrderLemmas.{derived_cmp, by_bytes}
use Rattle.zone_commit.proofs.SortedLemmas.{AreAbove, Ascend, with_item, without_item, above-trans, with_first, with_same, with_later, without_first, without_later}

abbrev order : List ℕ → List ℕ → Ordering
order x y = slice_cmp nat_cmp x y

greater-before : (k y : List ℕ) → order k y ≡ Greater → is_before y k ≡ true
greater-before k y is = ap is_lt (nat_list_cmp_total.antisymm y k ∙ ap ordering_reverse is)

module _ {X : Type 0} (name_of : X → List ℕ) where
  -- each entry stands under the name of its item
  abbrev pub OwnNames : List (List ℕ × X) → Type 0
  OwnNames es = AllByRecursion (λ e. e.0 ≡ name_of e.1) es

  above_keys : (k : List ℕ) (es : List (List ℕ × X)) → OwnNames es → AllByRecursion (λ y. order k y ≡ Less) (keys_of es) → AreAbove name_of k (values_of es)
  above_keys k [] own less = tt
  above_keys k (e ∷ es) own less = (subst (λ n. is_before k n ≡ true) own.0 (ap is_lt less.0), above_keys k es own.1 less.1)

  -- the items of sorted entries ascend
  pub entries-ascend : (es : List (List ℕ × X)) → OwnNames es → IsStrictlySortedBy order (keys_of es) → Ascend name_of (values_of es)
  entries-ascend [] own sorted = tt
  entries-ascend (e ∷ es) own sorted = (
    subst (λ n. AreAbove name_of n (values_of es)) own.0 (above_keys e.0 es own.1 (sorted_head order e.0 (keys_of es) sorted)),
    entries-ascend es own.1 (sorted_tail order e.0 (keys_of es) sorted),
  )

  insert_step : (o : Ordering) (e : List ℕ × X) (es : List (List ℕ × X)) (x : X) → order (name_of x) e.0 ≡ o → e.0 ≡ name_of e.1 → Ascend name_of (values_of (e ∷ es))
      → values_of (insert_entry order es (name_of x) x) ≡ with_item name_of (values_of es) x
      → values_of (match_ordering o ((name_of x, x) ∷ e ∷ es) ((e.0, x) ∷ es) (e ∷ insert_entry order es (name_of x) x)) ≡ with_item name_of (values_of (e ∷ es)) x
  insert_step Less e es x is own ascend ih =
      let first : is_before (name_of x) (name_of e.1) ≡ true = subst (λ n. is_before (name_of x) n ≡ true) own (ap is_lt is) in
      sym (with_first name_of x (values_of (e ∷ es)) (first, above-trans name_of (name_of x) (name_of e.1) (values_of es) first ascend.0))
  insert_step Equal e es x is own ascend ih = sym (with_same name_of x e.1 (values_of es) (exact_bytes (name_of x) e.0 is ∙ own) ascend.0)
  insert_step Greater e es x is own ascend ih =
      ap (λ vs. e.1 ∷ vs) ih ∙ sym (with_later name_of x e.1 (values_of es) (subst (λ n. is_before n (name_of x) ≡ true) own (greater-before (name_of x) e.0 is)))

  -- an item put under its name
  pub values-insert : (es : List (List ℕ × X)) (x : X) → OwnNames es → Ascend name_of (values_of es) → values_of (insert_entry order es (name_of x) x) ≡ with_item name_of (values_of es) x
  values-insert [] x own ascend = refl
  values-insert (e ∷ es) x own ascend = insert_step (order (name_of x) e.0) e es x refl own.0 ascend (values-insert es x own.1 ascend.1)

  own_step : (o : Ordering) (e : List ℕ × X) (es : List (List ℕ × X)) (k : List ℕ) (x : X) → order k e.0 ≡ o → k ≡ name_of x → OwnNames (e ∷ es) → OwnNames (insert_entry order es k x)
      → OwnNames (match_ordering o ((k, x) ∷ e ∷ es) ((e.0, x) ∷ es) (e ∷ insert_entry order es k x))
  own_step Less e es k x is named own ih = (named, own)
  own_step Equal e es k x is named own ih = (sym (exact_bytes k e.0 is) ∙ named, own.1)
  own_step Greater e es k x is named own ih = (own.0, ih)

  pub own-insert : (es : List (List ℕ × X)) (k : List ℕ) (x : X) → k ≡ name_of x → OwnNames es → OwnNames (insert_entry order es k x)
  own-insert [] k x named own = (named, tt)
  own-insert (e ∷ es) k x named own = own_step (order k e.0) e es k x refl named own (own-insert es k x named own.1)

  remove_step : (b : Bool) (k : List ℕ) (e : List ℕ × X) (es : List (List ℕ × X)) → same k (name_of e.1) ≡ b → AreAbove name_of (name_of e.1) (values_of es)
      → values_of (remove_entry (is_at (order k)) es) ≡ without_item name_of (values_of es) k
      → values_of (cond b es (e ∷ remove_entry (is_at (order k)) es)) ≡ without_item name_of (values_of (e ∷ es)) k
  remove_step true k e es is above ih = sym (without_first name_of k e.1 (values_of es) is above)
  remove_step false k e es is above ih = ap (λ vs. e.1 ∷ vs) ih ∙ sym (without_later name_of k e.1 (values_of es) is)

  tested : (k : List ℕ) (e : List ℕ × X) → e.0 ≡ name_of e.1 → is_eq (order k e.0) ≡ same k (name_of e.1)
  tested k e own = is_eq-slice_cmp k e.0 ∙ ap (same k) own

  -- the entry of a name taken out
  pub values-remove : (es : List (List ℕ × X)) (k : List ℕ) → OwnNames es → Ascend name_of (values_of es) → values_of (remove_entry (is_at (order k)) es) ≡ without_item name_of (values_of es) k
  values-remove [] k own ascend = refl
  values-remove (e ∷ es) k own ascend =
      ap (λ b. values_of (cond b es (e ∷ remove_entry (is_at (order k)) es))) (tested k e own.0)
      ∙ remove_step (same k (name_of e.1)) k e es refl ascend.0 (values-remove es k own.1 ascend.1)

  own_removed : (b : Bool) (e : List ℕ × X) (es rest : List (List ℕ × X)) → OwnNames (e ∷ es) → OwnNames rest → OwnNames (cond b es (e ∷ rest))
  own_removed true e es rest own ih = own.1
  own_removed false e es rest own ih = (own.0, ih)

  pub own-remove : (es : List (List ℕ × X)) (test : List ℕ → Bool) → OwnNames es → OwnNames (remove_entry test es)
  own-remove [] test own = tt
  own-remove (e ∷ es) test own = own_removed (test e.0) e es (remove_entry test es) own (own-remove es test own.1)

  -- the item of a name
  pub lookup-find : (es : List (List ℕ × X)) (k : List ℕ) → OwnNames es → lookup (is_at (order k)) es ≡ find (λ q. same k (name_of q)) (values_of es)
  lookup-find [] k own = refl
  lookup-find (e ∷ es) k own =
      ap (λ b. cond b (Some e.1) (lookup (is_at (order k)) es)) (tested k e own.0)
      ∙ ap (λ o. cond (same k (name_of e.1)) (Some e.1) o) (lookup-find es k own.1)

-- ---- sets of names

names-ascend : (ks : List (List ℕ)) → IsStrictlySortedBy order ks → Ascend (λ (k : List ℕ). k) ks
names-ascend [] sorted = tt
names-ascend (k ∷ ks) sorted = (over ks (sorted_head order k ks sorted), names-ascend ks (sorted_tail order k ks sorted))
  where
    over : (ys : List (List ℕ)) → AllByRecursion (λ y. order k y ≡ Less) ys → AllByRecursion (λ y. is_before k y ≡ true) ys
    over [] less = tt
    over (y ∷ ys) less = (ap is_lt less.0, over ys less.1)

key_step : (o : Ordering) (k y : List ℕ) (ks : List (List ℕ)) → order k y ≡ o → Ascend (λ (n : List ℕ). n) (y ∷ ks) → insert_key order ks k ≡ with_name ks k
    → match_ordering o (k ∷ y ∷ ks) (y ∷ ks) (y ∷ insert_key order ks k) ≡ with_name (y ∷ ks) k
key_step Less k y ks is ascend ih = sym (with_first (λ (n : List ℕ). n) k (y ∷ ks) (ap is_lt is, above-trans (λ (n : List ℕ). n) k y ks (ap is_lt is) ascend.0))
key_step Equal k y ks is ascend ih = ap (λ n. n ∷ ks) (sym (exact_bytes k y is)) ∙ sym (with_same (λ (n : List ℕ). n) k y ks (exact_bytes k y is) ascend.0)
key_step Greater k y ks is ascend ih = ap (λ ns. y ∷ ns) ih ∙ sym (with_later (λ (n : List ℕ). n) k y ks (greater-before k y is))

insert_by : (ks : List (List ℕ)) (k : List ℕ) → Ascend (λ (n : List ℕ). n) ks → insert_key order ks k ≡ with_name ks k
insert_by [] k ascend = refl
insert_by (y ∷ ks) k ascend = key_step (order k y) k y ks refl ascend (insert_by ks k ascend.1)

pub keys-insert : (ks : List (List ℕ)) (k : List ℕ) → IsStrictlySortedBy derived_cmp ks → insert_key derived_cmp ks k ≡ with_name ks k
keys-insert ks k = subst (λ (cmp : List ℕ → List ℕ → Ordering). IsStrictlySortedBy cmp ks → insert_key cmp ks k ≡ with_name ks k) (sym by_bytes) (λ sorted. insert_by ks k (names-ascend ks sorted))

drop_step : (b : Bool) (k y : List ℕ) (ks : List (List ℕ)) → same k y ≡ b → AreAbove (λ (n : List ℕ). n) y ks → remove_key (is_at (order k)) ks ≡ filter (λ n. not (same k n)) ks
    → cond b ks (y ∷ remove_key (is_at (order k)) ks) ≡ filter (λ n. not (same k n)) (y ∷ ks)
drop_step true k y ks is above ih = sym (without_first (λ (n : List ℕ). n) k y ks is above)
drop_step false k y ks is above ih = ap (λ ns. y ∷ ns) ih ∙ sym (without_later (λ (n : List ℕ). n) k y ks is)

remove_by : (ks : List (List ℕ)) (k : List ℕ) → Ascend (λ (n : List ℕ). n) ks → remove_key (is_at (order k)) ks ≡ filter (λ n. not (same k n)) ks
remove_by [] k ascend = refl
remove_by (y ∷ ks) k ascend = ap (λ b. cond b ks (y ∷ remove_key (is_at (order k)) ks)) (is_eq-slice_cmp k y) ∙ drop_step (same k y) k y ks refl ascend.0 (remove_by ks k ascend.1)

pub keys-remove : (ks : List (List ℕ)) (k : List ℕ) → IsStrictlySortedBy derived_cmp ks → remove_key (is_at (derived_cmp k)) ks ≡ filter (λ n. not (same k n)) ks
keys-remove ks k = subst (λ (cmp : List ℕ → List ℕ → Ordering). IsStrictlySortedBy cmp ks → remove_key (is_at (cmp k)) ks ≡ filter (λ n. not (same k n)) ks) (sym by_bytes) (λ sorted. remove_by ks k (names-ascend ks sorted))
