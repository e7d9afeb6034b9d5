-- Looking into objects some of whose members may be missing, and into those that were put together.
use Rattle.std.proofs.Common.{◌≡◌, ℕ, List, [], ◌∷◌, ◌++◌, map, Bool, true, false, ◌&&◌, Option, None, Some, Ordering, Less, Equal, Greater, nat_cmp, bytes_eq, fold, is_eq, refl, sym, ap, ◌∙◌, append_assoc, append-nil}
use Rattle.std.specs.Prelude.{if◌then◌else◌}
use Rattle.std.proofs.lemmas.Bool.{and_parts, and_from}
use Rattle.std.proofs.lemmas.Cmp.{nat_list_cmp_total, tied_itself}
use Rattle.std.proofs.lemmas.Map.Text.{is_eq-slice_cmp}
use Rattle.std.proofs.lemmas.Slice.Eq.{bytes_eq-Decides}
use Rattle.std.specs.Cmp.Lexicographic.{slice_cmp}
use Rattle.std.specs.List.{list_all}
use Rattle.std.specs.Ordering.{match_ordering, ordering_reverse}
use Rattle.serde_json.specs.Data.{Data, Members, no_members, member, put}
use Rattle.serde_json.specs.Find.{get_member}
use Rattle.ck_base.specs.Order.{is_before, are_ascending}
use Rattle.ck_records.specs.Objects.{present}
use Rattle.ck_records.specs.DraftFields.{entries}
use Rattle.ck_records.proofs.ObjectLemmas.{Listed, is_less}

-- ---- members that may be missing

-- what is listed under a name
abbrev pub listed : List ℕ → Listed → Option Data
listed k [] = None
listed k ((l, o) ∷ ms) = if bytes_eq k l then o else listed k ms

abbrev pub names : Listed → List (List ℕ)
names ms = map (λ (m : List ℕ × Option Data). m.0) ms

missing : (k : List ℕ) (ms : Listed) → list_all (is_before k) (names ms) ≡ true → get_member k (present ms) ≡ None
missing k [] before = refl
missing k ((l, None) ∷ ms) before = missing k ms (and_parts (is_before k l) _ before).1
missing k ((l, Some d) ∷ ms) before = rw (is_less (slice_cmp nat_cmp k l) (and_parts (is_before k l) _ before).0) (missing k ms (and_parts (is_before k l) _ before).1)

passed : (o : Ordering) (a b : Option Data) → is_eq o ≡ false → match_ordering o a b a ≡ a
passed Less a b e = refl
passed Equal a b e = absurd (cc e)
passed Greater a b e = refl

-- an object has what is listed, where the names ascend
pub get_present : (k : List ℕ) (ms : Listed) → are_ascending (names ms) ≡ true → get_member k (present ms) ≡ listed k ms
get_present k [] ascend = refl
get_present k ((l, o) ∷ ms) ascend = by (bytes_eq k l) o refl (get_present k ms (and_parts (list_all (is_before l) (names ms)) _ ascend).1) where
  by : (same : Bool) (o : Option Data) → bytes_eq k l ≡ same → get_member k (present ms) ≡ listed k ms → get_member k (present ((l, o) ∷ ms)) ≡ (if same then o else listed k ms)
  by true None is later = let e : k ≡ l = (bytes_eq-Decides k l).0 is in rw e (missing l ms (and_parts (list_all (is_before l) (names ms)) _ ascend).0)
  by true (Some d) is later = let e : k ≡ l = (bytes_eq-Decides k l).0 is in rw (e, tied_itself nat_list_cmp_total l) refl
  by false None is later = later
  by false (Some d) is later = passed (slice_cmp nat_cmp k l) _ _ (is_eq-slice_cmp k l ∙ is) ∙ later

-- ---- members that were put one after another

abbrev pub Pairs : Type 0
Pairs = List (List ℕ × Data)

-- the object of the members as they stand
abbrev pub members_at : Pairs → Members
members_at [] = no_members
members_at ((k, d) ∷ ms) = member k d (members_at ms)

pub entries_at : (ms : Pairs) → entries (members_at ms) ≡ ms
entries_at [] = refl
entries_at ((k, d) ∷ ms) = ap (λ es. (k, d) ∷ es) (entries_at ms)

is_more : (x y : List ℕ) → is_before x y ≡ true → slice_cmp nat_cmp y x ≡ Greater
is_more x y before = nat_list_cmp_total.antisymm y x ∙ ap ordering_reverse (is_less (slice_cmp nat_cmp x y) before)

-- a name that all others stand before goes last
put_last : (k : List ℕ) (d : Data) (ms : Pairs) → list_all (λ (m : List ℕ × Data). is_before m.0 k) ms ≡ true → put k d (members_at ms) ≡ members_at (ms ++ (k, d) ∷ [])
put_last k d [] before = refl
put_last k d ((l, e) ∷ ms) before = rw (is_more l k (and_parts (is_before l k) _ before).0) (ap (member l e) (put_last k d ms (and_parts (is_before l k) _ before).1))

all_one_more : {A : Type 0} (p : A → Bool) (xs : List A) (x : A) → list_all p xs ≡ true → p x ≡ true → list_all p (xs ++ x ∷ []) ≡ true
all_one_more p [] x all one = and_from (p x) true one refl
all_one_more p (y ∷ xs) x all one = let parts = and_parts (p y) _ all in and_from (p y) _ parts.0 (all_one_more p xs x parts.1 one)

-- each passes both tests
all_firsts : {A : Type 0} (p q : A → Bool) (xs : List A) → list_all (λ x. p x && q x) xs ≡ true → list_all p xs ≡ true
all_firsts p q [] all = refl
all_firsts p q (x ∷ xs) all = let parts = and_parts (p x && q x) _ all in and_from (p x) _ (and_parts (p x) _ parts.0).0 (all_firsts p q xs parts.1)

all_seconds : {A : Type 0} (p q : A → Bool) (xs : List A) → list_all (λ x. p x && q x) xs ≡ true → list_all q xs ≡ true
all_seconds p q [] all = refl
all_seconds p q (x ∷ xs) all = let parts = and_parts (p x && q x) _ all in and_from (q x) _ (and_parts (p x) _ parts.0).1 (all_seconds p q xs parts.1)

module _ {B : Type 0} (data_of : B → Data) where
  abbrev pub keys : List (List ℕ × B) → List (List ℕ)
  keys xs = map (λ (x : List ℕ × B). x.0) xs

  abbrev pub pairs : List (List ℕ × B) → Pairs
  pairs xs = map (λ (x : List ℕ × B). (x.0, data_of x.1)) xs

  put_on : (done : Pairs) (xs : List (List ℕ × B)) → are_ascending (keys xs) ≡ true → list_all (λ (m : List ℕ × Data). list_all (is_before m.0) (keys xs)) done ≡ true
      → fold (λ ms x. put x.0 (data_of x.1) ms) (members_at done) xs ≡ members_at (done ++ pairs xs)
  put_on done [] ascend before = ap members_at (sym (append-nil done))
  put_on done (x ∷ xs) ascend before =
      let rest = and_parts (list_all (is_before x.0) (keys xs)) _ ascend in
      let one = all_firsts (λ (m : List ℕ × Data). is_before m.0 x.0) (λ m. list_all (is_before m.0) (keys xs)) done before in
      let more = all_seconds (λ (m : List ℕ × Data). is_before m.0 x.0) (λ m. list_all (is_before m.0) (keys xs)) done before in
      ap (λ ms. fold (λ ms x. put x.0 (data_of x.1) ms) ms xs) (put_last x.0 (data_of x.1) done one)
      ∙ put_on (done ++ (x.0, data_of x.1) ∷ []) xs rest.1 (all_one_more (λ (m : List ℕ × Data). list_all (is_before m.0) (keys xs)) done (x.0, data_of x.1) more rest.0)
      ∙ ap members_at (append_assoc done ((x.0, data_of x.1) ∷ []) (pairs xs))

  -- what ascends stands in the object as it was put
  pub put_in_order : (xs : List (List ℕ × B)) → are_ascending (keys xs) ≡ true → fold (λ ms x. put x.0 (data_of x.1) ms) no_members xs ≡ members_at (pairs xs)
  put_in_order xs ascend = put_on [] xs ascend refl
