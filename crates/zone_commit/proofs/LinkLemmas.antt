-- Maps of counts and of links after a change.
use Rattle.std.proofs.Common.{◌≡◌, ◌+◌, ℕ, List, [], ◌∷◌, ◌++◌, Bool, true, false, cond, ◌||◌, not, refl, sym, ap, ◌∙◌, subst, Some, Option, append-nil, arith, ◌<◌, ◌≤◌, length, take, get_or, Result, Ok, Err, Ordering}
use Rattle.std.specs.Prelude.{filter, if◌then◌else◌, unwrap_or}
use Rattle.std.specs.List.{list_any, flat_map}
use Rattle.std.specs.Option.{option_map_or}
use Rattle.std.specs.Result.{OnOk}
use Rattle.std.specs.Ordering.{nat_cmp}
use Rattle.std.specs.Cmp.Lexicographic.{slice_cmp}
use Rattle.std.specs.BTreeMap.{get, is_at}
use Rattle.std.specs.BTreeSet.{BTreeSet}
use Rattle.std.proofs.lemmas.Map.Text.{is_eq-slice_cmp}
use Rattle.std.proofs.lemmas.List.{take_more}
use Rattle.std.proofs.lemmas.List.Elements.{filter-append}
use Rattle.std.proofs.lemmas.List.Concat.{flat_map-cons}
use Rattle.std.proofs.lemmas.List.Folds.{list_any-append}
use Rattle.ck_base.specs.Order.{is_before}
use Rattle.record_model.specs.declared.value.Kind.{Kind}
use Rattle.record_model.specs.declared.value.Value
use Rattle.record_model.specs.declared.value.Value.{Value, out-Value, out-roll-Value}
use Rattle.record_model.specs.declared.value.Value.TheVariants.{rolls-List}
use Rattle.record_model.specs.declared.value.Value.TheOpen.{Value-F}
use Rattle.zone_model.specs.Names.{same, with_name}
use Rattle.zone_model.specs.References.{single_references, level_references, references_in}
use Rattle.name_rules.proofs.NameLemmas.{same-true, before-irrefl, before-asym}
use Rattle.zone_laws.proofs.RecordLaws.{same-comm}
use Rattle.zone_commit.proofs.OrderLemmas.{derived_cmp, by_bytes}
use Rattle.zone_commit.specs.Maps.{LinkMap, CountMap, count_at, linked, with_or_without, Relinked}

-- the test of a key is that of a name
pub at_name : (k x : List ℕ) → is_at (slice_cmp nat_cmp k) x ≡ same x k
at_name k x = is_eq-slice_cmp k x ∙ same-comm k x

read_step : {X Y : Type 0} (f : X → Y) (d : Y) (b : Bool) (w o : Option X) → option_map_or f (cond b w o) d ≡ cond b (option_map_or f w d) (option_map_or f o d)
read_step f d true w o = refl
read_step f d false w o = refl

-- what is linked, after a name got its links or lost them
pub linked-update : (m n : LinkMap) (key k : List ℕ) (w : Option (BTreeSet (List ℕ))) → key ≡ k → ((q : List ℕ) → get derived_cmp n q ≡ cond (is_at (derived_cmp key) q) w (get derived_cmp m q))
    → (x : List ℕ) → linked n x ≡ (if same x k then option_map_or (λ (s : BTreeSet (List ℕ)). s.keys) w [] else linked m x)
linked-update m n key k w named by_key x =
    let is = subst (λ (cmp : List ℕ → List ℕ → Ordering). (q : List ℕ) → get cmp n q ≡ cond (is_at (cmp k) q) w (get cmp m q)) by_bytes
    (subst (λ (z : List ℕ). (q : List ℕ) → get derived_cmp n q ≡ cond (is_at (derived_cmp z) q) w (get derived_cmp m q)) named by_key) in
    ap (λ o. option_map_or (λ (s : BTreeSet (List ℕ)). s.keys) o []) (is x)
    ∙ read_step (λ (s : BTreeSet (List ℕ)). s.keys) [] (is_at (slice_cmp nat_cmp k) x) w (get (slice_cmp nat_cmp) m x)
    ∙ ap (λ b. cond b (option_map_or (λ (s : BTreeSet (List ℕ)). s.keys) w []) (linked m x)) (at_name k x)

none_here : (b : Bool) (k x : List ℕ) (m : LinkMap) → same x k ≡ b → linked m k ≡ [] → linked m x ≡ cond b [] (linked m x)
none_here true k x m s none = ap (linked m) (same-true x k s) ∙ none
none_here false k x m s none = refl

no_length : (ns : List (List ℕ)) → length ns ≤ 0 → ns ≡ []
no_length [] short = refl
no_length (n ∷ ns) short = absurd (omega arith)

-- nothing is linked to no names
pub linked-none : (m : LinkMap) (k : List ℕ) (ns : List (List ℕ)) → linked m k ≡ [] → length ns ≤ 0 → (x : List ℕ) → linked m x ≡ (if same x k then ns else linked m x)
linked-none m k ns none short x = none_here (same x k) k x m refl none ∙ ap (λ l. cond (same x k) l (linked m x)) (sym (no_length ns short))

count_step : (b : Bool) (c w o : ℕ) → w ≡ c + 1 → (b ≡ true → o ≡ c) → cond b w o ≡ o + cond b 1 0
count_step true c w o is here = is ∙ ap (λ n. n + 1) (sym (here refl))
count_step false c w o is here = omega arith

-- a count that grew by one
pub count-update : (m n : CountMap) (key k : List ℕ) (w : ℕ) → key ≡ k → w ≡ count_at m k + 1
    → ((q : List ℕ) → get derived_cmp n q ≡ cond (is_at (derived_cmp key) q) (Some w) (get derived_cmp m q))
    → (x : List ℕ) → count_at n x ≡ count_at m x + (if same x k then 1 else 0)
count-update m n key k w named more by_key x =
    let is = subst (λ (cmp : List ℕ → List ℕ → Ordering). (q : List ℕ) → get cmp n q ≡ cond (is_at (cmp k) q) (Some w) (get cmp m q)) by_bytes
    (subst (λ (z : List ℕ). (q : List ℕ) → get derived_cmp n q ≡ cond (is_at (derived_cmp z) q) (Some w) (get derived_cmp m q)) named by_key) in
    ap (λ o. unwrap_or o 0) (is x)
    ∙ by (is_at (slice_cmp nat_cmp k) x)
    ∙ ap (λ b. cond b w (count_at m x)) (at_name k x)
    ∙ count_step (same x k) (count_at m k) w (count_at m x) more (λ s. ap (count_at m) (same-true x k s))
  where
    by : (b : Bool) → unwrap_or (cond b (Some w) (get (slice_cmp nat_cmp) m x)) 0 ≡ cond b w (count_at m x)
    by true = refl
    by false = refl

-- ---- links of one name

set_step : (b : Bool) (there : Bool) (name above x : List ℕ) (old mid new : LinkMap) (ns : List (List ℕ)) → same x above ≡ b → ns ≡ with_or_without there (linked old above) name
    → linked mid x ≡ cond b [] (linked old x) → linked new x ≡ cond b ns (linked mid x) → linked new x ≡ cond b (with_or_without there (linked old x) name) (linked old x)
set_step true there name above x old mid new ns s is taken put = put ∙ is ∙ ap (λ y. with_or_without there (linked old y) name) (sym (same-true x above s))
set_step false there name above x old mid new ns s is taken put = put ∙ taken

-- the links of a name taken out, changed and put back
pub relinked-set : (there : Bool) (name above : List ℕ) (old mid new : LinkMap) (ns : List (List ℕ)) → ns ≡ with_or_without there (linked old above) name
    → ((x : List ℕ) → linked mid x ≡ (if same x above then [] else linked old x)) → ((x : List ℕ) → linked new x ≡ (if same x above then ns else linked mid x))
    → Relinked (λ x. same x above) there name old new
relinked-set there name above old mid new ns is taken put x = set_step (same x above) there name above x old mid new ns refl is (taken x) (put x)

-- ---- one change and then another

dropped_twice : (b : Bool) (t : List ℕ → Bool) (y : List ℕ) (ns : List (List ℕ)) → t y ≡ b → filter t (filter t ns) ≡ filter t ns → filter t (cond b (y ∷ filter t ns) (filter t ns)) ≡ cond b (y ∷ filter t ns) (filter t ns)
dropped_twice true t y ns is ih = ap (λ b. cond b (y ∷ filter t (filter t ns)) (filter t (filter t ns))) is ∙ ap (λ ms. y ∷ ms) ih
dropped_twice false t y ns is ih = ih

pub filter-twice : (t : List ℕ → Bool) (ns : List (List ℕ)) → filter t (filter t ns) ≡ filter t ns
filter-twice t [] = refl
filter-twice t (y ∷ ns) = dropped_twice (t y) t y ns refl (filter-twice t ns)

none_step : (a : Bool) (t u : List ℕ → Bool) (y : List ℕ) (ns : List (List ℕ)) → u y ≡ a → (u y ≡ true → t y ≡ false) → filter t (filter u ns) ≡ [] → filter t (cond a (y ∷ filter u ns) (filter u ns)) ≡ []
none_step true t u y ns is apart ih = ap (λ b. cond b (y ∷ filter t (filter u ns)) (filter t (filter u ns))) (apart is) ∙ ih
none_step false t u y ns is apart ih = ih

none_both : (t u : List ℕ → Bool) → ((y : List ℕ) → u y ≡ true → t y ≡ false) → (ns : List (List ℕ)) → filter t (filter u ns) ≡ []
none_both t u apart [] = refl
none_both t u apart (y ∷ ns) = none_step (u y) t u y ns refl (apart y) (none_both t u apart ns)

-- a name that is set twice
pub with_name-twice : (ns : List (List ℕ)) (k : List ℕ) → with_name (with_name ns k) k ≡ with_name ns k
with_name-twice ns k =
    let front = filter (λ y. is_before y k) ns in
    let back = filter (is_before k) ns in
    let first : filter (λ y. is_before y k) (front ++ k ∷ back) ≡ front =
    filter-append (λ y. is_before y k) front (k ∷ back)
    ∙ ap (λ b. filter (λ y. is_before y k) front ++ cond b (k ∷ filter (λ y. is_before y k) back) (filter (λ y. is_before y k) back)) (before-irrefl k)
    ∙ ap (λ ms. filter (λ y. is_before y k) front ++ ms) (none_both (λ y. is_before y k) (is_before k) (λ y e. before-asym k y e) ns)
    ∙ append-nil (filter (λ y. is_before y k) front)
    ∙ filter-twice (λ y. is_before y k) ns in
    let last : filter (is_before k) (front ++ k ∷ back) ≡ back =
    filter-append (is_before k) front (k ∷ back)
    ∙ ap (λ ms. ms ++ filter (is_before k) (k ∷ back)) (none_both (is_before k) (λ y. is_before y k) (λ y e. before-asym y k e) ns)
    ∙ ap (λ b. cond b (k ∷ filter (is_before k) back) (filter (is_before k) back)) (before-irrefl k)
    ∙ filter-twice (is_before k) ns in
    ap (λ ms. ms ++ k ∷ filter (is_before k) (front ++ k ∷ back)) first ∙ ap (λ ms. front ++ k ∷ ms) last

twice : (there : Bool) (ns : List (List ℕ)) (k : List ℕ) → with_or_without there (with_or_without there ns k) k ≡ with_or_without there ns k
twice true ns k = with_name-twice ns k
twice false ns k = filter-twice (λ y. not (same k y)) ns

both_step : (a b there : Bool) (name : List ℕ) (old mid new : List (List ℕ)) → mid ≡ cond a (with_or_without there old name) old → new ≡ cond b (with_or_without there mid name) mid → new ≡ cond (a || b) (with_or_without there old name) old
both_step true true there name old mid new first second = second ∙ ap (λ ns. with_or_without there ns name) first ∙ twice there old name
both_step true false there name old mid new first second = second ∙ first
both_step false true there name old mid new first second = second ∙ ap (λ ns. with_or_without there ns name) first
both_step false false there name old mid new first second = second ∙ first

-- links that change by one test, and second by another
pub relinked-both : (s t : List ℕ → Bool) (there : Bool) (name : List ℕ) (old mid new : LinkMap) → Relinked s there name old mid → Relinked t there name mid new → Relinked (λ x. s x || t x) there name old new
relinked-both s t there name old mid new first second x = both_step (s x) (t x) there name (linked old x) (linked mid x) (linked new x) (first x) (second x)

-- by tests that say the same
pub relinked-same : (s t : List ℕ → Bool) (there : Bool) (name : List ℕ) (old new : LinkMap) → ((x : List ℕ) → s x ≡ t x) → Relinked s there name old new → Relinked t there name old new
relinked-same s t there name old new same_tests is x = is x ∙ ap (λ b. cond b (with_or_without there (linked old x) name) (linked old x)) (same_tests x)

-- by a test that nothing passes
pub relinked-none : (t : List ℕ → Bool) (there : Bool) (name : List ℕ) (old : LinkMap) → ((x : List ℕ) → t x ≡ false) → Relinked t there name old old
relinked-none t there name old none x = sym (ap (λ b. cond b (with_or_without there (linked old x) name) (linked old x)) (none x))

or_false : (b : Bool) → (b || false) ≡ b
or_false true = refl
or_false false = refl

more_any : {X : Type 0} (p : X → Bool) (xs : List X) (i : ℕ) (x : X) → i < length xs → x ≡ get_or xs i x → list_any p (take (i + 1) xs) ≡ (list_any p (take i xs) || p x)
more_any p xs i x lt is =
    ap (list_any p) (take_more xs i x lt) ∙ list_any-append p (take i xs) (get_or xs i x ∷ []) ∙ ap (λ y. list_any p (take i xs) || (p y || false)) (sym is)
    ∙ ap (λ b. list_any p (take i xs) || b) (or_false (p x))

-- by one of the items, behind those before it
pub relinked-more : {X : Type 0} (p : X → List ℕ → Bool) (there : Bool) (name : List ℕ) (old mid new : LinkMap) (xs : List X) (i : ℕ) (x : X) → i < length xs → x ≡ get_or xs i x
    → Relinked (λ y. list_any (λ v. p v y) (take i xs)) there name old mid → Relinked (p x) there name mid new → Relinked (λ y. list_any (λ v. p v y) (take (i + 1) xs)) there name old new
relinked-more p there name old mid new xs i x lt is first second =
    relinked-same (λ y. list_any (λ v. p v y) (take i xs) || p x y) (λ y. list_any (λ v. p v y) (take (i + 1) xs)) there name old new (λ y. sym (more_any (λ v. p v y) xs i x lt is))
    (relinked-both (λ y. list_any (λ v. p v y) (take i xs)) (p x) there name old mid new first second)

-- a test of the references of all elements
pub any-flat : {X Y : Type 0} (p : Y → Bool) (f : X → List Y) (xs : List X) → list_any (λ v. list_any p (f v)) xs ≡ list_any p (flat_map f xs)
any-flat p f [] = refl
any-flat p f (x ∷ xs) = ap (λ b. list_any p (f x) || b) (any-flat p f xs) ∙ sym (list_any-append p (f x) (flat_map f xs)) ∙ ap (list_any p) (sym (flat_map-cons f x xs))

-- what follows where there is a value
pub on_ok : {T E P Q : Type 0} (r : Result T E) → (P → Q) → OnOk r P → OnOk r Q
on_ok (Ok t) f p = f p
on_ok (Err e) f p = p

-- the references of a list are those of its elements
pub list_opened : (k : Kind) (vs : List Value) → flat_map (λ v. single_references (out-Value v)) vs ≡ references_in (Value.List k vs)
list_opened k vs = ap level_references (sym (ap out-Value (sym (rolls-List k vs)) ∙ out-roll-Value (Value-F.List k vs)))
