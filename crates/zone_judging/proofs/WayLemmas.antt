-- Ways upward, step by step.
use Rattle.std.proofs.Common.{◌≡◌, ℕ, zero, suc, ◌<◌, ◌≤◌, ◌+◌, ◌-◌, List, [], ◌∷◌, ◌++◌, Bool, true, false, cond, not, ◌||◌, refl, sym, ap, ◌∙◌, subst, arith, Some, None, Option, ⊎_elim, map, length}
use Rattle.std.specs.Prelude.{filter, filter_map, fold}
use Rattle.std.specs.List.{list_any, cons_option}
use Rattle.std.specs.Option.{option_map_or}
use Rattle.std.specs.Cmp.{both_ways as iff}
use Rattle.std.proofs.lemmas.Bool.{both_ways, or_cases, or_left, or_right}
use Rattle.name_rules.specs.Names.{same, is_in}
use Rattle.name_rules.specs.Parents.{Link, parent_of, upward, is_above}
use Rattle.name_rules.proofs.ParentLemmas.{above_from_upward, is_above_from}
use Rattle.name_rules.proofs.NameLemmas.{before-asym}
use Rattle.ck_base.specs.Order.{is_before}
use Rattle.ck_base.specs.declared.scope.Scope.{Scope}
use Rattle.record_model.specs.declared.records.Record.{Record}
use Rattle.zone_model.specs.Records.{record_at, with_record}
use Rattle.zone_model.specs.Ancestry.{links_of, is_ancestor}
use Rattle.zone_model.specs.Requests.{NamedOp, is_deletion, puts_in, first_puts}
use Rattle.zone_model.specs.Putting.{written_over, records_written}
use Rattle.zone_model.specs.Working.{mark_of, with_puts, working_view}

-- ---- one step

or_so : (a b : Bool) → a ≡ true → (a || b) ≡ true
or_so true b e = refl
or_so false b e = absurd (both_ways false refl e)

or_not : (a b : Bool) → a ≡ false → (a || b) ≡ b
or_not false b e = refl
or_not true b e = absurd (both_ways true e refl)

-- the name is here
pub met : (links : List Link) (n : ℕ) (x at : List ℕ) → same x at ≡ true → is_in (upward n links at) x ≡ true
met links zero x at e = or_so (same x at) false e
met links (suc n) x at e = or_so (same x at) _ e

-- it is not here, and the way ends
pub ended : (links : List Link) (n : ℕ) (x at : List ℕ) → same x at ≡ false → parent_of links at ≡ None → is_in (upward n links at) x ≡ false
ended links zero x at e none = or_not (same x at) false e
ended links (suc n) x at e none = or_not (same x at) _ e ∙ ap (λ o. is_in (option_map_or (upward n links) o []) x) none

-- it is not here, and the way goes on
pub goes_on : (links : List Link) (n : ℕ) (x at p : List ℕ) → 0 < n → same x at ≡ false → parent_of links at ≡ Some p → is_in (upward n links at) x ≡ is_in (upward (n - 1) links p) x
goes_on links zero x at p some e is = absurd (omega (arith, some))
goes_on links (suc n) x at p some e is =
    let one : n ≡ suc n - 1 = omega arith in
    or_not (same x at) _ e ∙ ap (λ o. is_in (option_map_or (upward n links) o []) x) is ∙ ap (λ k. is_in (upward k links p) x) one

or_nothing : (a : Bool) → (a || false) ≡ a
or_nothing true = refl
or_nothing false = refl

pub last : (links : List Link) (n : ℕ) (x at : List ℕ) → n ≡ 0 → is_in (upward n links at) x ≡ same x at
last links n x at none = ap (λ k. is_in (upward k links at) x) none ∙ or_nothing (same x at)

-- ---- more steps than there are links

one_more_by : (o : Option (List ℕ)) (n : ℕ) (links : List Link) (a : List ℕ) → ((p : List ℕ) → is_in (upward n links p) a ≡ true → is_in (upward (suc n) links p) a ≡ true)
    → is_in (option_map_or (upward n links) o []) a ≡ true → is_in (option_map_or (upward (suc n) links) o []) a ≡ true
one_more_by None n links a more e = e
one_more_by (Some p) n links a more e = more p e

one_more : (n : ℕ) (links : List Link) (a x : List ℕ) → is_in (upward n links x) a ≡ true → is_in (upward (suc n) links x) a ≡ true
one_more zero links a x e = or_left (same a x) _ (sym (or_nothing (same a x)) ∙ e)
one_more (suc n) links a x e = ⊎_elim
    (λ (s : same a x ≡ true). or_left (same a x) _ s)
    (λ (m : is_in (option_map_or (upward n links) (parent_of links x) []) a ≡ true). or_right (same a x) _ (one_more_by (parent_of links x) n links a (λ p i. one_more n links a p i) m))
    (or_cases (same a x) _ e)

some_more : (k m n : ℕ) (links : List Link) (a x : List ℕ) → n ≡ k + m → is_in (upward m links x) a ≡ true → is_in (upward n links x) a ≡ true
some_more zero m n links a x is e =
    let one : m ≡ n = omega (arith, is) in
    subst (λ j. is_in (upward j links x) a ≡ true) one e
some_more (suc k) m n links a x is e =
    let one : suc (k + m) ≡ n = omega (arith, is) in
    subst (λ j. is_in (upward j links x) a ≡ true) one (one_more (k + m) links a x (some_more k m (k + m) links a x refl e))

pub in_more : (m n : ℕ) (links : List Link) (a x : List ℕ) → m ≤ n → is_in (upward m links x) a ≡ true → is_in (upward n links x) a ≡ true
in_more m n links a x few e = some_more (n - m) m n links a x (omega (arith, few)) e

pub enough : (n : ℕ) (links : List Link) (a x : List ℕ) → length links ≤ n → is_in (upward n links x) a ≡ is_above links a x
enough n links a x few = iff (is_in (upward n links x) a) (is_above links a x)
    (λ e. is_above_from links a x (above_from_upward n links a x e))
    (λ e. in_more (length links) n links a x few e)

-- ---- how many the working view has

apart_step : (b a : Bool) (q : Record) (front back : List Record) (rows : List Record) → (b ≡ true → a ≡ false) → length front + length back ≤ length rows
    → length (cond b (q ∷ front) front) + length (cond a (q ∷ back) back) ≤ suc (length rows)
apart_step true true q front back rows apart few = absurd (both_ways true (apart refl) refl)
apart_step true false q front back rows apart few = omega (arith, few)
apart_step false true q front back rows apart few = omega (arith, few)
apart_step false false q front back rows apart few = omega (arith, few)

sides : (x : List ℕ) (rows : List Record) → length (filter (λ (q : Record). is_before q.name x) rows) + length (filter (λ (q : Record). is_before x q.name) rows) ≤ length rows
sides x [] = omega arith
sides x (q ∷ rows) = apart_step (is_before q.name x) (is_before x q.name) q _ _ rows (before-asym q.name x) (sides x rows)

joined : (front : List Record) (r : Record) (back : List Record) → length (front ++ r ∷ back) ≡ suc (length front + length back)
joined [] r back =
    let one : length back ≡ 0 + length back = omega arith in
    ap suc one
joined (q ∷ front) r back =
    let rest : length (front ++ r ∷ back) ≡ suc (length front + length back) = joined front r back in
    omega (arith, rest)

one_with : (rows : List Record) (r : Record) → length (with_record rows r) ≤ suc (length rows)
one_with rows r =
    let front = filter (λ (q : Record). is_before q.name r.name) rows in
    let back = filter (λ (q : Record). is_before r.name q.name) rows in
    let both : length (with_record rows r) ≡ suc (length front + length back) = joined front r back in
    let few : length front + length back ≤ length rows = sides r.name rows in
    omega (arith, both, few)

all_with : (rs rows : List Record) → length (fold with_record rows rs) ≤ length rows + length rs
all_with [] rows = omega arith
all_with (r ∷ rs) rows =
    let more : length (fold with_record (with_record rows r) rs) ≤ length (with_record rows r) + length rs = all_with rs (with_record rows r) in
    omega (arith, more, one_with rows r)

cons_few : {A : Type 0} (o : Option A) (ys : List A) (n : ℕ) → length ys ≤ n → length (cons_option o ys) ≤ suc n
cons_few None ys n few = omega (arith, few)
cons_few (Some y) ys n few = omega (arith, few)

few_mapped : {X Y : Type 0} (f : X → Option Y) (xs : List X) → length (filter_map f xs) ≤ length xs
few_mapped f [] = omega arith
few_mapped f (x ∷ xs) = cons_few (f x) (filter_map f xs) (length xs) (few_mapped f xs)

some_step : {X : Type 0} (b : Bool) (x : X) (ys : List X) (n : ℕ) → length ys ≤ n → length (cond b (x ∷ ys) ys) ≤ suc n
some_step true x ys n few = omega (arith, few)
some_step false x ys n few = omega (arith, few)

pub few_some : {X : Type 0} (t : X → Bool) (xs : List X) → length (filter t xs) ≤ length xs
few_some t [] = omega arith
few_some t (x ∷ xs) = some_step (t x) x (filter t xs) (length xs) (few_some t xs)

few_first : (ps : List NamedOp) → length (first_puts ps) ≤ length ps
few_first [] = omega arith
few_first (p ∷ ps) = omega (arith, few_some (λ (q : NamedOp). not (same p.name q.name)) (first_puts ps), few_first ps)

few_written : (seen : List Record) (ops : List NamedOp) → length (records_written seen (puts_in ops)) ≤ length ops
few_written seen ops =
    omega (arith, few_mapped (λ (p : NamedOp). written_over p (record_at seen p.name)) (first_puts (puts_in ops)), few_first (puts_in ops), few_some (λ (op : NamedOp). not (is_deletion op.kind)) ops)

pub same_length : {X Y : Type 0} (f : X → Y) (xs : List X) → length (map f xs) ≡ length xs
same_length f [] = refl
same_length f (x ∷ xs) = ap suc (same_length f xs)

few_working : (scope : Scope) (seen : List Record) (ops : List NamedOp) → length (links_of (working_view scope seen ops)) ≤ length seen + length ops
few_working scope seen ops =
    let linked : length (links_of (working_view scope seen ops)) ≡ length (working_view scope seen ops) = same_length {Y = Link} (λ (r : Record). (r.name, r.parent)) (working_view scope seen ops) in
    let marked : length (working_view scope seen ops) ≡ length (with_puts seen ops) = same_length {Y = Record} (λ (r : Record). record r { share = mark_of scope seen ops (with_puts seen ops) r }) (with_puts seen ops) in
    let put : length (with_puts seen ops) ≤ length seen + length (records_written seen (puts_in ops)) = all_with (records_written seen (puts_in ops)) seen in
    omega (arith, linked, marked, put, few_written seen ops)

pub enough_in_working : {X : Type 0} (f : X → NamedOp) (scope : Scope) (seen : List Record) (ops : List X) (n m : ℕ) (a x : List ℕ) → length seen ≤ m → n ≡ m + length ops
    → is_in (upward n (links_of (working_view scope seen (map f ops))) x) a ≡ is_ancestor (working_view scope seen (map f ops)) a x
enough_in_working f scope seen ops n m a x few is = enough n (links_of (working_view scope seen (map f ops))) a x (omega (arith, few, is, few_working scope seen (map f ops), same_length f ops))

-- ---- the same of any test

pub any_met : (t : List ℕ → Bool) (links : List Link) (n : ℕ) (at : List ℕ) → t at ≡ true → list_any t (upward n links at) ≡ true
any_met t links zero at e = or_so (t at) false e
any_met t links (suc n) at e = or_so (t at) _ e

pub any_ended : (t : List ℕ → Bool) (links : List Link) (n : ℕ) (at : List ℕ) → t at ≡ false → parent_of links at ≡ None → list_any t (upward n links at) ≡ false
any_ended t links zero at e none = or_not (t at) false e
any_ended t links (suc n) at e none = or_not (t at) _ e ∙ ap (λ o. list_any t (option_map_or (upward n links) o [])) none

pub any_goes_on : (t : List ℕ → Bool) (links : List Link) (n : ℕ) (at p : List ℕ) → 0 < n → t at ≡ false → parent_of links at ≡ Some p → list_any t (upward n links at) ≡ list_any t (upward (n - 1) links p)
any_goes_on t links zero at p some e is = absurd (omega (arith, some))
any_goes_on t links (suc n) at p some e is =
    let one : n ≡ suc n - 1 = omega arith in
    or_not (t at) _ e ∙ ap (λ o. list_any t (option_map_or (upward n links) o [])) is ∙ ap (λ k. list_any t (upward k links p)) one

pub any_last : (t : List ℕ → Bool) (links : List Link) (n : ℕ) (at : List ℕ) → n ≡ 0 → list_any t (upward n links at) ≡ t at
any_last t links n at none = ap (λ k. list_any t (upward k links at)) none ∙ or_nothing (t at)
