-- The order of values is linear.
use Rattle.std.proofs.Common.{◌≡◌, ◌<◌, ◌≤◌, ◌+◌, ℕ, zero, suc, ℤ, List, [], ◌∷◌, refl, sym, ◌∙◌, ap, subst, arith}
use Rattle.std.specs.List.{AllByRecursion}
use Rattle.std.specs.Ordering.{nat_cmp, int_cmp, ordering_then, ordering_reverse}
use Rattle.std.specs.Cmp.{IsTotalOrder}
use Rattle.std.specs.Cmp.Lexicographic.{slice_cmp}
use Rattle.std.specs.declared.cmp.Ordering.{Ordering}
use Rattle.std.specs.declared.cmp.Ordering.TheVariants.{Less, Equal, Greater}
use Rattle.std.proofs.lemmas.Cmp.{nat_cmp_total, int_cmp_total, on_total, then_total, lists_total, nat_list_cmp_total, tied_itself, upto, ranked, int_ranked}
use Rattle.std.proofs.lemmas.Bool.Decides.{nat_tests}
use Rattle.record_model.specs.declared.value.Action.{Action}
use Rattle.record_model.specs.declared.value.Kind.{Kind}
use Rattle.record_model.specs.declared.value.Value.{Value, out-Value, roll-Value, out-roll-Value, roll-out-Value}
use Rattle.record_model.specs.declared.value.Value.TheVariants.{rolls-Int64, rolls-Timestamp, rolls-Text, rolls-Bytes, rolls-Reference, rolls-List}
use Rattle.record_model.specs.declared.value.Value.TheOpen.{Value-F}
use Rattle.record_model.specs.Shapes.{kind_place}
use Rattle.record_model.specs.ValueOrder.{action_place, rank, number_part, bytes_part, place_part, elements_part, parts_cmp, value_cmp}
use Rattle.record_model.specs.OrderLaws.{IsLinear, IsByKinds}
use Rattle.record_model.proofs.OrderLemmas.{value_cmp_by_parts}
use Rattle.record_model.proofs.ValueInduction.{each_value}

-- ---- the order of values that nest no deeper than a bound

abbrev cmp_within : ℕ → Value → Value → Ordering
cmp_within zero a b = Equal
cmp_within (suc n) a b = ordering_then (parts_cmp (out-Value a) (out-Value b)) (slice_cmp (cmp_within n) (elements_part (out-Value a)) (elements_part (out-Value b)))

same_total : IsTotalOrder (λ (a b : Value). Equal)
same_total = record { antisymm = λ x y. refl; trans = λ x y z f g. f; congr = λ x y z e. refl }

parts_total : IsTotalOrder (λ (a b : Value). parts_cmp (out-Value a) (out-Value b))
parts_total =
    then_total (on_total (λ v. rank (out-Value v)) nat_cmp_total)
    (then_total (on_total (λ v. number_part (out-Value v)) int_cmp_total)
    (then_total (on_total (λ v. bytes_part (out-Value v)) nat_list_cmp_total)
    (on_total (λ v. place_part (out-Value v)) nat_cmp_total)))

within_total : (n : ℕ) → IsTotalOrder (cmp_within n)
within_total zero = same_total
within_total (suc n) = then_total parts_total (on_total (λ v. elements_part (out-Value v)) (lists_total (within_total n)))

-- ---- from some bound on that order is the whole one

abbrev Settles : Value → Type 0
Settles a = (m : ℕ) × ((n : ℕ) → m ≤ n → (b : Value) → value_cmp a b ≡ cmp_within n a b)

abbrev ListSettles : List Value → Type 0
ListSettles vs = (m : ℕ) × ((n : ℕ) → m ≤ n → (ws : List Value) → slice_cmp value_cmp vs ws ≡ slice_cmp (cmp_within n) vs ws)

list_settles : (vs : List Value) → AllByRecursion Settles vs → ListSettles vs
list_settles [] all = (0, λ n m ws. elim ws as (λ us. slice_cmp value_cmp [] us ≡ slice_cmp (cmp_within n) [] us) [ [] ↦ refl | u ∷ us ↦ refl ])
list_settles (v ∷ vs) all =
    let first = all.0 in
    let rest = list_settles vs all.1 in (
      first.0 + rest.0,
      λ n m ws. elim ws as (λ us. slice_cmp value_cmp (v ∷ vs) us ≡ slice_cmp (cmp_within n) (v ∷ vs) us) [
        | [] ↦ refl
        | u ∷ us ↦ (let one : value_cmp v u ≡ cmp_within n v u = first.1 n (omega (arith, m)) u in
            let more : slice_cmp value_cmp vs us ≡ slice_cmp (cmp_within n) vs us = rest.1 n (omega (arith, m)) us in
            ap (λ o. ordering_then o (slice_cmp value_cmp vs us)) one ∙ ap (λ o. ordering_then (cmp_within n v u) o) more)
      ],
    )

settles_from : (a : Value) → ListSettles (elements_part (out-Value a)) → Settles a
settles_from a inside = (suc inside.0, λ n m b. go n m b) where
  go : (n : ℕ) → suc inside.0 ≤ n → (b : Value) → value_cmp a b ≡ cmp_within n a b
  go zero m b = absurd (omega (arith, m))
  go (suc n) m b = value_cmp_by_parts a b
      ∙ ap (λ o. ordering_then (parts_cmp (out-Value a) (out-Value b)) o) (inside.1 n (omega (arith, m)) (elements_part (out-Value b)))

settles : (a : Value) → Settles a
settles = each_value Settles (λ x all. settles_from (roll-Value x)
    (let Q : Value-F Value → Type 0 = λ z. ListSettles (elements_part z) in subst Q (sym (out-roll-Value x)) (list_settles (elements_part x) all)))

-- a bound at which three values are settled
within : (a b c : Value) → (n : ℕ) × ((w : Value) → value_cmp a w ≡ cmp_within n a w)
    × ((w : Value) → value_cmp b w ≡ cmp_within n b w) × ((w : Value) → value_cmp c w ≡ cmp_within n c w)
within a b c =
    let x = settles a in let y = settles b in let z = settles c in
    let n = x.0 + y.0 + z.0 in
    (n, (λ w. x.1 n (omega arith) w), (λ w. y.1 n (omega arith) w), (λ w. z.1 n (omega arith) w))

pub value_cmp_total : IsTotalOrder value_cmp
value_cmp_total = record {
  antisymm = λ x y. let s = within x y y in s.1 y ∙ (within_total s.0).antisymm x y ∙ ap ordering_reverse (sym (s.2 x));
  trans = λ x y z f g. let s = within x y z in s.1 z ∙ (within_total s.0).trans x y z (sym (s.1 y) ∙ f) (sym (s.2 z) ∙ g);
  congr = λ x y z e. let s = within x y z in s.1 z ∙ (within_total s.0).congr x y z (sym (s.1 y) ∙ e) ∙ sym (s.2 z);
}

-- ---- only equal values stand at one place

both_equal : (o p : Ordering) → ordering_then o p ≡ Equal → (o ≡ Equal) × (p ≡ Equal)
both_equal Less p e = absurd (cc)
both_equal Equal p e = (refl, e)
both_equal Greater p e = absurd (cc)

-- values that stand at one place are equal
abbrev IsAlone : {A : Type 0} → (A → A → Ordering) → A → Type 0
IsAlone {A} cmp x = (y : A) → cmp x y ≡ Equal → x ≡ y

lists_alone : {A : Type 0} (cmp : A → A → Ordering) (xs ys : List A) → AllByRecursion (IsAlone cmp) xs → slice_cmp cmp xs ys ≡ Equal → xs ≡ ys
lists_alone cmp [] [] all e = refl
lists_alone cmp [] (y ∷ ys) all e = absurd (cc)
lists_alone cmp (x ∷ xs) [] all e = absurd (cc)
lists_alone cmp (x ∷ xs) (y ∷ ys) all e =
    let parts = both_equal (cmp x y) (slice_cmp cmp xs ys) e in
    ap (λ v. v ∷ xs) (all.0 y parts.0) ∙ ap (λ vs. y ∷ vs) (lists_alone cmp xs ys all.1 parts.1)

nat_alone : (m n : ℕ) → nat_cmp m n ≡ Equal → m ≡ n
nat_alone m n e = ranked m n Equal (sym e)

int_alone : (m n : ℤ) → int_cmp m n ≡ Equal → m ≡ n
int_alone m n e = int_ranked m n Equal (sym e)

all_nats : (xs : List ℕ) → AllByRecursion (IsAlone nat_cmp) xs
all_nats [] = tt
all_nats (x ∷ xs) = (nat_alone x, all_nats xs)

-- ---- a level has no more to it than its parts

kind_at : ℕ → Kind
kind_at zero = Kind.Int64
kind_at (suc zero) = Kind.Timestamp
kind_at (suc (suc zero)) = Kind.Text
kind_at (suc (suc (suc zero))) = Kind.Bytes
kind_at (suc (suc (suc (suc n)))) = Kind.Reference

kind_at-place : (k : Kind) → kind_at (kind_place k) ≡ k
unfolding kind_at
kind_at-place Kind.Int64 = refl
kind_at-place Kind.Timestamp = refl
kind_at-place Kind.Text = refl
kind_at-place Kind.Bytes = refl
kind_at-place Kind.Reference = refl

action_at : ℕ → Action
action_at zero = Action.Plain
action_at (suc zero) = Action.DeleteSelf
action_at (suc (suc n)) = Action.Validate

action_at-place : (a : Action) → action_at (action_place a) ≡ a
unfolding action_at
action_at-place Action.Plain = refl
action_at-place Action.DeleteSelf = refl
action_at-place Action.Validate = refl

level_from : ℕ → ℤ → List ℕ → ℕ → List Value → Value-F Value
level_from zero n b p vs = Value-F.Int64 n
level_from (suc zero) n b p vs = Value-F.Timestamp n
level_from (suc (suc zero)) n b p vs = Value-F.Text b
level_from (suc (suc (suc zero))) n b p vs = Value-F.Bytes b
level_from (suc (suc (suc (suc zero)))) n b p vs = Value-F.Reference (record { name = b; action = action_at p })
level_from (suc (suc (suc (suc (suc r))))) n b p vs = Value-F.List (kind_at p) vs

level_of_parts : (x : Value-F Value) → level_from (rank x) (number_part x) (bytes_part x) (place_part x) (elements_part x) ≡ x
unfolding level_from
level_of_parts (Value-F.Int64 n) = refl
level_of_parts (Value-F.Timestamp n) = refl
level_of_parts (Value-F.Text t) = refl
level_of_parts (Value-F.Bytes b) = refl
level_of_parts (Value-F.Reference r) = ap (λ a. Value-F.Reference (record { name = r.name; action = a })) (action_at-place r.action)
level_of_parts (Value-F.List k vs) = ap (λ l. Value-F.List l vs) (kind_at-place k)

same_level : (x y : Value-F Value) → parts_cmp x y ≡ Equal → elements_part x ≡ elements_part y → x ≡ y
same_level x y e inside =
    let ranks = both_equal (nat_cmp (rank x) (rank y)) _ e in
    let numbers = both_equal (int_cmp (number_part x) (number_part y)) _ ranks.1 in
    let texts = both_equal (slice_cmp nat_cmp (bytes_part x) (bytes_part y)) _ numbers.1 in
    let r : rank x ≡ rank y = nat_alone _ _ ranks.0 in
    let n : number_part x ≡ number_part y = int_alone _ _ numbers.0 in
    let b = lists_alone nat_cmp (bytes_part x) (bytes_part y) (all_nats (bytes_part x)) texts.0 in
    let p : place_part x ≡ place_part y = nat_alone _ _ texts.1 in
    let same : level_from (rank x) (number_part x) (bytes_part x) (place_part x) (elements_part x)
    ≡ level_from (rank y) (number_part y) (bytes_part y) (place_part y) (elements_part y) = cc (r, n, b, p, inside) in
    sym (level_of_parts x) ∙ same ∙ level_of_parts y

alone_level : (x : Value-F Value) → AllByRecursion (IsAlone value_cmp) (elements_part x) → IsAlone value_cmp (roll-Value x)
alone_level x all = λ b e.
    let y = out-Value b in
    let by_parts = sym (value_cmp_by_parts (roll-Value x) b) ∙ e in
    let opened : ordering_then (parts_cmp x y) (slice_cmp value_cmp (elements_part x) (elements_part y)) ≡ Equal =
    (let Q : Value-F Value → Type 0 = λ z. ordering_then (parts_cmp z y) (slice_cmp value_cmp (elements_part z) (elements_part y)) ≡ Equal in
    subst Q (out-roll-Value x) by_parts) in
    let parts = both_equal (parts_cmp x y) _ opened in
    ap roll-Value (same_level x y parts.0 (lists_alone value_cmp (elements_part x) (elements_part y) all parts.1)) ∙ roll-out-Value b

pub value_alone : (a : Value) → IsAlone value_cmp a
value_alone = each_value (IsAlone value_cmp) alone_level

pub values_linear : IsLinear value_cmp
values_linear = record {
  reflexive = λ x. tied_itself value_cmp_total x;
  total = λ x y. value_cmp_total.antisymm x y;
  antisymmetric = value_alone;
  transitive = λ x y z f g. upto value_cmp_total x y z f g;
}

-- ---- the order, case by case

then-equal : (o : Ordering) → ordering_then o Equal ≡ o
then-equal Less = refl
then-equal Equal = refl
then-equal Greater = refl

at_levels : (a b : Value) (x y : Value-F Value) → roll-Value x ≡ a → roll-Value y ≡ b
    → value_cmp a b ≡ ordering_then (parts_cmp x y) (slice_cmp value_cmp (elements_part x) (elements_part y))
at_levels a b x y p q =
    let left : out-Value a ≡ x = ap out-Value (sym p) ∙ out-roll-Value x in
    let right : out-Value b ≡ y = ap out-Value (sym q) ∙ out-roll-Value y in
    let Q : Value-F Value → Value-F Value → Ordering = λ v w. ordering_then (parts_cmp v w) (slice_cmp value_cmp (elements_part v) (elements_part w)) in
    value_cmp_by_parts a b ∙ ap (λ v. Q v (out-Value b)) left ∙ ap (λ w. Q x w) right

lower_rank : (a b : Value) → rank (out-Value a) < rank (out-Value b) → value_cmp a b ≡ Less
lower_rank a b less =
    let first : nat_cmp (rank (out-Value a)) (rank (out-Value b)) ≡ Less = grind (arith, nat_tests, less) in
    value_cmp_by_parts a b ∙ rw first

pub values_by_kinds : IsByKinds value_cmp
values_by_kinds = record {
  variants = lower_rank;
  int64s = λ m n. at_levels _ _ (Value-F.Int64 m) (Value-F.Int64 n) (rolls-Int64 m) (rolls-Int64 n) ∙ then-equal _ ∙ then-equal _;
  timestamps = λ m n. at_levels _ _ (Value-F.Timestamp m) (Value-F.Timestamp n) (rolls-Timestamp m) (rolls-Timestamp n) ∙ then-equal _ ∙ then-equal _;
  texts = λ s t. at_levels _ _ (Value-F.Text s) (Value-F.Text t) (rolls-Text s) (rolls-Text t) ∙ then-equal _ ∙ then-equal _;
  bytes = λ s t. at_levels _ _ (Value-F.Bytes s) (Value-F.Bytes t) (rolls-Bytes s) (rolls-Bytes t) ∙ then-equal _ ∙ then-equal _;
  references = λ r s. at_levels _ _ (Value-F.Reference r) (Value-F.Reference s) (rolls-Reference r) (rolls-Reference s) ∙ then-equal _;
  lists = λ k l vs ws. at_levels _ _ (Value-F.List k vs) (Value-F.List l ws) (rolls-List k vs) (rolls-List l ws);
}
