-- Sets of names, and what they cut from records.
use Rattle.std.proofs.Common.{◌≡◌, ℕ, Bool, true, false, List, [], ◌∷◌, ◌||◌, filter, Ordering, Less, Equal, Greater, nat_cmp, is_eq, bytes_eq, refl, sym, ap, ◌∙◌}
use Rattle.std.specs.List.{list_any}
use Rattle.std.specs.Ordering.{match_ordering, ordering_reverse}
use Rattle.std.specs.Cmp.Lexicographic.{slice_cmp}
use Rattle.std.specs.BTreeSet.{BTreeSet, insert_key}
use Rattle.std.proofs.lemmas.Cmp.{nat_list_eq_equiv, nat_list_cmp_total}
use Rattle.std.proofs.lemmas.Map.Text.{is_eq-slice_cmp}
use denote.Ref.{Bor}
use Rattle.record_model.specs.declared.value.Value.{Value}
use Rattle.record_model.specs.Cutting.{is_asked_for, has_name, is_among}

abbrev Key : Type 0
Key = Bor (List ℕ)

abbrev key_cmp : Key → Key → Ordering
key_cmp x y = slice_cmp nat_cmp x.now y.now

abbrev among : List ℕ → List Key → Bool
among x keys = list_any (λ (key : Key). is_eq (slice_cmp nat_cmp x key.now)) keys

both_are : (a b : Bool) → (a || b) ≡ (a || (a || b))
both_are true b = refl
both_are false b = refl

other_first : (a b c : Bool) → (b || (a || c)) ≡ (a || (b || c))
other_first true true c = refl
other_first true false c = refl
other_first false true c = refl
other_first false false c = refl

-- keys that compare equal compare alike with each name
alike : (x : List ℕ) (k l : Key) → key_cmp k l ≡ Equal → is_eq (slice_cmp nat_cmp x l.now) ≡ is_eq (slice_cmp nat_cmp x k.now)
alike x k l same =
    ap is_eq (nat_list_cmp_total.antisymm x l.now) ∙ ap (λ o. is_eq (ordering_reverse o)) (sym (nat_list_cmp_total.congr k.now l.now x same))
    ∙ ap is_eq (sym (nat_list_cmp_total.antisymm x k.now))

-- a set has one name more
among_more : (x : List ℕ) (k : Key) (keys : List Key) → among x (insert_key key_cmp keys k) ≡ (is_eq (slice_cmp nat_cmp x k.now) || among x keys)
among_more x k [] = refl
among_more x k (l ∷ keys) = by (key_cmp k l) refl (among_more x k keys) where
  by : (o : Ordering) → key_cmp k l ≡ o → among x (insert_key key_cmp keys k) ≡ (is_eq (slice_cmp nat_cmp x k.now) || among x keys)
      → among x (match_ordering o (k ∷ l ∷ keys) (l ∷ keys) (l ∷ insert_key key_cmp keys k)) ≡ (is_eq (slice_cmp nat_cmp x k.now) || among x (l ∷ keys))
  by Less is later = refl
  by Equal is later =
      ap (λ b. b || among x keys) (alike x k l is) ∙ both_are (is_eq (slice_cmp nat_cmp x k.now)) (among x keys)
      ∙ ap (λ b. is_eq (slice_cmp nat_cmp x k.now) || (b || among x keys)) (sym (alike x k l is))
  by Greater is later =
      ap (λ b. is_eq (slice_cmp nat_cmp x l.now) || b) later
      ∙ other_first (is_eq (slice_cmp nat_cmp x k.now)) (is_eq (slice_cmp nat_cmp x l.now)) (among x keys)

-- what is cut by the set is cut by the names
pub cut_by_set : (names : BTreeSet Key) (keys : List (List ℕ)) (fields : List (List ℕ × Value))
    → ((x : List ℕ) → has_name names x ≡ list_any (λ key. bytes_eq key x) keys) → filter (is_among names) fields ≡ filter (is_asked_for keys) fields
cut_by_set names keys fields has = λ i. filter (λ (field : List ℕ × Value). has field.0 i) fields

-- the set has one name more
pub has_one_more : (old new : BTreeSet Key) (k : Key) (keys : List (List ℕ)) (x : List ℕ) → new.keys ≡ insert_key key_cmp old.keys k
    → has_name old x ≡ list_any (λ key. bytes_eq key x) keys → has_name new x ≡ (list_any (λ key. bytes_eq key x) keys || bytes_eq k.now x)
has_one_more old new k keys x grown had =
    ap (among x) grown ∙ among_more x k old.keys
    ∙ ap (λ b. b || among x old.keys) (is_eq-slice_cmp x k.now ∙ nat_list_eq_equiv.symm x k.now) ∙ ap (λ b. bytes_eq k.now x || b) had
    ∙ turned (bytes_eq k.now x) (list_any (λ key. bytes_eq key x) keys)
  where
    turned : (a b : Bool) → (a || b) ≡ (b || a)
    turned true true = refl
    turned true false = refl
    turned false true = refl
    turned false false = refl
