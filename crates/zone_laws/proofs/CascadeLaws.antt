-- The removed names are the least closed set.
use Rattle.std.proofs.Common.{◌≡◌, ℕ, zero, suc, ◌<◌, ◌≤◌, List, [], ◌∷◌, Bool, true, false, cond, ◌||◌, refl, sym, ap, subst, arith, map, length, inl, inr, ⊎_elim}
use Rattle.std.specs.Prelude.{◌⊎◌, filter}
use Rattle.std.specs.List.{list_any}
use Rattle.std.proofs.lemmas.Bool.{both_ways, or_cases, or_left, or_right, cases_lt}
use Rattle.record_model.specs.declared.records.Record.{Record}
use Rattle.zone_model.specs.Names.{same, is_in}
use Rattle.zone_model.specs.Cascade.{takes_along, is_due, due, IsClosed, reached, removed_names, IsLeast}
use Rattle.name_rules.proofs.NameLemmas.{any-within, IsWithin}

or-weaker : (a b c d : Bool) → (a ≡ true → c ≡ true) → (b ≡ true → d ≡ true) → (a || b) ≡ true → (c || d) ≡ true
or-weaker a b c d f g e = ⊎_elim (λ (h : a ≡ true). or_left c d (f h)) (λ (h : b ≡ true). or_right c d (g h)) (or_cases a b e)

module _ (records : List Record) (taken : List (List ℕ)) where
  -- with more removed names no fewer records are due
  pub is_due-grows : (S T : List (List ℕ)) → IsWithin S T → (r : Record) → is_due records taken S r ≡ true → is_due records taken T r ≡ true
  is_due-grows S T w r e = or-weaker (is_in taken r.name) (list_any (λ a. takes_along records taken a r) S) (is_in taken r.name) (list_any (λ a. takes_along records taken a r) T)
      (λ h. h) (any-within (λ a. takes_along records taken a r) S T w) e

abbrev names_that : (Record → Bool) → List Record → List (List ℕ)
names_that p rs = map (λ (r : Record). r.name) (filter p rs)

-- the names of the records that pass a test, and a weaker one
names-weaker_step : (a b : Bool) (r : Record) (ps qs : List Record) → (a ≡ true → b ≡ true) → IsWithin (map (λ (r : Record). r.name) ps) (map (λ (r : Record). r.name) qs)
    → IsWithin (map (λ (r : Record). r.name) (cond a (r ∷ ps) ps)) (map (λ (r : Record). r.name) (cond b (r ∷ qs) qs))
names-weaker_step true true r ps qs w ih x e = or-weaker (same x r.name) (is_in (map (λ (r : Record). r.name) ps) x) (same x r.name) (is_in (map (λ (r : Record). r.name) qs) x) (λ h. h) (ih x) e
names-weaker_step true false r ps qs w ih x e = absurd (both_ways false refl (w refl))
names-weaker_step false true r ps qs w ih x e = or_right (same x r.name) (is_in (map (λ (r : Record). r.name) qs) x) (ih x e)
names-weaker_step false false r ps qs w ih x e = ih x e

names-weaker : (p q : Record → Bool) → ((r : Record) → p r ≡ true → q r ≡ true) → (rs : List Record) → IsWithin (names_that p rs) (names_that q rs)
names-weaker p q w [] x e = e
names-weaker p q w (r ∷ rs) x e = names-weaker_step (p r) (q r) r (filter p rs) (filter q rs) (w r) (names-weaker p q w rs) x e

-- no more records pass than there are, and where a weaker test passes no more, the same pass
pub record Grows (ps qs : List Record) : Type 0 where
  pub longer : length ps ≤ length qs
  pub same_if : length qs ≤ length ps → ps ≡ qs

grows_step : (a b : Bool) (r : Record) (ps qs : List Record) → (a ≡ true → b ≡ true) → Grows ps qs → Grows (cond a (r ∷ ps) ps) (cond b (r ∷ qs) qs)
grows_step true true r ps qs w g = record { longer = omega (arith, g.longer); same_if = λ h. ap (λ rs. r ∷ rs) (g.same_if (omega (arith, h))) }
grows_step true false r ps qs w g = absurd (both_ways false refl (w refl))
grows_step false true r ps qs w g = record { longer = omega (arith, g.longer); same_if = λ h. absurd (omega (arith, h, g.longer)) }
grows_step false false r ps qs w g = g

filters_grow : (p q : Record → Bool) → ((r : Record) → p r ≡ true → q r ≡ true) → (rs : List Record) → Grows (filter p rs) (filter q rs)
filters_grow p q w [] = record { longer = omega arith; same_if = λ h. refl }
filters_grow p q w (r ∷ rs) = grows_step (p r) (q r) r (filter p rs) (filter q rs) (w r) (filters_grow p q w rs)

filter_step : (a : Bool) (r : Record) (ps rs : List Record) → length ps ≤ length rs → length (cond a (r ∷ ps) ps) ≤ suc (length rs)
filter_step true r ps rs h = omega (arith, h)
filter_step false r ps rs h = omega (arith, h)

filter_no_longer : (p : Record → Bool) (rs : List Record) → length (filter p rs) ≤ length rs
filter_no_longer p [] = omega arith
filter_no_longer p (r ∷ rs) = filter_step (p r) r (filter p rs) rs (filter_no_longer p rs)

module _ (records : List Record) (taken : List (List ℕ)) where
  pub due-grows : (S T : List (List ℕ)) → IsWithin S T → IsWithin (due records taken S) (due records taken T)
  due-grows S T w = names-weaker (is_due records taken S) (is_due records taken T) (is_due-grows records taken S T w) records

  -- each round keeps what the rounds before it reached
  reached-grows : (n : ℕ) → IsWithin (reached records taken n) (reached records taken (suc n))
  reached-grows zero x e = absurd (both_ways false refl e)
  reached-grows (suc n) x e = due-grows (reached records taken n) (reached records taken (suc n)) (reached-grows n) x e

  rounds_grow : (n : ℕ) → Grows (filter (is_due records taken (reached records taken n)) records) (filter (is_due records taken (reached records taken (suc n))) records)
  rounds_grow n = filters_grow (is_due records taken (reached records taken n)) (is_due records taken (reached records taken (suc n)))
      (is_due-grows records taken (reached records taken n) (reached records taken (suc n)) (reached-grows n)) records

  -- the records of a round
  abbrev round : ℕ → List Record
  round n = filter (is_due records taken (reached records taken n)) records

  -- before the rounds come to rest each one has a record more
  rests_zero : (rs : List Record) → (0 < length rs) ⊎ (map (λ (r : Record). r.name) rs ≡ [])
  rests_zero [] = inr refl
  rests_zero (r ∷ rs) = inl (omega arith)

  rests_more : (n : ℕ) → (length (round n) < length (round (suc n))) ⊎ (length (round (suc n)) ≤ length (round n)) → (n < length (round n)) ⊎ (reached records taken (suc n) ≡ reached records taken n)
      → (suc n < length (round (suc n))) ⊎ (reached records taken (suc (suc n)) ≡ reached records taken (suc n))
  rests_more n order (inr same_round) = inr (ap (due records taken) same_round)
  rests_more n (inl more) (inl many) = inl (omega (arith, more, many))
  rests_more n (inr no_more) (inl many) = inr (ap (map (λ (r : Record). r.name)) (sym ((rounds_grow n).same_if no_more)))

  rests : (n : ℕ) → (n < length (round n)) ⊎ (reached records taken (suc n) ≡ reached records taken n)
  rests zero = rests_zero (round zero)
  rests (suc n) = rests_more n (cases_lt (length (round n)) (length (round (suc n)))) (rests n)

  -- one round more reaches nothing new
  pub removed-rests : due records taken (removed_names records taken) ≡ removed_names records taken
  removed-rests = ⊎_elim
      (λ (many : length records < length (round (length records))). absurd (omega (arith, many, filter_no_longer (is_due records taken (removed_names records taken)) records)))
      (λ (same_round : due records taken (removed_names records taken) ≡ removed_names records taken). same_round)
      (rests (length records))

  reached_least : (T : List (List ℕ)) → IsClosed records taken T → (n : ℕ) → IsWithin (reached records taken n) T
  reached_least T closed zero x e = absurd (both_ways false refl e)
  reached_least T closed (suc n) x e = closed x (due-grows (reached records taken n) T (reached_least T closed n) x e)

  -- the removed names are the least closed set
  pub removed-least : IsLeast records taken (removed_names records taken)
  removed-least = record {
    closed = λ x e. subst (λ S. is_in S x ≡ true) removed-rests e;
    least = λ T closed x e. reached_least T closed (length records) x e;
  }

  -- what a walk finds, if it is closed and nothing in it is without a reason, is the same set
  pub least-same : (S : List (List ℕ)) → IsLeast records taken S → (x : List ℕ) → (is_in S x ≡ true → is_in (removed_names records taken) x ≡ true) × (is_in (removed_names records taken) x ≡ true → is_in S x ≡ true)
  least-same S l x = (l.least (removed_names records taken) removed-least.closed x, removed-least.least S l.closed x)
