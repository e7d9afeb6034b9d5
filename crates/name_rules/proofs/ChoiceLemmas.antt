-- What a choice lists of the entries above a number: with nothing lost, at most so many, and each page goes on. For names and for zones.
use Rattle.std.proofs.Common.{◌≡◌, ℕ, zero, suc, ◌+◌, ◌<◌, ◌≤◌, List, [], ◌∷◌, Bool, true, false, cond, refl, sym, ap, ◌∙◌, subst, arith, map, length, take, drop, ⊎_elim, inl, inr}
use Rattle.std.specs.Prelude.{◌⊎◌, filter, nat_lt, ◌-◌}
use Rattle.std.specs.List.{list_any}
use Rattle.std.proofs.lemmas.Bool.{both_ways, or_cases, or_left, or_right, cond-true, cond-false, lt-ltb, le-ltb, ltb-true, ltb-false}
use Rattle.std.proofs.lemmas.List.{take_all, length-map, length-take}
use Rattle.name_rules.specs.LiveEntries.{Entry, live_from, live_above}
use Rattle.name_rules.specs.Choices.{last_number, choice_of, choice}

module _ {K : Type 0} (is_same : K → K → Bool) (same_is : (x y : K) → is_same x y ≡ true → x ≡ y) where
  abbrev pub among : List K → K → Bool
  among names x = list_any (is_same x) names

  abbrev pub names_of : List (Entry K) → List K
  names_of es = map (λ (e : Entry K). e.name) es

  abbrev live_step : Bool → ℕ → K → List (Entry K) → List (Entry K)
  live_step b i y es = cond b es (record { number = i; name = y } ∷ es)

  -- ---- what is live

  live_within_step : (b : Bool) (i : ℕ) (y x : K) (es : List (Entry K)) (ys : List K) → (among (names_of es) x ≡ true → among ys x ≡ true) → among (names_of (live_step b i y es)) x ≡ true → among (y ∷ ys) x ≡ true
  live_within_step true i y x es ys ih e = or_right (is_same x y) (among ys x) (ih e)
  live_within_step false i y x es ys ih e = ⊎_elim (λ (s : is_same x y ≡ true). or_left (is_same x y) (among ys x) s) (λ (t : among (names_of es) x ≡ true). or_right (is_same x y) (among ys x) (ih t)) (or_cases (is_same x y) (among (names_of es) x) e)

  -- only names of the list are live
  live_within : (i : ℕ) (ys : List K) (x : K) → among (names_of (live_from is_same i ys)) x ≡ true → among ys x ≡ true
  live_within i [] x e = e
  live_within i (y ∷ ys) x e = live_within_step (among ys y) i y x (live_from is_same (suc i) ys) ys (live_within (suc i) ys x) e

  live_all_step : (b : Bool) (i : ℕ) (y x : K) (es : List (Entry K)) (ys : List K) → among ys y ≡ b → (among ys x ≡ true → among (names_of es) x ≡ true) → among (y ∷ ys) x ≡ true → among (names_of (live_step b i y es)) x ≡ true
  live_all_step true i y x es ys is ih e = ih (⊎_elim (λ (s : is_same x y ≡ true). subst (λ z. among ys z ≡ true) (sym (same_is x y s)) is) (λ (t : among ys x ≡ true). t) (or_cases (is_same x y) (among ys x) e))
  live_all_step false i y x es ys is ih e = ⊎_elim (λ (s : is_same x y ≡ true). or_left (is_same x y) (among (names_of es) x) s) (λ (t : among ys x ≡ true). or_right (is_same x y) (among (names_of es) x) (ih t)) (or_cases (is_same x y) (among ys x) e)

  -- and all of them are
  pub live_all : (i : ℕ) (ys : List K) (x : K) → among ys x ≡ true → among (names_of (live_from is_same i ys)) x ≡ true
  live_all i [] x e = e
  live_all i (y ∷ ys) x e = live_all_step (among ys y) i y x (live_from is_same (suc i) ys) ys refl (live_all (suc i) ys x) e

  take_within : (k : ℕ) (es : List (Entry K)) (x : K) → among (names_of (take k es)) x ≡ true → among (names_of es) x ≡ true
  take_within zero es x e = absurd (both_ways false refl e)
  take_within (suc k) [] x e = e
  take_within (suc k) (y ∷ ys) x e = ⊎_elim (λ (s : is_same x y.name ≡ true). or_left (is_same x y.name) (among (names_of ys) x) s) (λ (t : among (names_of (take k ys)) x ≡ true). or_right (is_same x y.name) (among (names_of ys) x) (take_within k ys x t)) (or_cases (is_same x y.name) (among (names_of (take k ys)) x) e)

  -- ---- a name whose entries all stand at or below the last listed one is listed

  pub last_skips : (n : ℕ) (es : List (Entry K)) (j : ℕ) → last_number n es ≡ n + suc j → last_number (suc n) es ≡ suc n + j
  last_skips n [] j e = absurd (omega (arith, e))
  last_skips n (x ∷ es) j e = omega (arith, e)

  listed_step : (b : Bool) (n k j : ℕ) (y x : K) (es : List (Entry K)) (ys : List K) → among ys y ≡ b
      → ((h : ℕ) → last_number (suc n) (take h es) ≡ suc n + j → among ys x ≡ true → among (names_of (take h es)) x ≡ true)
      → last_number n (take k (live_step b (suc n) y es)) ≡ n + suc j → among (y ∷ ys) x ≡ true → among (names_of (take k (live_step b (suc n) y es))) x ≡ true
  listed_step true n k j y x es ys is ih e i = ih k (last_skips n (take k es) j e)
      (⊎_elim (λ (s : is_same x y ≡ true). subst (λ z. among ys z ≡ true) (sym (same_is x y s)) is) (λ (t : among ys x ≡ true). t) (or_cases (is_same x y) (among ys x) i))
  listed_step false n zero j y x es ys is ih e i = absurd (omega (arith, e))
  listed_step false n (suc k) j y x es ys is ih e i = ⊎_elim
      (λ (s : is_same x y ≡ true). or_left (is_same x y) (among (names_of (take k es)) x) s)
      (λ (t : among ys x ≡ true). or_right (is_same x y) (among (names_of (take k es)) x) (ih k (omega (arith, e)) t))
      (or_cases (is_same x y) (among ys x) i)

  pub listed_has : (ys : List K) (n k j : ℕ) (x : K) → last_number n (take k (live_from is_same (suc n) ys)) ≡ n + j → among ys x ≡ true → among (drop j ys) x ≡ false → among (names_of (take k (live_from is_same (suc n) ys))) x ≡ true
  listed_has [] n k j x e i o = absurd (both_ways false refl i)
  listed_has (y ∷ ys) n k zero x e i o = absurd (both_ways (among (y ∷ ys) x) o i)
  listed_has (y ∷ ys) n k (suc j) x e i o = listed_step (among ys y) n k j y x (live_from is_same (suc (suc n)) ys) ys refl (λ h f t. listed_has ys (suc n) h j x f t o) e i

  -- ---- the last listed number

  last_bound_step : (b : Bool) (n k m : ℕ) (y : K) (es : List (Entry K)) → ((h : ℕ) → (suc n ≤ last_number (suc n) (take h es)) × (last_number (suc n) (take h es) ≤ suc n + m))
      → (n ≤ last_number n (take k (live_step b (suc n) y es))) × (last_number n (take k (live_step b (suc n) y es)) ≤ n + suc m)
  last_bound_step true n k m y es ih = skipped (take k es) (ih k)
    where
      skipped : (fs : List (Entry K)) → (suc n ≤ last_number (suc n) fs) × (last_number (suc n) fs ≤ suc n + m) → (n ≤ last_number n fs) × (last_number n fs ≤ n + suc m)
      skipped [] h = (omega arith, omega arith)
      skipped (f ∷ fs) h = (omega (arith, h.0), omega (arith, h.1))
  last_bound_step false n zero m y es ih = (omega arith, omega arith)
  last_bound_step false n (suc k) m y es ih = let h = ih k in (omega (arith, h.0), omega (arith, h.1))

  pub last_bound : (ys : List K) (n k : ℕ) → (n ≤ last_number n (take k (live_from is_same (suc n) ys))) × (last_number n (take k (live_from is_same (suc n) ys)) ≤ n + length ys)
  last_bound [] n zero = (omega arith, omega arith)
  last_bound [] n (suc k) = (omega arith, omega arith)
  last_bound (y ∷ ys) n k = last_bound_step (among ys y) n k (length ys) y (live_from is_same (suc (suc n)) ys) (λ h. last_bound ys (suc n) h)

  -- ---- the live entries above a number are those of the rest

  all_above_step : (b : Bool) (n i : ℕ) (y : K) (es : List (Entry K)) → n < i → filter (λ (e : Entry K). nat_lt n e.number) es ≡ es → filter (λ (e : Entry K). nat_lt n e.number) (live_step b i y es) ≡ live_step b i y es
  all_above_step true n i y es lt ih = ih
  all_above_step false n i y es lt ih = cond-true (nat_lt n i) (record { number = i; name = y } ∷ filter (λ (e : Entry K). nat_lt n e.number) es) (filter (λ (e : Entry K). nat_lt n e.number) es) (lt-ltb n i lt) ∙ ap (λ fs. record { number = i; name = y } ∷ fs) ih

  all_above : (n i : ℕ) (ys : List K) → n < i → filter (λ (e : Entry K). nat_lt n e.number) (live_from is_same i ys) ≡ live_from is_same i ys
  all_above n i [] lt = refl
  all_above n i (y ∷ ys) lt = all_above_step (among ys y) n i y (live_from is_same (suc i) ys) lt (all_above n (suc i) ys (omega (arith, lt)))

  none_above_step : (b : Bool) (n i : ℕ) (y : K) (es : List (Entry K)) → i ≤ n → filter (λ (e : Entry K). nat_lt n e.number) (live_step b i y es) ≡ filter (λ (e : Entry K). nat_lt n e.number) es
  none_above_step true n i y es le = refl
  none_above_step false n i y es le = cond-false (nat_lt n i) (record { number = i; name = y } ∷ filter (λ (e : Entry K). nat_lt n e.number) es) (filter (λ (e : Entry K). nat_lt n e.number) es) (le-ltb n i le)

  rest_above : (d i : ℕ) (ys : List K) → filter (λ (e : Entry K). nat_lt (d + i) e.number) (live_from is_same (suc i) ys) ≡ live_from is_same (suc (d + i)) (drop d ys)
  rest_above zero i ys = rw zero_plus (all_above i (suc i) ys (omega arith))
    where
      zero_plus : 0 + i ≡ i
      zero_plus = omega arith
  rest_above (suc d) i [] = refl
  rest_above (suc d) i (y ∷ ys) = none_above_step (among ys y) (suc d + i) (suc i) y (live_from is_same (suc (suc i)) ys) (omega arith)
      ∙ subst (λ m. filter (λ (e : Entry K). nat_lt m e.number) (live_from is_same (suc (suc i)) ys) ≡ live_from is_same (suc m) (drop d ys)) (omega arith) (rest_above d (suc i) ys)

  pub live_above-drop : (n : ℕ) (ys : List K) → live_above is_same n ys ≡ live_from is_same (suc n) (drop n ys)
  live_above-drop n ys = subst (λ m. filter (λ (e : Entry K). nat_lt m e.number) (live_from is_same 1 ys) ≡ live_from is_same (suc m) (drop n ys)) (omega arith) (rest_above n 0 ys)

  -- ---- what is left behind

  -- the live entries above a number, and those of them that are listed
  abbrev pub rest : List K → ℕ → List (Entry K)
  rest ys n = live_from is_same (suc n) (drop n ys)

  abbrev pub listed : List K → ℕ → ℕ → List (Entry K)
  listed ys n k = take k (rest ys n)

  pub listed_within : (ys : List K) (n k : ℕ) (x : K) → among (names_of (listed ys n k)) x ≡ true → among (drop n ys) x ≡ true
  listed_within ys n k x e = live_within (suc n) (drop n ys) x (take_within k (rest ys n) x e)

  drop-nil : (j : ℕ) → drop j (let xs : List K = [] in xs) ≡ []
  drop-nil zero = refl
  drop-nil (suc j) = refl

  plus_suc : (n j : ℕ) → suc n + j ≡ suc (n + j)
  plus_suc n j = omega arith

  pub drop_more : (n j : ℕ) (ys : List K) → drop (n + j) ys ≡ drop j (drop n ys)
  drop_more zero j ys = ap (λ m. drop m ys) (omega arith)
  drop_more (suc n) j [] = ap (λ m. drop m (let xs : List K = [] in xs)) (plus_suc n j) ∙ sym (drop-nil j)
  drop_more (suc n) j (y ∷ ys) = ap (λ m. drop m (y ∷ ys)) (plus_suc n j) ∙ drop_more n j ys

  -- ---- what a choice lists

  -- at most so many
  pub chosen_within : (ys : List K) (n k : ℕ) → length (choice is_same ys n k).names ≤ k
  chosen_within ys n k = omega (arith, length-map (take k (live_above is_same n ys)) (λ (e : Entry K). e.name), length-take k (live_above is_same n ys))

  -- where no more follows, the number is that of all
  pub chosen_all : (ys : List K) (n k : ℕ) → (choice is_same ys n k).more ≡ false → (choice is_same ys n k).number ≡ length ys
  chosen_all ys n k none = rw none refl

  -- the last listed number lies above, where some are listed
  beyond_step : (b : Bool) (n k : ℕ) (y : K) (es : List (Entry K)) (ys : List K) → es ≡ live_from is_same (suc (suc n)) ys → 0 < k → 0 < length (live_step b (suc n) y es)
      → (0 < length es → suc n < last_number (suc n) (take k es)) → n < last_number n (take k (live_step b (suc n) y es))
  beyond_step true n zero y es ys is some live ih = absurd (omega (arith, some))
  beyond_step true n (suc k) y [] ys is some live ih = absurd (omega (arith, live))
  beyond_step true n (suc k) y (e ∷ es) ys is some live ih = omega (arith, ih live)
  beyond_step false n zero y es ys is some live ih = absurd (omega (arith, some))
  beyond_step false n (suc k) y es ys is some live ih =
      let bound : suc n ≤ last_number (suc n) (take k es) = subst (λ (fs : List (Entry K)). suc n ≤ last_number (suc n) (take k fs)) (sym is) (last_bound ys (suc n) k).0 in
      omega (arith, bound)

  beyond : (ys : List K) (n k : ℕ) → 0 < k → 0 < length (live_from is_same (suc n) ys) → n < last_number n (take k (live_from is_same (suc n) ys))
  beyond [] n k some live = absurd (omega (arith, live))
  beyond (y ∷ ys) n k some live = beyond_step (among ys y) n k y (live_from is_same (suc (suc n)) ys) ys refl some live (λ more. beyond ys (suc n) k some more)

  onward_by : (n k count : ℕ) (live : List (Entry K)) (b : Bool) → nat_lt k (length live) ≡ b → b ≡ true → (0 < length live → n < last_number n (take k live)) → n < cond b (last_number n (take k live)) count
  onward_by n k count live true is more above = above (omega (arith, ltb-true k (length live) is))
  onward_by n k count live false is more above = absurd (both_ways false refl more)

  -- where more follows, the number goes up
  pub chosen_onward : (ys : List K) (n k : ℕ) → 0 < k → (choice is_same ys n k).more ≡ true → n < (choice is_same ys n k).number
  chosen_onward ys n k some = subst (λ (live : List (Entry K)). (choice_of live (length ys) n k).more ≡ true → n < (choice_of live (length ys) n k).number) (sym (live_above-drop n ys))
      (λ more. onward_by n k (length ys) (rest ys n) (nat_lt k (length (rest ys n))) refl more (beyond (drop n ys) n k some))

  -- ---- nothing is lost

  abbrev number_by : Bool → List K → ℕ → ℕ → ℕ
  number_by b ys n k = cond b (last_number n (listed ys n k)) (length ys)

  kept_by : (ys : List K) (n k : ℕ) (x : K) (b : Bool) → nat_lt k (length (rest ys n)) ≡ b → among (drop n ys) x ≡ true → (c : Bool) → among (drop (number_by b ys n k) ys) x ≡ c
      → (among (names_of (listed ys n k)) x ≡ true) ⊎ (among (drop (number_by b ys n k) ys) x ≡ true)
  kept_by ys n k x b is has true out = inr out
  kept_by ys n k x true is has false out =
      let j : ℕ = last_number n (listed ys n k) - n in
      let at : last_number n (listed ys n k) ≡ n + j = omega (arith, (last_bound (drop n ys) n k).0) in
      inl (listed_has (drop n ys) n k j x at has (subst (λ zs. among zs x ≡ false) (drop_more n j ys) (subst (λ m. among (drop m ys) x ≡ false) at out)))
  kept_by ys n k x false is has false out =
      inl (subst (λ es. among (names_of es) x ≡ true) (sym (take_all k (rest ys n) (ltb-false k (length (rest ys n)) is))) (live_all (suc n) (drop n ys) x has))

  -- what has an entry above the number is listed, or has one above the number of the choice
  pub chosen_kept : (ys : List K) (n k : ℕ) (x : K) → among (drop n ys) x ≡ true → (among (choice is_same ys n k).names x ≡ true) ⊎ (among (drop (choice is_same ys n k).number ys) x ≡ true)
  chosen_kept ys n k x has = subst (λ (live : List (Entry K)). (among (choice_of live (length ys) n k).names x ≡ true) ⊎ (among (drop (choice_of live (length ys) n k).number ys) x ≡ true)) (sym (live_above-drop n ys))
      (kept_by ys n k x (nat_lt k (length (rest ys n))) refl has (among (drop (number_by (nat_lt k (length (rest ys n))) ys n k) ys) x) refl)
