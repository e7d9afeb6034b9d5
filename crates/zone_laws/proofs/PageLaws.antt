-- A copy that is in step with a number, with the items of the page above it, is in step with the page's number.
use Rattle.std.proofs.Common.{◌≡◌, ℕ, suc, ◌+◌, ◌<◌, ◌≤◌, List, [], ◌∷◌, Bool, true, false, cond, ◌||◌, refl, sym, ap, ◌∙◌, subst, arith, Some, None, Option, map, length, take, drop}
use Rattle.std.specs.Prelude.{nat_lt, ◌-◌}
use Rattle.std.specs.Option.{option_map_or}
use Rattle.std.proofs.lemmas.Bool.{false_from_ne_true, both_ways, cond-true, cond-false, ltb-false}
use Rattle.std.proofs.lemmas.List.{take_all, length-drop, length-map}
use Rattle.record_model.specs.declared.records.Record.{Record}
use Rattle.record_model.specs.declared.view.View.{View}
use Rattle.zone_model.specs.declared.pages.ZonePage.{ZonePage}
use Rattle.zone_model.specs.declared.pages.Item.TheVariants.{There, Gone}
use Rattle.zone_model.specs.Names.{same, is_in}
use Rattle.zone_model.specs.Records.{record_at}
use Rattle.zone_model.specs.Views.{last_view}
use Rattle.zone_model.specs.Entries.{entries}
use Rattle.name_rules.specs.LiveEntries.{Entry, live_from}
use Rattle.zone_model.specs.Pages.{item_at, page_from, page}
use Rattle.name_rules.specs.Choices.{last_number, choice_of, choice}
use Rattle.zone_laws.specs.Copies.{Copy, IsInStep, with_item, fold_page}
use Rattle.name_rules.proofs.NameLemmas.{same-true}
use Rattle.zone_laws.proofs.RecordLaws.{found-name}
use Rattle.name_rules.proofs.ChoiceLemmas.{listed_within, listed_has, drop_more, last_bound, live_all, live_above-drop, chosen_within, chosen_onward}

-- the entries of names, and those that are listed
abbrev NameEntry : Type 0
NameEntry = Entry (List ℕ)

abbrev rest : List View → ℕ → List NameEntry
rest vs n = live_from same (suc n) (drop n (entries vs))

abbrev listed : List View → ℕ → ℕ → List NameEntry
listed vs n k = take k (rest vs n)

abbrev names_of : List NameEntry → List (List ℕ)
names_of es = map (λ (e : NameEntry). e.name) es

-- ---- what a fold has

item_step : (copy : Copy) (rows : List Record) (y x : List ℕ) (o : Option Record) → record_at rows y ≡ o → with_item copy (option_map_or There o (Gone y)) x ≡ cond (same x y) (record_at rows x) (copy x)
item_step copy rows y x None is = by_test (same x y) refl
  where
    by_test : (b : Bool) → same x y ≡ b → cond b None (copy x) ≡ cond b (record_at rows x) (copy x)
    by_test true e = sym is ∙ ap (record_at rows) (sym (same-true x y e))
    by_test false e = refl
item_step copy rows y x (Some r) is = ap (λ w. cond (same x w) (Some r) (copy x)) (sym (same-true y r.name (found-name rows y r is))) ∙ by_test (same x y) refl
  where
    by_test : (b : Bool) → same x y ≡ b → cond b (Some r) (copy x) ≡ cond b (record_at rows x) (copy x)
    by_test true e = sym is ∙ ap (record_at rows) (sym (same-true x y e))
    by_test false e = refl

-- a page's items give each listed name what the view has, and leave the others
folded_at : (rows : List Record) (names : List (List ℕ)) (copy : Copy) (x : List ℕ) → fold_page copy (map (item_at rows) names) x ≡ cond (is_in names x) (record_at rows x) (copy x)
folded_at rows [] copy x = refl
folded_at rows (y ∷ names) copy x = folded_at rows names (with_item copy (item_at rows y)) x
    ∙ ap (λ o. cond (is_in names x) (record_at rows x) o) (item_step copy rows y x (record_at rows y) refl)
    ∙ both (same x y) (is_in names x)
  where
    both : (a b : Bool) → cond b (record_at rows x) (cond a (record_at rows x) (copy x)) ≡ cond (a || b) (record_at rows x) (copy x)
    both true true = refl
    both true false = refl
    both false true = refl
    both false false = refl

-- ---- the law

each_by : (vs : List View) (copy : Copy) (n : ℕ) (x : List ℕ) (names : List (List ℕ)) (b : Bool) → IsInStep copy n vs → is_in (drop n (entries vs)) x ≡ b
    → (is_in names x ≡ true → is_in (drop n (entries vs)) x ≡ true) → (is_in (drop n (entries vs)) x ≡ true → is_in names x ≡ true)
    → fold_page copy (map (item_at (last_view vs).rows) names) x ≡ record_at (last_view vs).rows x
each_by vs copy n x names true step is within has = folded_at (last_view vs).rows names copy x ∙ cond-true (is_in names x) (record_at (last_view vs).rows x) (copy x) (has is)
each_by vs copy n x names false step is within has = folded_at (last_view vs).rows names copy x
    ∙ cond-false (is_in names x) (record_at (last_view vs).rows x) (copy x) (false_from_ne_true (is_in names x) (λ e. both_ways (is_in (drop n (entries vs)) x) is (within e)))
    ∙ step.each x is

-- the copy with the listed items
abbrev after_listed : List View → Copy → List NameEntry → Copy
after_listed vs copy es = fold_page copy (map (item_at (last_view vs).rows) (names_of es))

more_in_step : (vs : List View) (copy : Copy) (n k j : ℕ) → IsInStep copy n vs → last_number n (listed vs n k) ≡ n + j
    → IsInStep (after_listed vs copy (listed vs n k)) (last_number n (listed vs n k)) vs
more_in_step vs copy n k j step is = record {
  within = omega (arith, (last_bound same same-true (drop n (entries vs)) n k).1, length-drop n (entries vs), step.within);
  each = λ x out. by_sight x (subst (λ m. is_in (drop m (entries vs)) x ≡ false) is out);
}
  where
    by_sight : (x : List ℕ) → is_in (drop (n + j) (entries vs)) x ≡ false → after_listed vs copy (listed vs n k) x ≡ record_at (last_view vs).rows x
    by_sight x out = each_by vs copy n x (names_of (listed vs n k)) (is_in (drop n (entries vs)) x) step refl (listed_within same same-true (entries vs) n k x)
        (λ i. listed_has same same-true (drop n (entries vs)) n k j x is i (subst (λ ys. is_in ys x ≡ false) (drop_more same same-true n j (entries vs)) out))

last_in_step : (vs : List View) (copy : Copy) (n k : ℕ) → IsInStep copy n vs → length (rest vs n) ≤ k
    → IsInStep (after_listed vs copy (listed vs n k)) (length (entries vs)) vs
last_in_step vs copy n k step few = record {
  within = omega arith;
  each = λ x out. each_by vs copy n x (names_of (listed vs n k)) (is_in (drop n (entries vs)) x) step refl (listed_within same same-true (entries vs) n k x)
      (λ i. subst (λ es. is_in (names_of es) x ≡ true) (sym (take_all k (rest vs n) few)) (live_all same same-true (suc n) (drop n (entries vs)) x i));
}

page_step : (vs : List View) (copy : Copy) (n k : ℕ) (b : Bool) → IsInStep copy n vs → nat_lt k (length (rest vs n)) ≡ b
    → IsInStep (after_listed vs copy (listed vs n k)) (cond b (last_number n (listed vs n k)) (length (entries vs))) vs
page_step vs copy n k true step is = more_in_step vs copy n k (last_number n (listed vs n k) - n) step (omega (arith, (last_bound same same-true (drop n (entries vs)) n k).0))
page_step vs copy n k false step is = last_in_step vs copy n k step (ltb-false k (length (rest vs n)) is)

-- the page, from its live entries
abbrev page_of_live : List View → ℕ → ℕ → List NameEntry → ZonePage
page_of_live vs n k live = page_from (last_view vs).rows (choice_of live (length (entries vs)) n k)

-- a copy that is in step with n, with the items of the page above n, is in step with the page's number
pub page_in_step : (vs : List View) (copy : Copy) (n k : ℕ) → IsInStep copy n vs → IsInStep (fold_page copy (page vs n k).items) (page vs n k).number vs
page_in_step vs copy n k step = subst (λ live. IsInStep (fold_page copy (page_of_live vs n k live).items) (page_of_live vs n k live).number vs) (sym (live_above-drop same same-true n (entries vs)))
    (page_step vs copy n k (nat_lt k (length (rest vs n))) step refl)

last_step : (vs : List View) (n k : ℕ) (b : Bool) → nat_lt k (length (rest vs n)) ≡ b → b ≡ false → cond b (last_number n (listed vs n k)) (length (entries vs)) ≡ length (entries vs)
last_step vs n k true is e = absurd (both_ways true e refl)
last_step vs n k false is e = refl

-- the number of a page with no more is that of all entries
pub last_page_number : (vs : List View) (n k : ℕ) → (page vs n k).more ≡ false → (page vs n k).number ≡ length (entries vs)
last_page_number vs n k none = subst (λ live. (page_of_live vs n k live).more ≡ false → (page_of_live vs n k live).number ≡ length (entries vs)) (sym (live_above-drop same same-true n (entries vs)))
    (λ e. last_step vs n k (nat_lt k (length (rest vs n))) refl e) none

none_left : (xs : List (List ℕ)) (x : List ℕ) → is_in (drop (length xs) xs) x ≡ false
none_left [] x = refl
none_left (y ∷ ys) x = none_left ys x

-- a copy that is in step with the number of all entries is the last view
pub in_step_is_view : (vs : List View) (copy : Copy) → IsInStep copy (length (entries vs)) vs → (x : List ℕ) → copy x ≡ record_at (last_view vs).rows x
in_step_is_view vs copy step x = step.each x (none_left (entries vs) x)

-- where no more follows, the copy with the page's items is the last view
pub page_is_view : (vs : List View) (copy : Copy) (n k : ℕ) → IsInStep copy n vs → (page vs n k).more ≡ false → (x : List ℕ) → fold_page copy (page vs n k).items x ≡ record_at (last_view vs).rows x
page_is_view vs copy n k step none = in_step_is_view vs (fold_page copy (page vs n k).items)
    (subst (λ m. IsInStep (fold_page copy (page vs n k).items) m vs) (last_page_number vs n k none) (page_in_step vs copy n k step))

-- a page keeps its limit
pub page_within : (vs : List View) (n k : ℕ) → length (page vs n k).items ≤ k
page_within vs n k = omega (arith, length-map (choice same (entries vs) n k).names (item_at (last_view vs).rows), chosen_within same same-true (entries vs) n k)

-- and goes on where more follows
pub page_onward : (vs : List View) (n k : ℕ) → 0 < k → (page vs n k).more ≡ true → n < (page vs n k).number
page_onward vs n k some more = chosen_onward same same-true (entries vs) n k some more
