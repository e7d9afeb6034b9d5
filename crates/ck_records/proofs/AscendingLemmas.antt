-- Names ascend where each stands before the next.
use Rattle.std.proofs.Common.{◌≡◌, ℕ, ◌+◌, ◌-◌, ◌<◌, ◌≤◌, Bool, true, false, ◌&&◌, List, [], ◌∷◌, map, length, drop, get_or, refl, sym, ap, ◌∙◌, arith}
use Rattle.std.specs.List.{list_all}
use Rattle.std.specs.Ordering.{nat_cmp, is_lt, is_le}
use Rattle.std.specs.Cmp.Lexicographic.{slice_cmp}
use Rattle.std.specs.BTreeMap.Comparable.{le_lt_trans}
use Rattle.std.proofs.lemmas.Bool.{and_parts, and_from}
use Rattle.std.proofs.lemmas.Cmp.{nat_list_cmp_total}
use Rattle.std.proofs.lemmas.List.{drop_more, length-drop}
use Rattle.ck_base.specs.Order.{is_before, are_ascending}
use Rattle.ck_records.proofs.ObjectLemmas.{is_less}
use Rattle.share_records.specs.declared.participant.Participant.{Participant}

-- each stands before the next
abbrev pub rises : List (List ℕ) → Bool
rises [] = true
rises (x ∷ []) = true
rises (x ∷ y ∷ ys) = is_before x y && rises (y ∷ ys)

before_more : (x y z : List ℕ) → is_before x y ≡ true → is_before y z ≡ true → is_before x z ≡ true
before_more x y z xy yz = ap is_lt (le_lt_trans nat_list_cmp_total x y z (ap is_le (is_less (slice_cmp nat_cmp x y) xy)) (is_less (slice_cmp nat_cmp y z) yz))

before_all : (x y : List ℕ) (ys : List (List ℕ)) → is_before x y ≡ true → list_all (is_before y) ys ≡ true → list_all (is_before x) ys ≡ true
before_all x y [] xy all = refl
before_all x y (z ∷ zs) xy all =
    let parts = and_parts (is_before y z) _ all in
    and_from (is_before x z) _ (before_more x y z xy parts.0) (before_all x y zs xy parts.1)

pub ascending-rises : (xs : List (List ℕ)) → are_ascending xs ≡ rises xs
ascending-rises [] = refl
ascending-rises (x ∷ []) = refl
ascending-rises (x ∷ y ∷ ys) = by (is_before x y) (list_all (is_before x) ys) (list_all (is_before y) ys) (are_ascending ys) refl refl (λ xy all. before_all x y ys xy all) ∙ ap (λ b. is_before x y && b) (ascending-rises (y ∷ ys)) where
  by : (first firsts seconds rest : Bool) → is_before x y ≡ first → list_all (is_before x) ys ≡ firsts → (is_before x y ≡ true → seconds ≡ true → list_all (is_before x) ys ≡ true)
      → ((first && firsts) && (seconds && rest)) ≡ (first && (seconds && rest))
  by false firsts seconds rest xy all more = refl
  by true true seconds rest xy all more = refl
  by true false true rest xy all more = absurd (cc (all, more xy refl))
  by true false false rest xy all more = refl

abbrev pub users : List Participant → List (List ℕ)
users ps = map (λ (p : Participant). p.user) ps

module _ (ps : List Participant) (place : ℕ) (p q : Participant) (some : 1 ≤ place) (within : place < length ps) (is_p : p ≡ get_or ps (place - 1) p) (is_q : q ≡ get_or ps place q) where
  later : drop place ps ≡ q ∷ drop (place + 1) ps
  later = drop_more ps place q within ∙ ap (λ x. x ∷ drop (place + 1) ps) (sym is_q)

  two : drop (place - 1) ps ≡ p ∷ q ∷ drop (place + 1) ps
  two =
      let next : place - 1 + 1 ≡ place = omega (arith, some) in
      drop_more ps (place - 1) p (omega (arith, some, within)) ∙ ap (λ x. x ∷ drop (place - 1 + 1) ps) (sym is_p)
      ∙ ap (λ n. p ∷ drop n ps) next ∙ ap (λ xs. p ∷ xs) later

  -- the next stands behind
  pub rises_on : is_before p.user q.user ≡ true → rises (users (drop (place - 1) ps)) ≡ rises (users (drop place ps))
  rises_on before =
      ap (λ xs. rises (users xs)) two ∙ ap (λ b. b && rises (users (q ∷ drop (place + 1) ps))) before ∙ ap (λ xs. rises (users xs)) (sym later)

  -- the next does not stand behind
  pub rises_no_more : is_before p.user q.user ≡ false → rises (users (drop (place - 1) ps)) ≡ false
  rises_no_more before = ap (λ xs. rises (users xs)) two ∙ ap (λ b. b && rises (users (q ∷ drop (place + 1) ps))) before

-- nothing stands behind
pub rises_end : (ps : List Participant) (place : ℕ) → length ps ≤ place → rises (users (drop (place - 1) ps)) ≡ true
rises_end ps place short = one_rises (drop (place - 1) ps) (omega (arith, short, length-drop (place - 1) ps)) where
  one_rises : (qs : List Participant) → length qs ≤ 1 → rises (users qs) ≡ true
  one_rises [] few = refl
  one_rises (p ∷ []) few = refl
  one_rises (p ∷ q ∷ qs) few = absurd (omega arith)
