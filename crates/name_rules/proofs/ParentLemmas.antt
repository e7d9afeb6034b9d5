-- As many steps upward as there are links find all that is at or above a name, in a ring too.
use Rattle.std.proofs.Common.{◌≡◌, ℕ, zero, suc, ◌<◌, ◌≤◌, List, [], ◌∷◌, Bool, true, false, cond, not, refl, sym, ap, ◌∙◌, subst, arith, Some, None, Option, length, inl, inr, ⊎_elim}
use Rattle.std.specs.Prelude.{◌⊎◌, option_and_then, find, filter}
use Rattle.std.specs.Option.{option_map_or}
use Rattle.std.proofs.lemmas.Bool.{both_ways, or_cases, or_left, or_right, cond-false}
use Rattle.name_rules.specs.Names.{same, is_in}
use Rattle.name_rules.specs.Parents.{Link, parent_of, IsAbove, here, up, upward, is_above}
use Rattle.name_rules.proofs.NameLemmas.{same-true, same-refl, same-sym_false}

abbrev link_at : List Link → List ℕ → Option Link
link_at z x = find (λ (l : Link). same x l.0) z

abbrev without : List Link → List ℕ → List Link
without z x = filter (λ (l : Link). not (same x l.0)) z

at_start : (z : List Link) (a x : List ℕ) → same a x ≡ true → IsAbove z a x
at_start z a x e = here x (same-true a x e)

from_parent : (n : ℕ) (z : List Link) (a x : List ℕ) (o : Option (List ℕ)) → ((p : List ℕ) → is_in (upward n z p) a ≡ true → IsAbove z a p)
    → parent_of z x ≡ o → is_in (option_map_or (upward n z) o []) a ≡ true → IsAbove z a x
from_parent n z a x None above is e = absurd (both_ways false refl e)
from_parent n z a x (Some p) above is e = up x p is (above p e)

-- what the steps find is at or above the name
pub above_from_upward : (n : ℕ) (z : List Link) (a x : List ℕ) → is_in (upward n z x) a ≡ true → IsAbove z a x
above_from_upward zero z a x e = ⊎_elim
    (λ (s : same a x ≡ true). at_start z a x s)
    (λ (n : false ≡ true). absurd (both_ways false refl n))
    (or_cases (same a x) false e)
above_from_upward (suc n) z a x e = ⊎_elim
    (λ (s : same a x ≡ true). at_start z a x s)
    (λ (m : is_in (option_map_or (upward n z) (parent_of z x) []) a ≡ true). from_parent n z a x (parent_of z x) (λ p i. above_from_upward n z a p i) refl m)
    (or_cases (same a x) (is_in (option_map_or (upward n z) (parent_of z x) []) a) e)

-- ---- the links without one name

gone_there_step : (b : Bool) (z : List Link) (r : Link) (x : List ℕ) → same x r.0 ≡ b → link_at (without z x) x ≡ None → link_at (cond (not b) (r ∷ without z x) (without z x)) x ≡ None
gone_there_step true z r x is ih = ih
gone_there_step false z r x is ih = cond-false (same x r.0) (Some r) (link_at (without z x) x) is ∙ ih

link_at-without : (z : List Link) (x : List ℕ) → link_at (without z x) x ≡ None
link_at-without [] x = refl
link_at-without (r ∷ z) x = gone_there_step (same x r.0) z r x refl (link_at-without z x)

other_step : (b : Bool) (z : List Link) (r : Link) (x y : List ℕ) → same x r.0 ≡ b → same x y ≡ false → link_at (without z x) y ≡ link_at z y
    → link_at (cond (not b) (r ∷ without z x) (without z x)) y ≡ link_at (r ∷ z) y
other_step true z r x y is ne ih = ih ∙ sym (cond-false (same y r.0) (Some r) (link_at z y) (subst (λ w. same y w ≡ false) (same-true x r.0 is) (same-sym_false x y ne)))
other_step false z r x y is ne ih = ap (λ o. cond (same y r.0) (Some r) o) ih

link_at-without_other : (z : List Link) (x y : List ℕ) → same x y ≡ false → link_at (without z x) y ≡ link_at z y
link_at-without_other [] x y ne = refl
link_at-without_other (r ∷ z) x y ne = other_step (same x r.0) z r x y refl ne (link_at-without_other z x y ne)

parent_kept_step : (b : Bool) (z : List Link) (x y q : List ℕ) → same x y ≡ b → parent_of (without z x) y ≡ Some q → parent_of z y ≡ Some q
parent_kept_step true z x y q is e = absurd (both_ways false refl
    (ap (λ (o : Option (List ℕ)). option_map_or (λ _. true) o false) (ap (option_and_then (λ (r : Link). r.1)) (sym (link_at-without z x)) ∙ subst (λ w. parent_of (without z x) w ≡ Some q) (sym (same-true x y is)) e)))
parent_kept_step false z x y q is e = ap (option_and_then (λ (r : Link). r.1)) (sym (link_at-without_other z x y is)) ∙ e

parent_kept : (z : List Link) (x y q : List ℕ) → parent_of (without z x) y ≡ Some q → parent_of z y ≡ Some q
parent_kept z x y q e = parent_kept_step (same x y) z x y q refl e

length_step : (b : Bool) (z : List Link) (r : Link) (x : List ℕ) → same x r.0 ≡ b → length (without z x) ≤ length z → length (cond (not b) (r ∷ without z x) (without z x)) ≤ suc (length z)
length_step true z r x is ih = omega (arith, ih)
length_step false z r x is ih = omega (arith, ih)

length-without : (z : List Link) (x : List ℕ) → length (without z x) ≤ length z
length-without [] x = omega arith
length-without (r ∷ z) x = length_step (same x r.0) z r x refl (length-without z x)

shorter_step : (b : Bool) (z : List Link) (r : Link) (x p : List ℕ) → same x r.0 ≡ b → (parent_of z x ≡ Some p → length (without z x) < length z)
    → option_and_then (λ (q : Link). q.1) (cond b (Some r) (link_at z x)) ≡ Some p → length (cond (not b) (r ∷ without z x) (without z x)) < suc (length z)
shorter_step true z r x p is ih e = omega (arith, length-without z x)
shorter_step false z r x p is ih e = omega (arith, ih e)

-- a name that has a parent has a link
shorter : (z : List Link) (x p : List ℕ) → parent_of z x ≡ Some p → length (without z x) < length z
shorter [] x p e = absurd (both_ways false refl (ap (λ o. option_map_or (λ _. true) o false) e))
shorter (r ∷ z) x p e = shorter_step (same x r.0) z r x p refl (λ f. shorter z x p f) e

-- ---- a way upward that passes x goes on from its last pass without x's link

abbrev PassesOnce : List Link → List ℕ → List ℕ → Type 0
PassesOnce z a x = (p : List ℕ) × (parent_of z x ≡ Some p) × IsAbove (without z x) a p

last_pass_step : (b : Bool) (z : List Link) (a x y p : List ℕ) → same x y ≡ b → parent_of z y ≡ Some p → IsAbove (without z x) a p ⊎ PassesOnce z a x → IsAbove (without z x) a y ⊎ PassesOnce z a x
last_pass_step true z a x y p is e (inl above) = inr (p, subst (λ w. parent_of z w ≡ Some p) (sym (same-true x y is)) e, above)
last_pass_step false z a x y p is e (inl above) = inl (up y p (ap (option_and_then (λ (r : Link). r.1)) (link_at-without_other z x y is) ∙ e) above)
last_pass_step b z a x y p is e (inr once) = inr once

last_pass : (z : List Link) (a x y : List ℕ) → IsAbove z a y → IsAbove (without z x) a y ⊎ PassesOnce z a x
last_pass z a x _ (here y e) = inl (here y e)
last_pass z a x _ (up y p e above) = last_pass_step (same x y) z a x y p refl e (last_pass z a x p above)

-- ---- the steps find all

upward_grows_option : (n : ℕ) (z w : List Link) (a : List ℕ) (o : Option (List ℕ)) (x : List ℕ) → ((p : List ℕ) → parent_of w x ≡ Some p → parent_of z x ≡ Some p) → ((p : List ℕ) → is_in (upward n w p) a ≡ true → is_in (upward n z p) a ≡ true)
    → parent_of w x ≡ o → is_in (option_map_or (upward n w) o []) a ≡ true → is_in (option_map_or (upward n z) (parent_of z x) []) a ≡ true
upward_grows_option n z w a None x kept ih is e = absurd (both_ways false refl e)
upward_grows_option n z w a (Some p) x kept ih is e = subst (λ o. is_in (option_map_or (upward n z) o []) a ≡ true) (sym (kept p is)) (ih p e)

upward_grows : (n : ℕ) (z w : List Link) (a x : List ℕ) → ((y p : List ℕ) → parent_of w y ≡ Some p → parent_of z y ≡ Some p) → is_in (upward n w x) a ≡ true → is_in (upward n z x) a ≡ true
upward_grows zero z w a x kept e = e
upward_grows (suc n) z w a x kept e = ⊎_elim
    (λ (s : same a x ≡ true). or_left (same a x) (is_in (option_map_or (upward n z) (parent_of z x) []) a) s)
    (λ (m : is_in (option_map_or (upward n w) (parent_of w x) []) a ≡ true). or_right (same a x) (is_in (option_map_or (upward n z) (parent_of z x) []) a)
    (upward_grows_option n z w a (parent_of w x) x (kept x) (λ p i. upward_grows n z w a p kept i) refl m))
    (or_cases (same a x) (is_in (option_map_or (upward n w) (parent_of w x) []) a) e)

starts : (n : ℕ) (z : List Link) (a : List ℕ) → is_in (upward n z a) a ≡ true
starts zero z a = or_left (same a a) false (same-refl a)
starts (suc n) z a = or_left (same a a) (is_in (option_map_or (upward n z) (parent_of z a) []) a) (same-refl a)

by_pass : (n : ℕ) (z : List Link) (a x : List ℕ) → length z ≤ n → ((m : ℕ) → suc m ≡ n → (w : List Link) (p : List ℕ) → length w ≤ m → IsAbove w a p → is_in (upward m w p) a ≡ true)
    → PassesOnce z a x → is_in (upward n z x) a ≡ true
by_pass zero z a x few ih once = absurd (omega (arith, few, shorter z x once.0 once.1))
by_pass (suc n) z a x few ih once = or_right (same a x) (is_in (option_map_or (upward n z) (parent_of z x) []) a)
    (subst (λ o. is_in (option_map_or (upward n z) o []) a ≡ true) (sym once.1)
    (upward_grows n z (without z x) a once.0 (λ y p e. parent_kept z x y p e) (ih n refl (without z x) once.0 (omega (arith, few, shorter z x once.0 once.1)) once.2)))

once_at : (z : List Link) (a x p : List ℕ) → parent_of z x ≡ Some p → IsAbove (without z x) a p ⊎ PassesOnce z a x → PassesOnce z a x
once_at z a x p e (inl above) = (p, e, above)
once_at z a x p e (inr once) = once

upward_from_above : (n : ℕ) (z : List Link) (a x : List ℕ) → length z ≤ n → IsAbove z a x → is_in (upward n z x) a ≡ true
upward_from_above n z a _ few (here x e) = subst (λ w. is_in (upward n z w) a ≡ true) e (starts n z a)
upward_from_above zero z a _ few (up x p e above) = absurd (omega (arith, few, shorter z x p e))
upward_from_above (suc n) z a _ few (up x p e above) = by_pass (suc n) z a x few
    (λ m is w q short over. subst (λ k. is_in (upward k w q) a ≡ true) (omega (arith, is)) (upward_from_above n w a q (omega (arith, is, short)) over))
    (once_at z a x p e (last_pass z a x p above))

-- the test and the relation say the same
pub is_above_from : (z : List Link) (a x : List ℕ) → IsAbove z a x → is_above z a x ≡ true
is_above_from z a x above = upward_from_above (length z) z a x (omega arith) above

pub is_above_gives : (z : List Link) (a x : List ℕ) → is_above z a x ≡ true → IsAbove z a x
is_above_gives z a x e = above_from_upward (length z) z a x e
