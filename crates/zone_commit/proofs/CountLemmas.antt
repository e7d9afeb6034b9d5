-- Writes in ascending order of names put each name once.
use Rattle.std.proofs.Common.{◌≡◌, ◌+◌, ℕ, List, [], ◌∷◌, Bool, true, false, cond, ◌||◌, refl, sym, ap, ◌∙◌, subst, map, zero-add}
use Rattle.std.specs.Prelude.{count_by, if◌then◌else◌}
use Rattle.std.specs.List.{list_all, list_any}
use Rattle.std.proofs.lemmas.List.Sums.{sum_by-cons}
use Rattle.std.proofs.lemmas.Bool.{both_ways, and_parts, false_from_ne_true}
use Rattle.ck_base.specs.Order.{is_before}
use Rattle.zone_model.specs.declared.commits.Write.{Write}
use Rattle.zone_model.specs.declared.commits.Write.TheVariants.{Put, Remove, PutRemove}
use Rattle.zone_model.specs.Names.{same}
use Rattle.zone_model.specs.Form.{are_in_order}
use Rattle.zone_model.specs.Zones.{written_name, puts_name}
use Rattle.name_rules.proofs.NameLemmas.{same-true, before-irrefl}

count-cons : {X : Type 0} (p : X → Bool) (x : X) (xs : List X) → count_by p (x ∷ xs) ≡ cond (p x) 1 0 + count_by p xs
count-cons p x xs = sum_by-cons (λ y. cond (p y) 1 0) x xs

puts-named : (x : List ℕ) (w : Write) → puts_name x w ≡ true → same x (written_name w) ≡ true
puts-named x (Put r) e = e
puts-named x (Remove y) e = absurd (both_ways false refl e)
puts-named x (PutRemove y) e = e

not_put : (x k : List ℕ) (w : Write) → same x k ≡ true → is_before k (written_name w) ≡ true → puts_name x w ≡ false
not_put x k w is before = false_from_ne_true (puts_name x w) (λ e.
    both_ways (is_before k k) (before-irrefl k)
    (subst (λ y. is_before k y ≡ true) (sym (same-true x (written_name w) (puts-named x w e)) ∙ same-true x k is) before))

none_later : (x k : List ℕ) (ws : List Write) → same x k ≡ true → list_all (is_before k) (map written_name ws) ≡ true → (count_by (puts_name x) ws ≡ 0) × (list_any (puts_name x) ws ≡ false)
none_later x k [] is all = (refl, refl)
none_later x k (w ∷ ws) is all =
    let parts = and_parts (is_before k (written_name w)) _ all in
    let here : puts_name x w ≡ false = not_put x k w is parts.0 in
    let later = none_later x k ws is parts.1 in
    (count-cons (puts_name x) w ws ∙ ap (λ b. cond b 1 0 + count_by (puts_name x) ws) here ∙ zero-add (count_by (puts_name x) ws) ∙ later.0, ap (λ b. b || list_any (puts_name x) ws) here ∙ later.1)

counted_step : (b : Bool) (x : List ℕ) (w : Write) (ws : List Write) → puts_name x w ≡ b → list_all (is_before (written_name w)) (map written_name ws) ≡ true
    → count_by (puts_name x) ws ≡ cond (list_any (puts_name x) ws) 1 0 → cond b 1 0 + count_by (puts_name x) ws ≡ cond (b || list_any (puts_name x) ws) 1 0
counted_step true x w ws is all ih = ap (λ n. 1 + n) (none_later x (written_name w) ws (puts-named x w is) all).0
counted_step false x w ws is all ih = zero-add (count_by (puts_name x) ws) ∙ ih

-- each name is put once or not at all
pub counted-once : (ws : List Write) (x : List ℕ) → are_in_order ws ≡ true → count_by (puts_name x) ws ≡ (if list_any (puts_name x) ws then 1 else 0)
counted-once [] x ordered = refl
counted-once (w ∷ ws) x ordered =
    let parts = and_parts (list_all (is_before (written_name w)) (map written_name ws)) _ ordered in
    count-cons (puts_name x) w ws ∙ counted_step (puts_name x w) x w ws refl parts.0 (counted-once ws x parts.1)
