-- The nearest that is seen, by the puts that make records.
use Rattle.std.proofs.Common.{◌≡◌, ℕ, zero, suc, ◌<◌, ◌≤◌, ◌-◌, arith, List, [], ◌∷◌, Bool, true, false, cond, not, refl, sym, ap, ◌∙◌, subst, Some, None, Option, inl, inr, length, map}
use Rattle.std.specs.Prelude.{◌⊎◌, find, option_and_then, is_some, if◌then◌else◌}
use Rattle.std.specs.Option.{option_map_or}
use Rattle.std.proofs.lemmas.Bool.{both_ways, or_cases}
use Rattle.name_rules.specs.Options.{is_some_and}
use Rattle.name_rules.specs.Parents.{Link, IsAbove, here, up, upward, parent_of}
use Rattle.name_rules.proofs.NameLemmas.{same-true}
use Rattle.name_rules.proofs.ParentLemmas.{is_above_from}
use Rattle.zone_model.specs.Names.{same, is_in}
use Rattle.zone_model.specs.Ancestry.{parent_at}
use Rattle.zone_model.specs.Coverage.{may_write}
use Rattle.zone_model.specs.Requests.{Caller, NamedOp, is_deletion, makes_new, new_parent, puts_in}
use Rattle.record_model.specs.declared.records.Record.{Record}
use Rattle.zone_model.specs.declared.operations.Past.{Past}
use Rattle.zone_model.specs.Records.{record_at, is_there}
use Rattle.zone_model.specs.Working.{working_view}
use Rattle.zone_laws.proofs.JudgeLaws.{there-found}
use Rattle.zone_judging.proofs.WorkingLemmas.{parent_by, parent_told}
use Rattle.zone_judging.proofs.WayLemmas.{in_more, same_length, few_some}
use Rattle.zone_model.specs.Grounds.{Grounds, grounds_of, is_seen, is_writable}
use Rattle.zone_laws.specs.Writable.{IsNearestSeen, itself, above}
use Rattle.zone_laws.proofs.WritableLaws.{nearest-found, writable-so}
use Rattle.zone_judging.specs.Made.{first_put, maker, made_parent, made_link, made_links}

link_step : (s : Bool) (p : NamedOp) (o : Option Link) (w : Option NamedOp)
    → option_and_then (λ (l : Link). l.1) o ≡ option_and_then (λ (q : NamedOp). if makes_new q.kind then new_parent q.draft else None) w
    → option_and_then (λ (l : Link). l.1) (cond s (Some (made_link p)) o) ≡ option_and_then (λ (q : NamedOp). if makes_new q.kind then new_parent q.draft else None) (cond s (Some p) w)
link_step true p o w ih = refl
link_step false p o w ih = ih

links_tell : (ps : List NamedOp) (x : List ℕ) → parent_of (map made_link ps) x ≡ option_and_then (λ (q : NamedOp). if makes_new q.kind then new_parent q.draft else None) (find (λ (q : NamedOp). same x q.name) ps)
links_tell [] x = refl
links_tell (p ∷ ps) x = link_step (same x p.name) p _ _ (links_tell ps x)

only_made : (b : Bool) (p : NamedOp) → (if b then new_parent p.draft else None) ≡ option_and_then (λ (q : NamedOp). new_parent q.draft) (if b then Some p else None)
only_made true p = refl
only_made false p = refl

first_made : (o : Option NamedOp) → option_and_then (λ (q : NamedOp). if makes_new q.kind then new_parent q.draft else None) o
    ≡ option_and_then (λ (q : NamedOp). new_parent q.draft) (option_and_then (λ (q : NamedOp). if makes_new q.kind then Some q else None) o)
first_made None = refl
first_made (Some p) = only_made (makes_new p.kind) p

pub made_told : (ops : List NamedOp) (x : List ℕ) → parent_of (made_links ops) x ≡ made_parent ops x
made_told ops x = links_tell (puts_in ops) x ∙ first_made (first_put ops x)

not_some : {X : Type 0} (x : X) → None ≡ Some x → ⊥
not_some x e = both_ways false refl (ap (λ o. option_map_or (λ _. true) o false) e)

-- ops are those of the working view of the grounds, as far as parents of unseen names go
module _ (g : Grounds) (links : List Link) (alike : (y : List ℕ) → is_seen g y ≡ false → parent_of links y ≡ parent_at g.working y) where
  above_by : (z x : List ℕ) → IsNearestSeen g z x → IsAbove links z x
  above_by z x (itself _ e _) = here x e
  above_by z x (above _ p unseen at rest) = up x p (alike x unseen ∙ at) (above_by z p rest)

  seen_by : (z x : List ℕ) → IsNearestSeen g z x → is_seen g z ≡ true
  seen_by z x (itself _ e seen) = subst (λ n. is_seen g n ≡ true) (sym e) seen
  seen_by z x (above _ p _ _ rest) = seen_by z p rest

  found_at : (b : Bool) (x z : List ℕ) (rest : Option (List ℕ)) → is_seen g x ≡ b → (is_seen g x ≡ false → rest ≡ Some z → IsNearestSeen g z x) → cond b (Some x) rest ≡ Some z → IsNearestSeen g z x
  found_at true x z rest is more e = itself x (ap (λ (o : Option (List ℕ)). option_map_or (λ n. n) o x) (sym e)) is
  found_at false x z rest is more e = more is e

  found_above : (n : ℕ) (x z : List ℕ) (o : Option (List ℕ)) → ((p : List ℕ) → find (is_seen g) (upward n links p) ≡ Some z → IsNearestSeen g z p)
      → is_seen g x ≡ false → parent_of links x ≡ o → find (is_seen g) (option_map_or (upward n links) o []) ≡ Some z → IsNearestSeen g z x
  found_above n x z None more unseen at e = absurd (not_some z e)
  found_above n x z (Some p) more unseen at e = above x p unseen (sym (alike x unseen) ∙ at) (more p e)

  found_nearest : (n : ℕ) (x z : List ℕ) → find (is_seen g) (upward n links x) ≡ Some z → IsNearestSeen g z x
  found_nearest zero x z e = found_at (is_seen g x) x z None refl (λ _ f. absurd (not_some z f)) e
  found_nearest (suc n) x z e = found_at (is_seen g x) x z (find (is_seen g) (option_map_or (upward n links) (parent_of links x) [])) refl
      (λ unseen f. found_above n x z (parent_of links x) (λ p. found_nearest n p z) unseen refl f) e

  none_by : (b : Bool) (names : List (List ℕ)) (x y : List ℕ) → is_seen g x ≡ b → is_seen g y ≡ true → (is_in names y ≡ true → find (is_seen g) names ≡ None → ⊥)
      → (same y x ≡ true) ⊎ (is_in names y ≡ true) → cond b (Some x) (find (is_seen g) names) ≡ None → ⊥
  none_by true names x y is seen rest which e = not_some x (sym e)
  none_by false names x y is seen rest (inl one) e = both_ways (is_seen g x) is (subst (λ n. is_seen g n ≡ true) (same-true y x one) seen)
  none_by false names x y is seen rest (inr more) e = rest more e

  some_found : (names : List (List ℕ)) (y : List ℕ) → is_in names y ≡ true → is_seen g y ≡ true → find (is_seen g) names ≡ None → ⊥
  some_found [] y there seen e = both_ways false refl there
  some_found (x ∷ names) y there seen e = none_by (is_seen g x) names x y refl seen (λ more. some_found names y more seen) (or_cases (same y x) (is_in names y) there) e

  module _ (n : ℕ) (few : length links ≤ n) where
    never : (b : Bool) (x : List ℕ) → find (is_seen g) (upward n links x) ≡ None → is_writable g x ≡ b → b ≡ false
    never false x none is = refl
    never true x none is =
        let so = writable-so g x is in
        absurd (some_found (upward n links x) so.nearest (in_more (length links) n links so.nearest x few (is_above_from links so.nearest x (above_by so.nearest x so.is))) (seen_by so.nearest x so.is) none)

    writable_by : (o : Option (List ℕ)) (x : List ℕ) → find (is_seen g) (upward n links x) ≡ o → is_some_and (may_write g.seen g.caller.user) o ≡ is_writable g x
    writable_by None x is = sym (never (is_writable g x) x is refl)
    writable_by (Some z) x is = ap (is_some_and (may_write g.seen g.caller.user)) (sym (nearest-found g z x (found_nearest n x z is)))

    pub writable_found : (x : List ℕ) → is_some_and (may_write g.seen g.caller.user) (find (is_seen g) (upward n links x)) ≡ is_writable g x
    writable_found x = writable_by (find (is_seen g) (upward n links x)) x refl

-- ---- with the puts of a request

none_from : (o : Option Record) → is_some o ≡ false → o ≡ None
none_from None e = refl
none_from (Some r) e = absurd (both_ways true e refl)

alike_by : (c : Caller) (pasts : List Past) (seen : List Record) (ops : List NamedOp) (y : List ℕ) → is_there seen y ≡ false → parent_of (made_links ops) y ≡ parent_at (working_view c.scope seen ops) y
alike_by c pasts seen ops y e = made_told ops y ∙ sym (parent_told c.scope seen ops y ∙ ap (λ o. parent_by o (maker ops y)) (none_from (record_at seen y) (sym (there-found seen y) ∙ e)))

few_links : {X : Type 0} (f : X → NamedOp) (ops : List X) → length (made_links (map f ops)) ≤ length ops
few_links f ops =
    let linked : length (made_links (map f ops)) ≡ length (puts_in (map f ops)) = same_length {Y = Link} made_link (puts_in (map f ops)) in
    let some : length (puts_in (map f ops)) ≤ length (map f ops) = few_some (λ (op : NamedOp). not (is_deletion op.kind)) (map f ops) in
    omega (arith, linked, some, same_length f ops)

pub writable_told : {X : Type 0} (f : X → NamedOp) (c : Caller) (pasts : List Past) (seen : List Record) (ops : List X) (x : List ℕ)
    → is_some_and (may_write seen c.user) (find (is_there seen) (upward (length ops) (made_links (map f ops)) x)) ≡ is_writable (grounds_of c pasts seen (map f ops)) x
writable_told f c pasts seen ops x = writable_found (grounds_of c pasts seen (map f ops)) (made_links (map f ops)) (alike_by c pasts seen (map f ops)) (length ops) (few_links f ops) x

-- ---- one step upward

pub near_met : (rows : List Record) (ops : List NamedOp) (n : ℕ) (at : List ℕ) → is_there rows at ≡ true → find (is_there rows) (upward n (made_links ops) at) ≡ Some at
near_met rows ops zero at e = ap (λ b. cond b (Some at) None) e
near_met rows ops (suc n) at e = ap (λ b. cond b (Some at) (find (is_there rows) (option_map_or (upward n (made_links ops)) (parent_of (made_links ops) at) []))) e

pub near_ended : (rows : List Record) (ops : List NamedOp) (n : ℕ) (at : List ℕ) → is_there rows at ≡ false → made_parent ops at ≡ None → find (is_there rows) (upward n (made_links ops) at) ≡ None
near_ended rows ops zero at e none = ap (λ b. cond b (Some at) None) e
near_ended rows ops (suc n) at e none = ap (λ b. cond b (Some at) (find (is_there rows) (option_map_or (upward n (made_links ops)) (parent_of (made_links ops) at) []))) e
    ∙ ap (λ o. find (is_there rows) (option_map_or (upward n (made_links ops)) o [])) (made_told ops at ∙ none)

pub near_goes_on : (rows : List Record) (ops : List NamedOp) (n : ℕ) (at p : List ℕ) → 0 < n → is_there rows at ≡ false → made_parent ops at ≡ Some p
    → find (is_there rows) (upward n (made_links ops) at) ≡ find (is_there rows) (upward (n - 1) (made_links ops) p)
near_goes_on rows ops zero at p some e is = absurd (omega (arith, some))
near_goes_on rows ops (suc n) at p some e is =
    let one : n ≡ suc n - 1 = omega arith in
    ap (λ b. cond b (Some at) (find (is_there rows) (option_map_or (upward n (made_links ops)) (parent_of (made_links ops) at) []))) e
    ∙ ap (λ o. find (is_there rows) (option_map_or (upward n (made_links ops)) o [])) (made_told ops at ∙ is)
    ∙ ap (λ k. find (is_there rows) (upward k (made_links ops) p)) one

pub near_last : (rows : List Record) (ops : List NamedOp) (n : ℕ) (at : List ℕ) → n ≡ 0 → find (is_there rows) (upward n (made_links ops) at) ≡ (if is_there rows at then Some at else None)
near_last rows ops n at none = ap (λ k. find (is_there rows) (upward k (made_links ops) at)) none
