-- What of the working view passes a test: what is tied as it is seen, or what a put leaves.
use Rattle.std.proofs.Common.{◌≡◌, ℕ, List, [], ◌∷◌, Bool, true, false, cond, not, ◌&&◌, ◌||◌, refl, sym, ap, ◌∙◌, subst, Some, None, Option, ⊎_elim, map}
use Rattle.std.specs.Prelude.{◌⊎◌, option_map, option_and_then}
use Rattle.std.specs.Option.{option_map_or}
use Rattle.std.specs.List.{list_any}
use Rattle.std.specs.Cmp.{both_ways as iff}
use Rattle.std.proofs.lemmas.Bool.{both_ways, and_parts, and_from, or_cases, or_left, or_right}
use Rattle.std.proofs.lemmas.Option.{same_Some}
use Rattle.ck_base.specs.declared.scope.Scope.{Scope}
use Rattle.record_model.specs.declared.records.Record.{Record}
use Rattle.record_model.specs.declared.value.RefTo.{RefTo}
use Rattle.record_model.specs.declared.value.Value.{Value}
use Rattle.name_rules.specs.Options.{is_some_and}
use Rattle.name_rules.proofs.NameLemmas.{same-true, kept}
use Rattle.zone_model.specs.declared.operations.Past.{Past}
use Rattle.zone_model.specs.Names.{same, is_in}
use Rattle.zone_model.specs.Records.{record_at, IsAscending}
use Rattle.zone_model.specs.References.{has_reference, references_in, deletes_self, goes_with, wants}
use Rattle.zone_model.specs.Requests.{Caller, NamedOp as Named, is_deletion, puts_in, names_deleted}
use Rattle.zone_model.specs.Working.{mark_of, with_puts, working_view}
use Rattle.zone_model.specs.Ancestry.{parent_at}
use Rattle.zone_laws.proofs.AncestryLaws.{parent_of-record}
use Rattle.zone_model.specs.Grounds.{Grounds, grounds_of, names_taken, is_taken_by_deletion}
use Rattle.zone_model.specs.DeletionChecks.{holds_back}
use Rattle.zone_laws.proofs.JudgeLaws.{in-filter}
use Rattle.zone_laws.proofs.MarkLaws.{any-found, any-from}
use Rattle.zone_laws.proofs.RecordLaws.{found-name, same-comm}
use Rattle.zone_laws.proofs.WorkingLaws.{put_at, put_over, found-working}
use Rattle.zone_laws.proofs.AfterLaws.{ascending-working}
use Rattle.zone_judging.specs.declared.ties.Tie.{Tie}
use Rattle.zone_judging.specs.Ties.{is_tied}
use Rattle.zone_judging.specs.Holding.{needs_at, stays_at, holds_at}

-- a test that passes somewhere gives what each passing gives
any_gives : {X : Type 0} (f : X → Bool) (b : Bool) → ((x : X) → f x ≡ true → b ≡ true) → (xs : List X) → list_any f xs ≡ true → b ≡ true
any_gives f b gives [] e = absurd (both_ways false refl e)
any_gives f b gives (x ∷ xs) e = ⊎_elim (λ (h : f x ≡ true). gives x h) (λ (h : list_any f xs ≡ true). any_gives f b gives xs h) (or_cases (f x) (list_any f xs) e)

no_put : (q : Named) → None ≡ Some q → ⊥
no_put q e = both_ways false refl (ap (λ (o : Option Named). option_map_or (λ _. true) o false) e)

no_record : (r : Record) → None ≡ Some r → ⊥
no_record r e = both_ways false refl (ap (λ (o : Option Record). option_map_or (λ _. true) o false) e)

put_step : (s : Bool) (t : List ℕ → Bool) (p q : Named) (ps : List Named) (x : List ℕ) → same x p.name ≡ s → t x ≡ true → (put_at ps x ≡ Some q → list_any (λ (p : Named). t p.name) ps ≡ true) → cond s (Some p) (put_at ps x) ≡ Some q
    → (t p.name || list_any (λ (p : Named). t p.name) ps) ≡ true
put_step true t p q ps x is e more at = or_left (t p.name) _ (subst (λ y. t y ≡ true) (same-true x p.name is) e)
put_step false t p q ps x is e more at = or_right (t p.name) _ (more at)

any_put : (t : List ℕ → Bool) (ps : List Named) (x : List ℕ) (q : Named) → t x ≡ true → put_at ps x ≡ Some q → list_any (λ (p : Named). t p.name) ps ≡ true
any_put t [] x q e at = absurd (no_put q at)
any_put t (p ∷ ps) x q e at = put_step (same x p.name) t p q ps x refl e (any_put t ps x q e) at

-- The test t of what stands in the working view, which passes only where one of two tests passes of what is seen there, marks aside.
module _ (scope : Scope) (seen : List Record) (ops : List Named) (t one two : Record → Bool) (up : IsAscending (working_view scope seen ops))
    (cover : (r : Record) (mark : Option (List ℕ)) → t (record r { share = mark }) ≡ true → (one r ≡ true) ⊎ (two r ≡ true)) where
  abbrev stands : List ℕ → Bool
  stands x = is_some_and t (record_at (working_view scope seen ops) x)

  abbrev by_put : Bool
  by_put = list_any (λ (p : Named). stands p.name) (puts_in ops)

  abbrev as_seen : (Record → Bool) → Bool
  as_seen c = list_any (λ (r : Record). c r && stands r.name) seen

  seen_by : (c : Record → Bool) (x : List ℕ) (v : Record) → record_at seen x ≡ Some v → stands x ≡ true → c v ≡ true → as_seen c ≡ true
  seen_by c x v at e h = any-from (λ (r : Record). c r && stands r.name) seen x v at
      (and_from (c v) (stands v.name) h (subst (λ y. stands y ≡ true) (same-true x v.name (found-name seen x v at)) e))

  unput : (o : Option Record) (x : List ℕ) (w : Record) → record_at seen x ≡ o → record_at (working_view scope seen ops) x ≡ Some w → t w ≡ true
      → option_map (λ (r : Record). record r { share = mark_of scope seen ops (with_puts seen ops) r }) o ≡ Some w
      → (as_seen one || (as_seen two || by_put)) ≡ true
  unput None x w at is e same_row = absurd (no_record w same_row)
  unput (Some v) x w at is e same_row =
      let mark = mark_of scope seen ops (with_puts seen ops) v in
      let passes : stands x ≡ true = ap (is_some_and t) is ∙ e in
      ⊎_elim
      (λ (h : one v ≡ true). or_left (as_seen one) _ (seen_by one x v at passes h))
      (λ (h : two v ≡ true). or_right (as_seen one) _ (or_left (as_seen two) by_put (seen_by two x v at passes h)))
      (cover v mark (ap t (same_Some (record v { share = mark }) w same_row) ∙ e))

  found_by : (i : Option Named) (x : List ℕ) (w : Record) → put_at (puts_in ops) x ≡ i → record_at (working_view scope seen ops) x ≡ Some w → t w ≡ true → (as_seen one || (as_seen two || by_put)) ≡ true
  found_by (Some q) x w at is e = or_right (as_seen one) _ (or_right (as_seen two) by_put (any_put stands (puts_in ops) x q (ap (is_some_and t) is ∙ e) at))
  found_by None x w at is e = unput (record_at seen x) x w refl is e
      (sym (ap (λ i. option_map (λ (r : Record). record r { share = mark_of scope seen ops (with_puts seen ops) r }) (put_over seen i (record_at seen x))) at) ∙ sym (found-working seen scope ops x) ∙ is)

  stood : (o : Option Record) (x : List ℕ) → record_at (working_view scope seen ops) x ≡ o → is_some_and t o ≡ true → list_any t (working_view scope seen ops) ≡ true
  stood None x at e = absurd (both_ways false refl e)
  stood (Some w) x at e = any-from t (working_view scope seen ops) x w at e

  from_seen : (c : Record → Bool) → as_seen c ≡ true → list_any t (working_view scope seen ops) ≡ true
  from_seen c e = any_gives (λ (r : Record). c r && stands r.name) (list_any t (working_view scope seen ops)) (λ r h. stood (record_at (working_view scope seen ops) r.name) r.name refl (and_parts (c r) (stands r.name) h).1) seen e

  from_puts : by_put ≡ true → list_any t (working_view scope seen ops) ≡ true
  from_puts e = any_gives (λ (p : Named). stands p.name) (list_any t (working_view scope seen ops)) (λ p h. stood (record_at (working_view scope seen ops) p.name) p.name refl h) (puts_in ops) e

  pub any_told : (as_seen one || (as_seen two || by_put)) ≡ list_any t (working_view scope seen ops)
  any_told = iff (as_seen one || (as_seen two || by_put)) (list_any t (working_view scope seen ops))
      (λ e. ⊎_elim (λ (h : as_seen one ≡ true). from_seen one h)
      (λ (h : (as_seen two || by_put) ≡ true). ⊎_elim (λ (k : as_seen two ≡ true). from_seen two k) (λ (k : by_put ≡ true). from_puts k) (or_cases (as_seen two) by_put h))
      (or_cases (as_seen one) (as_seen two || by_put) e))
      (λ e. let w = any-found t (working_view scope seen ops) up e in found_by (put_at (puts_in ops) w.0.name) w.0.name w.0 refl w.1 w.2)

-- ---- what holds a name back

puts_step : {X : Type 0} (d h : Bool) (f : X → Named) (t : List ℕ → Bool) (p : X) (ps : List Named) (rest : Bool) → t (f p).name ≡ h → list_any (λ (q : Named). t q.name) ps ≡ rest
    → list_any (λ (q : Named). t q.name) (cond (not d) (f p ∷ ps) ps) ≡ ((not d && h) || rest)
puts_step true h f t p ps rest is more = more
puts_step false h f t p ps rest is more = ap (λ b. b || list_any (λ (q : Named). t q.name) ps) is ∙ ap (λ b. h || b) more

puts_told : {X : Type 0} (f : X → Named) (t : List ℕ → Bool) (ops : List X) → list_any (λ (q : Named). t q.name) (puts_in (map f ops)) ≡ list_any (λ (q : X). not (is_deletion (f q).kind) && t (f q).name) ops
puts_told f t [] = refl
puts_told f t (p ∷ ops) = puts_step (is_deletion (f p).kind) (t (f p).name) f t p (puts_in (map f ops)) (list_any (λ q. not (is_deletion (f q).kind) && t (f q).name) ops) refl (puts_told f t ops)

cover_held : (g : Grounds) (x : List ℕ) (r : Record) (mark : Option (List ℕ)) → holds_back g x (record r { share = mark }) ≡ true → (is_tied Tie.Child x r ≡ true) ⊎ (is_tied Tie.Wants x r ≡ true)
cover_held g x r mark e = or_cases (is_some_and (same x) r.parent) (wants x r) (and_parts (is_some_and (same x) r.parent || wants x r) _ e).0

up_working : (scope : Scope) (seen : List Record) (ops : List Named) (c : Caller) → IsAscending seen → IsAscending (working_view scope seen ops)
up_working scope seen ops c up = ascending-working (record {
  caller = record c { scope = scope };
  moment = 0;
  seen = seen;
  rows = [];
  puts = λ _. 0;
  ops = ops;
}) up

or_joined : (a b c : Bool) → ((a || b) || c) ≡ (a || (b || c))
or_joined true b c = refl
or_joined false b c = refl

module _ {X : Type 0} (f : X → Named) (c : Caller) (pasts : List Past) (seen : List Record) (ops : List X) (x : List ℕ) (up : IsAscending seen) where
  abbrev ground : Grounds
  ground = grounds_of c pasts seen (map f ops)

  -- what is tied to x as it is seen holds it back
  abbrev seen_holds : Bool
  seen_holds = list_any (λ (r : Record). is_tied Tie.Child x r && holds_at ground x r.name) seen || list_any (λ (r : Record). is_tied Tie.Wants x r && holds_at ground x r.name) seen

  abbrev put_holds : Bool
  put_holds = list_any (λ (q : X). not (is_deletion (f q).kind) && holds_at ground x (f q).name) ops

  held_told : (seen_holds || put_holds) ≡ list_any (holds_back ground x) ground.working
  held_told = ap (λ b. seen_holds || b) (sym (puts_told f (holds_at ground x) ops))
      ∙ or_joined _ _ (list_any (λ (q : Named). holds_at ground x q.name) (puts_in (map f ops)))
      ∙ any_told c.scope seen (map f ops) (holds_back ground x) (is_tied Tie.Child x) (is_tied Tie.Wants x) (up_working c.scope seen (map f ops) c up) (cover_held ground x)

  pub held_then : seen_holds ≡ true → true ≡ list_any (holds_back ground x) ground.working
  held_then e = sym (ap (λ b. b || put_holds) e) ∙ held_told

  pub held_else : seen_holds ≡ false → put_holds ≡ list_any (holds_back ground x) ground.working
  held_else e = sym (ap (λ b. b || put_holds) e) ∙ held_told

-- ---- what deletions take

deleted_step : {X : Type 0} (d s : Bool) (f : X → Named) (p : X) (ds : List Named) (x : List ℕ) (rest : Bool) → same x (f p).name ≡ s → is_in (map (λ (o : Named). o.name) ds) x ≡ rest
    → is_in (map (λ (o : Named). o.name) (cond d (f p ∷ ds) ds)) x ≡ ((d && s) || rest)
deleted_step true s f p ds x rest is more = ap (λ b. b || is_in (map (λ (o : Named). o.name) ds) x) is ∙ ap (λ b. s || b) more
deleted_step false s f p ds x rest is more = more

pub one_deletes : {X : Type 0} (f : X → Named) (ops : List X) (x : List ℕ) → list_any (λ (q : X). is_deletion (f q).kind && same x (f q).name) ops ≡ is_in (names_deleted (map f ops)) x
one_deletes f [] x = refl
one_deletes f (p ∷ ops) x = sym (deleted_step (is_deletion (f p).kind) (same x (f p).name) f p _ x (list_any (λ q. is_deletion (f q).kind && same x (f q).name) ops) refl (sym (one_deletes f ops x)))

pub in_taken : (c : Caller) (seen : List Record) (ops : List Named) (x : List ℕ) → (is_in (names_deleted ops) x && is_taken_by_deletion c seen x) ≡ is_in (names_taken c seen ops) x
in_taken c seen ops x = iff (is_in (names_deleted ops) x && is_taken_by_deletion c seen x) (is_in (names_taken c seen ops) x)
    (λ e. let parts = and_parts (is_in (names_deleted ops) x) _ e in kept (is_taken_by_deletion c seen) (names_deleted ops) x parts.1 parts.0)
    (λ e. let parts = in-filter (is_taken_by_deletion c seen) (names_deleted ops) x e in and_from (is_in (names_deleted ops) x) _ parts.0 parts.1)

pub taken_then : (c : Caller) (seen : List Record) (ops : List Named) (x : List ℕ) → is_in (names_deleted ops) x ≡ true → is_in (names_taken c seen ops) x ≡ is_taken_by_deletion c seen x
taken_then c seen ops x e = sym (in_taken c seen ops x) ∙ ap (λ b. b && is_taken_by_deletion c seen x) e

pub taken_else : (c : Caller) (seen : List Record) (ops : List Named) (x : List ℕ) → is_in (names_deleted ops) x ≡ false → is_in (names_taken c seen ops) x ≡ false
taken_else c seen ops x e = sym (in_taken c seen ops x) ∙ ap (λ b. b && is_taken_by_deletion c seen x) e

-- ---- what goes with one of some names

four : (a b c d : Bool) → ((a || b) || (c || d)) ≡ ((a || c) || (b || d))
four true b c d = refl
four false true true d = refl
four false true false d = refl
four false false c d = refl

-- a test that is one or the other
any_or : {X : Type 0} (p q h : X → Bool) → ((x : X) → h x ≡ (p x || q x)) → (xs : List X) → list_any h xs ≡ (list_any p xs || list_any q xs)
any_or p q h is [] = refl
any_or p q h is (x ∷ xs) = ap (λ b. b || list_any h xs) (is x) ∙ ap (λ b. (p x || q x) || b) (any_or p q h is xs) ∙ four (p x) (q x) (list_any p xs) (list_any q xs)

reference_or : (p q h : RefTo → Bool) → ((to : RefTo) → h to ≡ (p to || q to)) → (r : Record) → has_reference h r ≡ (has_reference p r || has_reference q r)
reference_or p q h is r = any_or
    (λ (field : List ℕ × Value). list_any p (references_in field.1)) (λ (field : List ℕ × Value). list_any q (references_in field.1)) (λ (field : List ℕ × Value). list_any h (references_in field.1))
    (λ field. any_or p q h is (references_in field.1)) r.fields

any_none : {X : Type 0} (p : X → Bool) → ((x : X) → p x ≡ false) → (xs : List X) → list_any p xs ≡ false
any_none p none [] = refl
any_none p none (x ∷ xs) = ap (λ b. b || list_any p xs) (none x) ∙ any_none p none xs

and_or : (d a b rest : Bool) → a ≡ b → (d && (a || rest)) ≡ ((d && b) || (d && rest))
and_or true a b rest e = ap (λ c. c || rest) e
and_or false a b rest e = refl

and_nothing : (d : Bool) → (d && false) ≡ false
and_nothing true = refl
and_nothing false = refl

pub goes_with_some : (names : List (List ℕ)) (r : Record) → has_reference (λ (to : RefTo). deletes_self to.action && is_in names to.name) r ≡ list_any (λ a. goes_with a r) names
goes_with_some [] r = any_none (λ (field : List ℕ × Value). list_any (λ (to : RefTo). deletes_self to.action && false) (references_in field.1))
    (λ field. any_none (λ (to : RefTo). deletes_self to.action && false) (λ to. and_nothing (deletes_self to.action)) (references_in field.1)) r.fields
goes_with_some (a ∷ names) r =
    reference_or (λ (to : RefTo). deletes_self to.action && same a to.name) (λ (to : RefTo). deletes_self to.action && is_in names to.name) (λ (to : RefTo). deletes_self to.action && (same to.name a || is_in names to.name))
    (λ to. and_or (deletes_self to.action) (same to.name a) (same a to.name) (is_in names to.name) (same-comm to.name a)) r
    ∙ ap (λ b. goes_with a r || b) (goes_with_some names r)

-- ---- the parts of holding back, of what stands under a name

parts_by : (g : Grounds) (x y : List ℕ) (o : Option Record) → record_at g.working y ≡ o
    → ((is_some_and (same x) (option_and_then (λ (r : Record). r.parent) o) || is_some_and (wants x) o)
    && (not (is_in g.taken y) && not (is_some_and (has_reference (λ (to : RefTo). deletes_self to.action && is_in g.taken to.name)) o)))
    ≡ is_some_and (holds_back g x) o
parts_by g x y None at = refl
parts_by g x y (Some r) at =
    ap (λ z. (is_some_and (same x) r.parent || wants x r) && (not (is_in g.taken z) && not (has_reference (λ (to : RefTo). deletes_self to.action && is_in g.taken to.name) r))) (same-true y r.name (found-name g.working y r at))
    ∙ ap (λ b. (is_some_and (same x) r.parent || wants x r) && (not (is_in g.taken r.name) && not b)) (goes_with_some g.taken r)

holds_told : (g : Grounds) (x y : List ℕ)
    → ((is_some_and (same x) (parent_at g.working y) || is_some_and (wants x) (record_at g.working y))
    && (not (is_in g.taken y) && not (is_some_and (has_reference (λ (to : RefTo). deletes_self to.action && is_in g.taken to.name)) (record_at g.working y))))
    ≡ holds_at g x y
holds_told g x y =
    ap (λ p. (is_some_and (same x) p || is_some_and (wants x) (record_at g.working y)) && (not (is_in g.taken y) && not (is_some_and (has_reference (λ (to : RefTo). deletes_self to.action && is_in g.taken to.name)) (record_at g.working y)))) (parent_of-record g.working y)
    ∙ parts_by g x y (record_at g.working y) refl

pub holds_then : (g : Grounds) (x y : List ℕ) → needs_at g x y ≡ true → holds_at g x y ≡ stays_at g y
holds_then g x y e = sym (holds_told g x y) ∙ ap (λ b. b && stays_at g y) e

pub holds_else : (g : Grounds) (x y : List ℕ) → needs_at g x y ≡ false → holds_at g x y ≡ false
holds_else g x y e = sym (holds_told g x y) ∙ ap (λ b. b && stays_at g y) e
