-- What the working view has under each name.
use Rattle.std.proofs.Common.{◌≡◌, ℕ, List, [], ◌∷◌, Bool, true, false, cond, not, refl, sym, ap, ◌∙◌, subst, Some, None, Option}
use Rattle.std.specs.Prelude.{filter, find, option_map, if◌then◌else◌}
use Rattle.std.specs.Option.{option_map_or}
use Rattle.std.proofs.lemmas.Bool.{both_ways}
use Rattle.std.proofs.lemmas.Option.{same_Some}
use Rattle.ck_base.specs.declared.scope.Scope.{Scope}
use Rattle.record_model.specs.declared.records.Record.{Record}
use Rattle.zone_model.specs.Names.{same}
use Rattle.zone_model.specs.Records.{record_at, with_record}
use Rattle.zone_model.specs.Requests.{NamedOp, makes_new, changes_old, puts_in, first_puts}
use Rattle.zone_model.specs.Putting.{new_record, changed_record, written_over}
use Rattle.zone_model.specs.Working.{mark_of, with_puts, working_view}
use Rattle.name_rules.proofs.NameLemmas.{same-true, same-refl}
use Rattle.zone_laws.proofs.RecordLaws.{found-name, found-with, found-map, found-fold, EachOnce, settled, none-some}

-- ---- puts by name

-- the first put of a name
abbrev pub put_at : List NamedOp → List ℕ → Option NamedOp
put_at puts x = find (λ (p : NamedOp). same x p.name) puts

abbrev others : List ℕ → List NamedOp → List NamedOp
others y ps = filter (λ (p : NamedOp). not (same y p.name)) ps

none_here : (b : Bool) (p : NamedOp) (ps : List NamedOp) (y x : List ℕ) → same y p.name ≡ b → put_at ps x ≡ None → same y x ≡ true → put_at (cond (not b) (p ∷ ps) ps) x ≡ None
none_here true p ps y x is ih e = ih
none_here false p ps y x is ih e = ap (λ b. cond b (Some p) (put_at ps x)) (subst (λ z. same z p.name ≡ false) (same-true y x e) is) ∙ ih

others_lack : (y : List ℕ) (ps : List NamedOp) → put_at (others y ps) y ≡ None
others_lack y [] = refl
others_lack y (p ∷ ps) = none_here (same y p.name) p (others y ps) y y refl (others_lack y ps) (same-refl y)

still_none_step : (b s : Bool) (p : NamedOp) (some : List NamedOp) (x : List ℕ) (o : Option NamedOp) → same x p.name ≡ s → cond s (Some p) o ≡ None → (o ≡ None → put_at some x ≡ None)
    → put_at (cond b (p ∷ some) some) x ≡ None
still_none_step b true p some x o is none ih = absurd (both_ways false refl (ap (λ (q : Option NamedOp). option_map_or (λ _. true) q false) (sym none)))
still_none_step true false p some x o is none ih = ap (λ b. cond b (Some p) (put_at some x)) is ∙ ih none
still_none_step false false p some x o is none ih = ih none

-- a name that no put has is had by none of some of them
still_none : (test : NamedOp → Bool) (ps : List NamedOp) (x : List ℕ) → put_at ps x ≡ None → put_at (filter test ps) x ≡ None
still_none test [] x none = refl
still_none test (p ∷ ps) x none = still_none_step (test p) (same x p.name) p (filter test ps) x (put_at ps x) refl none (still_none test ps x)

other_step : (b s : Bool) (p : NamedOp) (some ps : List NamedOp) (y x : List ℕ) → same y x ≡ false → same y p.name ≡ b → same x p.name ≡ s → put_at some x ≡ put_at ps x
    → put_at (cond (not b) (p ∷ some) some) x ≡ cond s (Some p) (put_at ps x)
other_step true true p some ps y x ne yb xs ih = absurd (both_ways (same y x) ne (subst (λ z. same y z ≡ true) (sym (same-true x p.name xs)) yb))
other_step true false p some ps y x ne yb xs ih = ih
other_step false s p some ps y x ne yb xs ih = ap (λ b. cond b (Some p) (put_at some x)) xs ∙ ap (λ o. cond s (Some p) o) ih

-- without the puts of one name, the others have theirs
others_have : (y x : List ℕ) (ps : List NamedOp) → same y x ≡ false → put_at (others y ps) x ≡ put_at ps x
others_have y x [] ne = refl
others_have y x (p ∷ ps) ne = other_step (same y p.name) (same x p.name) p (others y ps) ps y x ne refl refl (others_have y x ps ne)

first_step : (s : Bool) (p : NamedOp) (ps : List NamedOp) (x : List ℕ) → same x p.name ≡ s → put_at (first_puts ps) x ≡ put_at ps x
    → cond s (Some p) (put_at (others p.name (first_puts ps)) x) ≡ cond s (Some p) (put_at ps x)
first_step true p ps x is ih = refl
first_step false p ps x is ih = others_have p.name x (first_puts ps) (flipped (same p.name x) refl) ∙ ih
  where
    flipped : (b : Bool) → same p.name x ≡ b → b ≡ false
    flipped true e = absurd (both_ways (same x p.name) is (subst (λ z. same x z ≡ true) (sym (same-true p.name x e)) (same-refl x)))
    flipped false e = refl

-- the first of several puts with one name is what counts
pub first-put : (ps : List NamedOp) (x : List ℕ) → put_at (first_puts ps) x ≡ put_at ps x
first-put [] x = refl
first-put (p ∷ ps) x = first_step (same x p.name) p ps x refl (first-put ps x)

-- ---- the records that puts write

module _ (seen : List Record) where
  abbrev pub record_written : NamedOp → Option Record
  record_written p = written_over p (record_at seen p.name)

  new_named : (b : Bool) (p : NamedOp) (u : Record) → (if b then Some (new_record p) else None) ≡ Some u → u.name ≡ p.name
  new_named true p u e = ap (λ (r : Record). r.name) (sym (same_Some (new_record p) u e))
  new_named false p u e = absurd (none-some None u refl e)

  old_named : (b : Bool) (p : NamedOp) (r u : Record) → same p.name r.name ≡ true → (if b then Some (changed_record p r) else None) ≡ Some u → u.name ≡ p.name
  old_named true p r u is e = ap (λ (t : Record). t.name) (sym (same_Some (changed_record p r) u e)) ∙ sym (same-true p.name r.name is)
  old_named false p r u is e = absurd (none-some None u refl e)

  written_named : (o : Option Record) (p : NamedOp) (u : Record) → record_at seen p.name ≡ o → written_over p o ≡ Some u → u.name ≡ p.name
  written_named None p u is e = new_named (makes_new p.kind) p u e
  written_named (Some r) p u is e = old_named (changes_old p.kind) p r u (found-name seen p.name r is) e

  pub record-named : (p : NamedOp) (u : Record) → record_written p ≡ Some u → u.name ≡ p.name
  record-named p u e = written_named (record_at seen p.name) p u refl e

  abbrev Once : List NamedOp → Type 0
  Once ps = EachOnce (λ (p : NamedOp). p.name) record_written with_record (λ (r : Record). r.name) Some found-with record-named ps

  once_step : (b : Bool) (p : NamedOp) (some : List NamedOp) → (b ≡ true → put_at some p.name ≡ None) → Once some → Once (cond b (p ∷ some) some)
  once_step true p some none once = (none refl, once)
  once_step false p some none once = once

  once_some : (test : NamedOp → Bool) (ps : List NamedOp) → Once ps → Once (filter test ps)
  once_some test [] once = once
  once_some test (p ∷ ps) once = once_step (test p) p (filter test ps) (λ _. still_none test ps p.name once.0) (once_some test ps once.1)

  once_first : (ps : List NamedOp) → Once (first_puts ps)
  once_first [] = tt
  once_first (p ∷ ps) = (others_lack p.name (first_puts ps), once_some (λ (q : NamedOp). not (same p.name q.name)) (first_puts ps) (once_first ps))

  -- what the put of a name leaves
  abbrev pub put_over : Option NamedOp → Option Record → Option Record
  put_over None o = o
  put_over (Some p) o = option_map_or Some (record_written p) o

  settled_is : (i : Option NamedOp) (o : Option Record) → settled (λ (p : NamedOp). p.name) record_written with_record (λ (r : Record). r.name) Some found-with record-named i o ≡ put_over i o
  settled_is None o = refl
  settled_is (Some p) o = refl

  -- each name has what its first put writes, or else what the view has
  pub found-puts : (ops : List NamedOp) (x : List ℕ) → record_at (with_puts seen ops) x ≡ put_over (put_at (puts_in ops) x) (record_at seen x)
  found-puts ops x =
      found-fold (λ (p : NamedOp). p.name) record_written with_record (λ (r : Record). r.name) Some found-with record-named (first_puts (puts_in ops)) seen x (once_first (puts_in ops))
      ∙ settled_is (put_at (first_puts (puts_in ops)) x) (record_at seen x)
      ∙ ap (λ i. put_over i (record_at seen x)) (first-put (puts_in ops) x)

  pub found-working : (scope : Scope) (ops : List NamedOp) (x : List ℕ)
      → record_at (working_view scope seen ops) x ≡ option_map (λ (r : Record). record r { share = mark_of scope seen ops (with_puts seen ops) r }) (put_over (put_at (puts_in ops) x) (record_at seen x))
  found-working scope ops x = found-map (λ (r : Record). record r { share = mark_of scope seen ops (with_puts seen ops) r }) (λ r. refl) (with_puts seen ops) x
      ∙ ap (option_map (λ (r : Record). record r { share = mark_of scope seen ops (with_puts seen ops) r })) (found-puts ops x)
