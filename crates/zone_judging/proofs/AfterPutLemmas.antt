-- References of the records that stand in the working view.
use Rattle.std.proofs.Common.{◌≡◌, ℕ, List, [], ◌∷◌, Bool, true, false, cond, not, ◌&&◌, refl, sym, ap, ◌∙◌, subst, Some, None, Option, map}
use Rattle.std.specs.Prelude.{option_map, if◌then◌else◌}
use Rattle.std.specs.Option.{option_map_or}
use Rattle.std.specs.List.{list_any}
use Rattle.std.proofs.lemmas.Bool.{both_ways}
use Rattle.ck_base.specs.declared.scope.Scope.{Scope}
use Rattle.record_model.specs.declared.value.RefTo.{RefTo}
use Rattle.record_model.specs.declared.records.Record.{Record}
use Rattle.name_rules.specs.Options.{is_some_and}
use Rattle.name_rules.proofs.NameLemmas.{same-true}
use Rattle.zone_model.specs.Names.{same}
use Rattle.zone_model.specs.Records.{record_at}
use Rattle.zone_model.specs.References.{has_reference}
use Rattle.zone_model.specs.Requests.{NamedOp as Named, makes_new, changes_old, drops_fields, is_deletion, puts_in}
use Rattle.zone_model.specs.Putting.{new_record, changed_record, written_over, after_wishes}
use Rattle.zone_model.specs.Working.{mark_of, with_puts, working_view}
use Rattle.zone_laws.proofs.WorkingLaws.{put_at, put_over, found-working}
use Rattle.zone_laws.proofs.CoreLaws.{put-name}
use Rattle.zone_judging.specs.declared.request.NamedOp.{NamedOp}
use Rattle.zone_judging.specs.Asked.{named}
use Rattle.zone_judging.specs.Wishes.{AreInOrder}
use Rattle.zone_judging.specs.Made.{first_put}
use Rattle.zone_judging.specs.Holding.{AreAllInOrder, refers, after_put}

-- ---- after a put

abbrev pub refers_by : (RefTo → Bool) → Named → Option Record → Bool
refers_by test p None = makes_new p.kind && list_any (refers test) (after_wishes [] p.draft.fields)
refers_by test p (Some r) = if changes_old p.kind then list_any (refers test) (after_wishes (if drops_fields p.kind then [] else r.fields) p.draft.fields) else list_any (refers test) r.fields

new_refers : (b : Bool) (test : RefTo → Bool) (p : Named)
    → is_some_and (has_reference test) (option_map_or Some (if b then Some (new_record p) else None) None) ≡ (b && list_any (refers test) (after_wishes [] p.draft.fields))
new_refers true test p = refl
new_refers false test p = refl

old_refers : (b : Bool) (test : RefTo → Bool) (p : Named) (r : Record)
    → is_some_and (has_reference test) (option_map_or Some (if b then Some (changed_record p r) else None) (Some r))
    ≡ (if b then list_any (refers test) (after_wishes (if drops_fields p.kind then [] else r.fields) p.draft.fields) else list_any (refers test) r.fields)
old_refers true test p r = refl
old_refers false test p r = refl

pub put_refers : (test : RefTo → Bool) (p : Named) (o : Option Record) → is_some_and (has_reference test) (after_put p o) ≡ refers_by test p o
put_refers test p None = new_refers (makes_new p.kind) test p
put_refers test p (Some r) = old_refers (changes_old p.kind) test p r

-- ---- in the working view

unmarked : (test : RefTo → Bool) (f : Record → Option (List ℕ)) (o : Option Record) → is_some_and (has_reference test) (option_map (λ (r : Record). record r { share = f r }) o) ≡ is_some_and (has_reference test) o
unmarked test f None = refl
unmarked test f (Some r) = refl

abbrev pub refers_in : (RefTo → Bool) → Option Named → Option Record → Bool
refers_in test None o = is_some_and (has_reference test) o
refers_in test (Some p) o = is_some_and (has_reference test) (after_put p o)

over_by : (test : RefTo → Bool) (seen : List Record) (ops : List Named) (x : List ℕ) (i : Option Named) → put_at (puts_in ops) x ≡ i
    → is_some_and (has_reference test) (put_over seen i (record_at seen x)) ≡ refers_in test i (record_at seen x)
over_by test seen ops x None is = refl
over_by test seen ops x (Some p) is =
    ap (λ y. is_some_and (has_reference test) (option_map_or Some (written_over p (record_at seen y)) (record_at seen x))) (sym (same-true x p.name (put-name (puts_in ops) x p is)))

pub refers_told : (test : RefTo → Bool) (scope : Scope) (seen : List Record) (ops : List Named) (x : List ℕ)
    → is_some_and (has_reference test) (record_at (working_view scope seen ops) x) ≡ refers_in test (first_put ops x) (record_at seen x)
refers_told test scope seen ops x = ap (is_some_and (has_reference test)) (found-working seen scope ops x)
    ∙ unmarked test (mark_of scope seen ops (with_puts seen ops)) (put_over seen (put_at (puts_in ops) x) (record_at seen x))
    ∙ over_by test seen ops x (put_at (puts_in ops) x) refl

-- ---- the wishes of a put that is found are in order

same_put : (a b : Named) → Some a ≡ Some b → a ≡ b
same_put a b e = ap (λ (t : Option Named). option_map_or (λ r. r) t a) e

no_put : (q : Named) → None ≡ Some q → ⊥
no_put q e = both_ways false refl (ap (λ (t : Option Named). option_map_or (λ _. true) t false) e)

here_by : (s : Bool) (p q : Named) (o : Option Named) → AreInOrder p.draft.fields → (o ≡ Some q → AreInOrder q.draft.fields) → cond s (Some p) o ≡ Some q → AreInOrder q.draft.fields
here_by true p q o one more e = subst (λ (t : Named). AreInOrder t.draft.fields) (same_put p q e) one
here_by false p q o one more e = more e

found_by : (d : Bool) (p q : Named) (puts : List Named) (x : List ℕ) → AreInOrder p.draft.fields → (put_at puts x ≡ Some q → AreInOrder q.draft.fields) → put_at (cond d (p ∷ puts) puts) x ≡ Some q → AreInOrder q.draft.fields
found_by true p q puts x one more e = here_by (same x p.name) p q (put_at puts x) one more e
found_by false p q puts x one more e = more e

pub found_ordered : (ops : List NamedOp) (x : List ℕ) (q : Named) → AreAllInOrder ops → first_put (map named ops) x ≡ Some q → AreInOrder q.draft.fields
found_ordered [] x q all e = absurd (no_put q e)
found_ordered (p ∷ ops) x q all e = found_by (not (is_deletion p.op.now.kind)) (named p) q (puts_in (map named ops)) x all.0 (found_ordered ops x q all.1) e
