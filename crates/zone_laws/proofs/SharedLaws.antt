-- In the shared scope what a request changes is writable.
use Rattle.std.proofs.Common.{◌≡◌, ◌∙◌, ℕ, List, [], ◌∷◌, Bool, true, false, not, ◌&&◌, ◌||◌, refl, sym, ap, subst, Option, Some, None, map, length, arith, inl, inr}
use Rattle.std.specs.Prelude.{◌⊎◌, zip, is_some, is_none, if◌then◌else◌, unwrap_or}
use Rattle.std.specs.List.{AllByRecursion}
use Rattle.std.proofs.lemmas.Bool.{both_ways, or_parts}
use Rattle.record_model.specs.declared.records.Record.{Record}
use Rattle.zone_model.specs.declared.outcomes.OpFault.{OpFault}
use Rattle.zone_model.specs.declared.outcomes.OpFault.TheVariants.{NotFound, Conflict, AccessDenied, Validating, Atomic}
use Rattle.zone_model.specs.Names.{is_shared}
use Rattle.name_rules.specs.Options.{is_some_and}
use Rattle.zone_model.specs.Records.{record_at, is_share}
use Rattle.record_model.specs.RecordForms.{is_share_type}
use Rattle.zone_model.specs.Ancestry.{is_ancestor}
use Rattle.zone_model.specs.Requests.{Caller, NamedOp, is_deletion, new_parent}
use Rattle.zone_model.specs.Grounds.{Grounds, grounds_of, is_seen, in_working, is_writable, first_fault}
use Rattle.zone_model.specs.PutChecks.{is_new, begins, is_of_share, is_old_share, parent, is_denied, is_denied_parent, is_name_taken, is_missing, is_in_conflict, has_bad_form, has_bad_parent, has_bad_root, has_bad_reference, is_dangling, is_plain_in_working, fault_of_put}
use Rattle.zone_model.specs.DeletionChecks.{fault_of_deletion, is_denied as is_denied_deletion, is_missing as lacks, is_in_conflict as is_in_conflict_with, is_held_back}
use Rattle.zone_model.specs.Judging.{faults_of, has_fault, together}
use Rattle.zone_model.specs.declared.commits.Commit.{Commit}
use Rattle.zone_model.specs.Views.{is_empty, view_of}
use Rattle.zone_model.specs.Past.{name_history}
use Rattle.zone_model.specs.Effect.{effect}
use Rattle.zone_model.specs.Modifying.{request_at, judgement_at, effect_at}
use Rattle.zone_laws.proofs.JudgedLaws.{faults_from, faults_told}
use Rattle.zone_laws.specs.Laws.{IsPermittedPut, IsPermittedDeletion, IsPermittedOp, IsPermitted, SharedChangesArePermitted}
use Rattle.zone_laws.proofs.JudgeLaws.{there-found, six_pass}
use Rattle.zone_laws.proofs.ConflictLaws.{all_judged}
use Rattle.zone_laws.specs.Writable.{IsWritable}
use Rattle.zone_laws.proofs.WritableLaws.{writable-so}

-- ---- tests

right_of : (a b : Bool) → a ≡ true → (a && b) ≡ false → b ≡ false
right_of true b is e = e
right_of false b is e = absurd (both_ways false refl is)

turned : (b : Bool) → not b ≡ false → b ≡ true
turned true e = refl
turned false e = absurd (both_ways true e refl)

turned_back : (b : Bool) → not b ≡ true → b ≡ false
turned_back true e = absurd (both_ways false refl e)
turned_back false e = refl

some_none : {f : OpFault} → ◌≡◌ {A = Option OpFault} (Some f) None → ⊥
some_none {f} e = both_ways (is_some (Some f)) (ap is_some e) refl

four_pass : (a b c d : Bool) → first_fault ((a, NotFound) ∷ (b, Conflict) ∷ (c, AccessDenied) ∷ (d, Validating) ∷ []) ≡ None → (a ≡ false) × (b ≡ false) × (c ≡ false) × (d ≡ false)
four_pass true b c d e = absurd (some_none e)
four_pass false true c d e = absurd (some_none e)
four_pass false false true d e = absurd (some_none e)
four_pass false false false true e = absurd (some_none e)
four_pass false false false false e = (refl, refl, refl, refl)

-- ---- puts

module _ (g : Grounds) (shared : is_shared g.caller.scope ≡ true) (op : NamedOp) (earlier : List (List ℕ)) where
  abbrev put : NamedOp
  put = op

  abbrev x : List ℕ
  x = op.name

  module _ (passes : fault_of_put g put earlier ≡ None) where
    abbrev all : (is_name_taken g put earlier ≡ false) × (is_missing g put ≡ false) × (is_in_conflict g put ≡ false) × (has_bad_form g put ≡ false) × (is_denied g put ≡ false) × (is_dangling g put ≡ false)
    all = six_pass (is_name_taken g put earlier) (is_missing g put) (is_in_conflict g put) (has_bad_form g put) (is_denied g put) (is_dangling g put) passes

    abbrev old_unwritable : Bool
    old_unwritable = not (is_new g put) && not (is_writable g x)

    abbrev new_unwritable : Bool
    new_unwritable = is_new g put && (is_none (parent g put) || is_denied_parent g put)

    allowed : (is_of_share g put || (old_unwritable || new_unwritable)) ≡ false
    allowed = right_of (is_shared g.caller.scope) _ shared all.4

    no_share : is_of_share g put ≡ false
    no_share = (or_parts (is_of_share g put) (old_unwritable || new_unwritable) allowed).0

    writable : (old_unwritable ≡ false) × (new_unwritable ≡ false)
    writable = or_parts old_unwritable new_unwritable (or_parts (is_of_share g put) (old_unwritable || new_unwritable) allowed).1

    -- a record of the view
    seen_put : is_seen g x ≡ true → IsWritable g x × (is_some_and is_share (record_at g.seen x) ≡ false)
    seen_put seen = (
      writable-so g x (turned (is_writable g x) (right_of (not (is_new g put)) (not (is_writable g x)) (ap (λ b. not (not b)) seen) writable.0)),
      (or_parts (begins g put) (is_old_share g put) no_share).1,
    )

    -- a new one
    found_parent : (new : Bool) (o : Option (List ℕ)) → new ≡ true → (is_none (if new then o else None) || is_some_and (λ q. in_working g q && not (is_writable g q)) (if new then o else None)) ≡ false
        → is_some_and (λ q. not (is_plain_in_working g put q) || is_ancestor g.working x q) (if new then o else None) ≡ false
        → (q : List ℕ) × (o ≡ Some q) × IsWritable g q
    found_parent true None is denied bad = absurd (both_ways true denied refl)
    found_parent true (Some q) is denied bad =
        let plain = turned (is_plain_in_working g put q) (or_parts (not (is_plain_in_working g put q)) (is_ancestor g.working x q) bad).0 in
        let there : in_working g q ≡ true = there-found g.working q ∙ some_of (λ (r : Record). not (is_share r) && not (is_share_type r.rtype)) (record_at g.working q) plain in
        (q, refl, writable-so g q (turned (is_writable g q) (right_of (in_working g q) (not (is_writable g q)) there denied)))
      where
        some_of : (test : Record → Bool) (o : Option Record) → is_some_and test o ≡ true → is_some o ≡ true
        some_of test None e = e
        some_of test (Some r) e = refl
    found_parent false o is denied bad = absurd (both_ways false refl is)

    new_put : is_seen g x ≡ false → (begins g put ≡ false) × ((q : List ℕ) × (new_parent op.draft ≡ Some q) × IsWritable g q)
    new_put unseen =
        let is : is_new g put ≡ true = ap not unseen in
        let dangling = or_parts (has_bad_parent g put) (has_bad_root g put || has_bad_reference g put) all.5 in (
          (or_parts (begins g put) (is_old_share g put) no_share).0,
          found_parent (is_new g put) (new_parent op.draft) is (right_of (is_new g put) (is_none (parent g put) || is_denied_parent g put) is writable.1) dangling.0,
        )

    permitted_put : IsPermittedPut g op
    permitted_put = record { old = seen_put; new = new_put }

-- ---- deletions

permitted_deletion : (g : Grounds) → is_shared g.caller.scope ≡ true → (op : NamedOp) → fault_of_deletion g op ≡ None → IsPermittedDeletion g op
permitted_deletion g shared op passes r found =
    let all = four_pass (lacks g op) (is_in_conflict_with g op) (is_denied_deletion g op) (is_held_back g op) passes in
    let allowed = right_of (is_shared g.caller.scope) _ shared all.2 in
    by_share (is_share r) (is_writable g r.name) (is_some r.share) refl refl refl
    (sym (ap (λ o. is_some_and (λ (t : Record). not (is_share t) && (not (is_writable g t.name) || is_some t.share)) o) found) ∙ allowed)
  where
    by_share : (a b c : Bool) → is_share r ≡ a → is_writable g r.name ≡ b → is_some r.share ≡ c → (not (is_share r) && (not (is_writable g r.name) || is_some r.share)) ≡ false
        → (is_share r ≡ true) ⊎ (IsWritable g r.name × (is_some r.share ≡ false))
    by_share true b c share write mark e = inl share
    by_share false b c share write mark e =
        let inner = right_of (not (is_share r)) (not (is_writable g r.name) || is_some r.share) (ap not share) e in
        let parts = or_parts (not (is_writable g r.name)) (is_some r.share) inner in
        inr (writable-so g r.name (turned (is_writable g r.name) parts.0), parts.1)

-- ---- all operations

module _ (g : Grounds) (shared : is_shared g.caller.scope ≡ true) where
  faults_permit : (earlier : List (List ℕ)) (ops : List NamedOp) → AllByRecursion (IsPermitted g) (zip ops (faults_from g earlier ops))
  faults_permit earlier [] = tt
  faults_permit earlier (op ∷ ops) = step (faults_permit earlier ops) (faults_permit (op.name ∷ earlier) ops) (is_deletion op.kind) refl
    where
      step : AllByRecursion (IsPermitted g) (zip ops (faults_from g earlier ops)) → AllByRecursion (IsPermitted g) (zip ops (faults_from g (op.name ∷ earlier) ops)) → (b : Bool) → is_deletion op.kind ≡ b
          → AllByRecursion (IsPermitted g) (zip (op ∷ ops) (if b then fault_of_deletion g op ∷ faults_from g earlier ops else fault_of_put g op earlier ∷ faults_from g (op.name ∷ earlier) ops))
      step behind past true kind = (λ none. record { deletion = λ is. permitted_deletion g shared op none; put = λ is. absurd (both_ways (is_deletion op.kind) is kind) }, behind)
      step behind past false kind = (λ none. record { deletion = λ is. absurd (both_ways (is_deletion op.kind) kind is); put = λ is. permitted_put g shared op earlier none }, past)

  all_refused_permit : (ops : List NamedOp) (faults : List (Option OpFault)) → AllByRecursion (IsPermitted g) (zip ops (map (λ o. Some (unwrap_or o Atomic)) faults))
  all_refused_permit [] faults = tt
  all_refused_permit (op ∷ ops) [] = tt
  all_refused_permit (op ∷ ops) (o ∷ faults) = (λ none. absurd (some_none none), all_refused_permit ops faults)

  together_permit : (ops : List NamedOp) (faults : List (Option OpFault)) → AllByRecursion (IsPermitted g) (zip ops faults) → AllByRecursion (IsPermitted g) (zip ops (together faults))
  together_permit ops faults all = by_fault (has_fault faults)
    where
      by_fault : (b : Bool) → AllByRecursion (IsPermitted g) (zip ops (if b then map (λ o. Some (unwrap_or o Atomic)) faults else faults))
      by_fault true = all_refused_permit ops faults
      by_fault false = all

pub changes_permitted : SharedChangesArePermitted
changes_permitted caller view pasts ops shared =
    let g = grounds_of caller pasts view.rows ops in
    together_permit g shared ops (faults_of g ops) (subst (λ fs. AllByRecursion (IsPermitted g) (zip ops fs)) (sym (faults_told g ops)) (faults_permit g shared [] ops))

-- ---- where something is committed

none_refused : (g : Grounds) (ops : List NamedOp) (faults : List (Option OpFault)) → length faults ≡ length ops → has_fault faults ≡ false
    → AllByRecursion (IsPermitted g) (zip ops faults) → AllByRecursion (IsPermittedOp g) ops
none_refused g [] faults len none all = tt
none_refused g (op ∷ ops) [] len none all = absurd (omega (arith, len))
none_refused g (op ∷ ops) (None ∷ faults) len none all = (all.0 refl, none_refused g ops faults (omega (arith, len)) none all.1)
none_refused g (op ∷ ops) (Some fault ∷ faults) len none all = absurd (both_ways true none refl)

pub asked_permitted : (caller : Caller) (moment : ℕ) (log : List Commit) (ops : List NamedOp)
    → is_shared caller.scope ≡ true → is_empty (effect_at caller moment log ops) ≡ false
    → AllByRecursion (IsPermittedOp (grounds_of caller (name_history log caller.key ops) (view_of log caller.user caller.scope caller.key).rows ops)) ops
asked_permitted caller moment log ops shared made =
    let v = view_of log caller.user caller.scope caller.key in
    let pasts = name_history log caller.key ops in
    none_refused (grounds_of caller pasts v.rows ops) ops (judgement_at caller moment log ops) (all_judged v pasts ops caller)
    (unfaulted (has_fault (judgement_at caller moment log ops)) refl made) (changes_permitted caller v pasts ops shared)
  where
    unfaulted : (b : Bool) → has_fault (judgement_at caller moment log ops) ≡ b → is_empty (if b then [] else effect (request_at caller moment log ops)) ≡ false → has_fault (judgement_at caller moment log ops) ≡ false
    unfaulted true is e = absurd (both_ways true e refl)
    unfaulted false is e = is
