-- Each outcome tells of its own operation.
use Rattle.std.proofs.Common.{◌≡◌, ℕ, List, [], ◌∷◌, ◌++◌, Bool, true, false, not, refl, sym, ap, ◌∙◌, subst, arith, Some, None, Option, map, length}
use Rattle.std.specs.Prelude.{zip, is_some, option_map, if◌then◌else◌}
use Rattle.std.specs.Option.{option_map_or}
use Rattle.std.specs.List.{list_any, list_all, AllByRecursion, AllZip}
use Rattle.std.proofs.lemmas.Bool.{both_ways, and_from, or_left, or_right, true_from_ne_false}
use Rattle.name_rules.proofs.NameLemmas.{same-true, same-refl}
use Rattle.record_model.specs.declared.records.Record.{Record}
use Rattle.zone_model.specs.declared.operations.Past.{Past}
use Rattle.zone_model.specs.declared.outcomes.OpFault.{OpFault}
use Rattle.zone_model.specs.declared.outcomes.Outcome.{Outcome}
use Rattle.zone_model.specs.declared.outcomes.Outcome.TheVariants.{Put as Answered, Deleted}
use Rattle.zone_model.specs.Names.{same}
use Rattle.zone_model.specs.Records.{record_at}
use Rattle.zone_model.specs.Requests.{NamedOp, is_deletion, makes_new, puts_in}
use Rattle.zone_model.specs.Putting.{new_record, written_over}
use Rattle.zone_model.specs.Working.{with_puts, mark_of}
use Rattle.zone_model.specs.PutChecks.{is_new, is_missing}
use Rattle.zone_model.specs.Judging.{faults_of, has_fault, together}
use Rattle.zone_model.specs.Effect.{Request, working, stamped}
use Rattle.zone_model.specs.Modifying.{done, outcome_of}
use Rattle.zone_laws.specs.Answering.{IsAnswerTo}
use Rattle.zone_laws.proofs.RecordLaws.{none-some, found-name}
use Rattle.zone_laws.proofs.WorkingLaws.{put_at, put_over, found-working}
use Rattle.zone_laws.proofs.CoreLaws.{changed_at, put-name}
use Rattle.zone_laws.proofs.JudgeLaws.{put-passed, there-found, none-refused}
use Rattle.zone_laws.proofs.KeptLaws.{ground, found_put}

-- a request in which no check fails
module _ (q : Request) (pasts : List Past) (judged : has_fault (faults_of (ground q pasts) q.ops) ≡ false) where
  abbrev its_mark : Record → Record
  its_mark r = record r { share = mark_of q.caller.scope q.seen q.ops (with_puts q.seen q.ops) r }

  -- what is seen is in the working view
  seen_stays : (x : List ℕ) (v : Record) → record_at q.seen x ≡ Some v → record_at (working q) x ≡ None → ⊥
  seen_stays x v seen none =
      let puts = puts_in q.ops in
      let c = changed_at q.seen puts x (put_at puts x) v refl seen in
      none-some (record_at (working q) x) (its_mark c.row) none
      (found-working q.seen q.caller.scope q.ops x ∙ ap (λ o. option_map its_mark (put_over q.seen (put_at puts x) o)) seen ∙ ap (option_map its_mark) c.is)

  put_stays_by : (o : Option Record) (x : List ℕ) (p : NamedOp) → record_at q.seen x ≡ o → put_at (puts_in q.ops) x ≡ Some p → record_at (working q) x ≡ None → ⊥
  put_stays_by (Some v) x p seen at none = seen_stays x v seen none
  put_stays_by None x p unseen at none =
      let g = ground q pasts in
      let name : x ≡ p.name = same-true x p.name (put-name (puts_in q.ops) x p at) in
      let new : is_new g p ≡ true = ap not (there-found q.seen p.name ∙ ap (λ y. is_some (record_at q.seen y)) (sym name) ∙ ap is_some unseen) in
      let makes : makes_new p.kind ≡ true = true_from_ne_false (makes_new p.kind) (λ m.
      both_ways (is_missing g p) (put-passed g q.ops x p judged at).found (and_from (not (makes_new p.kind)) _ (ap not m) new)) in
      let written : written_over p (record_at q.seen p.name) ≡ Some (new_record p) =
      ap (λ y. written_over p (record_at q.seen y)) (sym name) ∙ ap (written_over p) unseen ∙ ap (λ b. if b then Some (new_record p) else None) makes in
      none-some (record_at (working q) x) (its_mark (new_record p)) none
      (found-working q.seen q.caller.scope q.ops x ∙ ap (λ i. option_map its_mark (put_over q.seen i (record_at q.seen x))) at
      ∙ ap (λ o. option_map its_mark (option_map_or Some o (record_at q.seen x))) written)

  -- and so is what is put
  pub put_stays : (x : List ℕ) (p : NamedOp) → put_at (puts_in q.ops) x ≡ Some p → record_at (working q) x ≡ None → ⊥
  put_stays x p at none = put_stays_by (record_at q.seen x) x p refl at none

  abbrev offers : List NamedOp → List ℕ → Bool
  offers ps x = list_any (λ (t : NamedOp). same x t.name) ps

  told_by : (d : Bool) (op : NamedOp) (o : Option Record) → is_deletion op.kind ≡ d → record_at (working q) op.name ≡ o → (d ≡ false → offers (puts_in q.ops) op.name ≡ true)
      → IsAnswerTo op (option_map_or (λ r. Answered (stamped q r)) (if d then None else o) (Deleted op.name))
  told_by true op o kind is offered = (kind, refl)
  told_by false op (Some r) kind is offered = (kind, sym (same-true op.name r.name (found-name (working q) op.name r is)))
  told_by false op None kind is offered = let p = found_put (puts_in q.ops) op.name (offered refl) in absurd (put_stays op.name p.0 p.1 is)

  done_by : (d : Bool) (op : NamedOp) → is_deletion op.kind ≡ d → (d ≡ false → offers (puts_in q.ops) op.name ≡ true) → IsAnswerTo op (done q op)
  done_by d op kind offered = subst (λ b. IsAnswerTo op (option_map_or (λ r. Answered (stamped q r)) (if b then None else record_at (working q) op.name) (Deleted op.name)))
      (sym kind) (told_by d op (record_at (working q) op.name) kind refl offered)

  done_step : (d : Bool) (op : NamedOp) (some : List NamedOp) → is_deletion op.kind ≡ d
      → ((x : List ℕ) → offers (if not d then op ∷ puts_in some else puts_in some) x ≡ true → offers (puts_in q.ops) x ≡ true)
      → (((x : List ℕ) → offers (puts_in some) x ≡ true → offers (puts_in q.ops) x ≡ true) → AllByRecursion (λ (t : NamedOp). IsAnswerTo t (done q t)) some)
      → AllByRecursion (λ (t : NamedOp). IsAnswerTo t (done q t)) (op ∷ some)
  done_step true op some kind offered rest = (done_by true op kind (λ f. absurd (both_ways true f refl)), rest offered)
  done_step false op some kind offered rest = (
    done_by false op kind (λ f. offered op.name (or_left (same op.name op.name) _ (same-refl op.name))),
    rest (λ x i. offered x (or_right (same x op.name) _ i)),
  )

  done_all : (some : List NamedOp) → ((x : List ℕ) → offers (puts_in some) x ≡ true → offers (puts_in q.ops) x ≡ true) → AllByRecursion (λ (t : NamedOp). IsAnswerTo t (done q t)) some
  done_all [] offered = tt
  done_all (op ∷ some) offered = done_step (is_deletion op.kind) op some refl offered (λ within. done_all some within)

-- ---- outcomes, one for each operation

told_zip : (q : Request) (some : List NamedOp) (faults : List (Option OpFault)) → length faults ≡ length some → AllByRecursion (λ (t : NamedOp). IsAnswerTo t (done q t)) some
    → AllZip IsAnswerTo some (map (outcome_of q) (zip some faults))
told_zip q [] faults len all = tt
told_zip q (op ∷ some) [] len all = absurd (omega (arith, len))
told_zip q (op ∷ some) (None ∷ faults) len all = (all.0, told_zip q some faults (omega (arith, len)) all.1)
told_zip q (op ∷ some) (Some fault ∷ faults) len all = (tt, told_zip q some faults (omega (arith, len)) all.1)

refused_zip : (q : Request) (some : List NamedOp) (faults : List (Option OpFault)) → length faults ≡ length some → list_all is_some faults ≡ true
    → AllZip IsAnswerTo some (map (outcome_of q) (zip some faults))
refused_zip q [] faults len all = tt
refused_zip q (op ∷ some) [] len all = absurd (omega (arith, len))
refused_zip q (op ∷ some) (None ∷ faults) len all = absurd (both_ways false refl all)
refused_zip q (op ∷ some) (Some fault ∷ faults) len all = (tt, refused_zip q some faults (omega (arith, len)) all)

-- of operations that are judged together, by whether one has a fault
pub told_together : (b : Bool) (q : Request) (pasts : List Past) → (let faults = together (faults_of (ground q pasts) q.ops) in
    has_fault faults ≡ b → length faults ≡ length q.ops → (b ≡ true → list_all is_some faults ≡ true)
    → AllZip IsAnswerTo q.ops (map (outcome_of q) (zip q.ops faults)))
told_together true q pasts is len all = refused_zip q q.ops (together (faults_of (ground q pasts) q.ops)) len (all refl)
told_together false q pasts is len all = told_zip q q.ops (together (faults_of (ground q pasts) q.ops)) len
    (done_all q pasts (none-refused (faults_of (ground q pasts) q.ops) is) q.ops (λ x i. i))

-- one operation with its outcome, and the others with theirs
pub one_told : (op : NamedOp) (ops : List NamedOp) (first rest : List Outcome) → AllZip IsAnswerTo (op ∷ []) first → AllZip IsAnswerTo ops rest → AllZip IsAnswerTo (op ∷ ops) (first ++ rest)
one_told op ops [] rest one all = absurd one
one_told op ops (o ∷ []) rest one all = (one.0, all)
one_told op ops (o ∷ p ∷ first) rest one all = absurd one.1
