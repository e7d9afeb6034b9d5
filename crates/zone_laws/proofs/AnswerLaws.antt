-- One outcome for each operation, and one commit for a request that is judged as one.
use Rattle.std.proofs.Common.{◌≡◌, ◌≤◌, ℕ, suc, ◌+◌, List, [], ◌∷◌, ◌++◌, Bool, true, false, refl, sym, ap, ◌∙◌, subst, arith, Some, None, Option, map, length, length-append, ⊎_elim}
use Rattle.std.specs.Prelude.{zip, is_some, unwrap_or, if◌then◌else◌}
use Rattle.std.specs.Option.{option_map_or}
use Rattle.std.specs.List.{list_any, list_all, AllZip}
use Rattle.std.proofs.lemmas.Bool.{both_ways, and_parts, and_from, or_left, or_right, or_cases}
use Rattle.std.proofs.lemmas.List.{length-map}
use Rattle.record_model.specs.declared.records.Record.{Record}
use Rattle.zone_model.specs.declared.outcomes.OpFault.{OpFault}
use Rattle.zone_model.specs.declared.outcomes.OpFault.TheVariants.{Atomic}
use Rattle.zone_model.specs.declared.outcomes.Outcome.TheVariants.{Put, Deleted}
use Rattle.zone_model.specs.declared.commits.Commit.{Commit}
use Rattle.zone_model.specs.declared.commits.Write.{Write}
use Rattle.zone_model.specs.declared.commits.Act.TheVariants.{Writes}
use Rattle.zone_model.specs.Requests.{Caller, is_deletion, NamedOp}
use Rattle.zone_model.specs.Records.{record_at}
use Rattle.zone_model.specs.Views.{is_empty, view_of}
use Rattle.zone_model.specs.Past.{name_history}
use Rattle.zone_model.specs.Grounds.{grounds_of}
use Rattle.zone_model.specs.Judging.{faults_of, has_fault, together}
use Rattle.zone_model.specs.Effect.{Request, working, stamped, removed, writes, commits_with, effect}
use Rattle.zone_model.specs.Modifying.{outcome_of, is_judged_as_one, request_at, judgement_at, effect_at, modified_as_one, modified_apart}
use Rattle.zone_laws.specs.Answering.{is_refusal, IsAnswerTo, EachIsAnswered}
use Rattle.zone_laws.proofs.ConflictLaws.{all_judged}
use Rattle.zone_laws.proofs.OwnLaws.{told_together, one_told}

length_zip : {X Y : Type 0} (xs : List X) (ys : List Y) → length ys ≡ length xs → length (zip xs ys) ≡ length xs
length_zip [] ys e = refl
length_zip (x ∷ xs) [] e = e
length_zip (x ∷ xs) (y ∷ ys) e = ap suc (length_zip xs ys (omega (arith, e)))

module _ (caller : Caller) (moment : ℕ) where
  answers_as_one : (log : List Commit) (ops : List NamedOp) → length (modified_as_one caller moment log ops).outcomes ≡ length ops
  answers_as_one log ops = length-map (zip ops (judgement_at caller moment log ops)) (outcome_of (request_at caller moment log ops))
      ∙ length_zip ops (judgement_at caller moment log ops) (all_judged (view_of log caller.user caller.scope caller.key) (name_history log caller.key ops) ops caller)

  few_written : (q : Request) (ws : List Write) (b : Bool) → (let c : Commit = record { key = q.caller.key; user = q.caller.user; moment = q.moment; act = Writes ws } in
      length (if b then [] else c ∷ []) ≤ 1)
  few_written q ws true = omega arith
  few_written q ws false = omega arith

  few_with : (q : Request) (ws : List Write) (b : Bool) → length (if b then [] else commits_with q ws) ≤ 1
  few_with q ws true = omega arith
  few_with q ws false = few_written q ws (is_empty ws)

  few_as_one : (log : List Commit) (ops : List NamedOp) → length (effect_at caller moment log ops) ≤ 1
  few_as_one log ops =
      let q = request_at caller moment log ops in
      few_with q (writes q (removed q)) (has_fault (judgement_at caller moment log ops))

  answers_apart : (ops : List NamedOp) (log : List Commit) → length (modified_apart caller moment log ops).outcomes ≡ length ops
  answers_apart [] log = refl
  answers_apart (op ∷ ops) log =
      let made = effect_at caller moment log (op ∷ []) in
      length-append (modified_as_one caller moment log (op ∷ [])).outcomes (modified_apart caller moment (log ++ made) ops).outcomes
      ∙ (λ i. answers_as_one log (op ∷ []) i + answers_apart ops (log ++ made) i) ∙ omega arith

  few_apart : (ops : List NamedOp) (log : List Commit) → length (modified_apart caller moment log ops).commits ≤ length ops
  few_apart [] log = omega arith
  few_apart (op ∷ ops) log =
      let made = effect_at caller moment log (op ∷ []) in
      omega (
        arith,
        length-append made (modified_apart caller moment (log ++ made) ops).commits,
        few_as_one log (op ∷ []),
        few_apart ops (log ++ made),
      )

-- ---- refusals

done_by : (q : Request) (op : NamedOp) (d : Bool) (o : Option Record) → is_refusal (option_map_or (λ r. Put (stamped q r)) (if d then None else o) (Deleted op.name)) ≡ false
done_by q op true o = refl
done_by q op false None = refl
done_by q op false (Some r) = refl

refusal_is : (q : Request) (op : NamedOp) (judged : Option OpFault) → is_refusal (outcome_of q (op, judged)) ≡ is_some judged
refusal_is q op None = done_by q op (is_deletion op.kind) (record_at (working q) op.name)
refusal_is q op (Some fault) = refl

refused_some : (q : Request) (ops : List NamedOp) (judged : List (Option OpFault)) → list_any is_refusal (map (outcome_of q) (zip ops judged)) ≡ true → has_fault judged ≡ true
refused_some q [] judged e = absurd (both_ways false refl e)
refused_some q (op ∷ ops) [] e = absurd (both_ways false refl e)
refused_some q (op ∷ ops) (j ∷ judged) e = ⊎_elim
    (λ (h : is_refusal (outcome_of q (op, j)) ≡ true). or_left (is_some j) _ (sym (refusal_is q op j) ∙ h))
    (λ (h : list_any is_refusal (map (outcome_of q) (zip ops judged)) ≡ true). or_right (is_some j) _ (refused_some q ops judged h))
    (or_cases (is_refusal (outcome_of q (op, j))) _ e)

refused_all : (q : Request) (ops : List NamedOp) (judged : List (Option OpFault)) → list_all is_some judged ≡ true → list_all is_refusal (map (outcome_of q) (zip ops judged)) ≡ true
refused_all q [] judged e = refl
refused_all q (op ∷ ops) [] e = refl
refused_all q (op ∷ ops) (j ∷ judged) e =
    let parts = and_parts (is_some j) _ e in
    and_from (is_refusal (outcome_of q (op, j))) _ (refusal_is q op j ∙ parts.0) (refused_all q ops judged parts.1)

all_some : (faults : List (Option OpFault)) → list_all is_some (map (λ o. Some (unwrap_or o Atomic)) faults) ≡ true
all_some [] = refl
all_some (o ∷ faults) = all_some faults

together_by : (b : Bool) (faults : List (Option OpFault)) → has_fault faults ≡ b → has_fault (if b then map (λ o. Some (unwrap_or o Atomic)) faults else faults) ≡ true
    → list_all is_some (if b then map (λ o. Some (unwrap_or o Atomic)) faults else faults) ≡ true
together_by true faults is e = all_some faults
together_by false faults is e = absurd (both_ways (has_fault faults) is e)

-- where one is refused, all are
pub all-refused : (faults : List (Option OpFault)) → has_fault (together faults) ≡ true → list_all is_some (together faults) ≡ true
all-refused faults e = together_by (has_fault faults) faults refl e

module _ (caller : Caller) (moment : ℕ) (log : List Commit) (ops : List NamedOp) where
  none_as_one : list_any is_refusal (modified_as_one caller moment log ops).outcomes ≡ true
      → ((modified_as_one caller moment log ops).commits ≡ []) × (list_all is_refusal (modified_as_one caller moment log ops).outcomes ≡ true)
  none_as_one e =
      let q = request_at caller moment log ops in
      let fault = refused_some q ops (judgement_at caller moment log ops) e in
      let v = view_of log caller.user caller.scope caller.key in (
        ap (λ b. if b then [] else effect q) fault,
        refused_all q ops (judgement_at caller moment log ops) (all-refused (faults_of (grounds_of caller (name_history log caller.key ops) v.rows ops) ops) fault),
      )

  each_by : (b : Bool) → length (if b then modified_as_one caller moment log ops else modified_apart caller moment log ops).outcomes ≡ length ops
  each_by true = answers_as_one caller moment log ops
  each_by false = answers_apart caller moment ops log

-- ---- each tells of its own operation

module _ (caller : Caller) (moment : ℕ) where
  own_as_one : (log : List Commit) (ops : List NamedOp) → AllZip IsAnswerTo ops (modified_as_one caller moment log ops).outcomes
  own_as_one log ops =
      let v = view_of log caller.user caller.scope caller.key in
      let pasts = name_history log caller.key ops in
      told_together (has_fault (judgement_at caller moment log ops)) (request_at caller moment log ops) pasts refl (all_judged v pasts ops caller)
      (all-refused (faults_of (grounds_of caller pasts v.rows ops) ops))

  own_apart : (ops : List NamedOp) (log : List Commit) → AllZip IsAnswerTo ops (modified_apart caller moment log ops).outcomes
  own_apart [] log = tt
  own_apart (op ∷ ops) log =
      let made = effect_at caller moment log (op ∷ []) in
      one_told op ops (modified_as_one caller moment log (op ∷ [])).outcomes (modified_apart caller moment (log ++ made) ops).outcomes (own_as_one log (op ∷ [])) (own_apart ops (log ++ made))

  own_by : (b : Bool) (log : List Commit) (ops : List NamedOp) → AllZip IsAnswerTo ops (if b then modified_as_one caller moment log ops else modified_apart caller moment log ops).outcomes
  own_by true log ops = own_as_one log ops
  own_by false log ops = own_apart ops log

pub each_answered : EachIsAnswered
each_answered = record {
  each = λ caller moment log atomic ops. each_by caller moment log ops (is_judged_as_one caller.key atomic);
  own = λ caller moment log atomic. own_by caller moment (is_judged_as_one caller.key atomic) log;
  few = λ caller moment log atomic ops apart.
      subst (λ b. length (if b then modified_as_one caller moment log ops else modified_apart caller moment log ops).commits ≤ length ops) (sym apart) (few_apart caller moment ops log);
  one = λ caller moment log atomic ops as_one.
      subst (λ b. length (if b then modified_as_one caller moment log ops else modified_apart caller moment log ops).commits ≤ 1) (sym as_one) (few_as_one caller moment log ops);
  none = λ caller moment log atomic ops as_one.
      subst (λ b. list_any is_refusal (if b then modified_as_one caller moment log ops else modified_apart caller moment log ops).outcomes ≡ true
      → ((if b then modified_as_one caller moment log ops else modified_apart caller moment log ops).commits ≡ [])
      × (list_all is_refusal (if b then modified_as_one caller moment log ops else modified_apart caller moment log ops).outcomes ≡ true))
      (sym as_one) (none_as_one caller moment log ops);
}
