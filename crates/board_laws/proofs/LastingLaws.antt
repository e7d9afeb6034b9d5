-- An ask leaves the history of its lock legal.
use Rattle.std.proofs.Common.{◌≡◌, ℕ, suc, ◌≤◌, List, [], ◌∷◌, ◌++◌, length, Bool, true, false, refl, sym, ap, ◌∙◌, subst, arith, append-nil}
use Rattle.std.specs.Prelude.{nat_lt, nat_le, ◌==◌, if◌then◌else◌}
use Rattle.std.specs.List.{AllByRecursion}
use Rattle.std.proofs.lemmas.Bool.{and_from, eq-eqb, lt-ltb, le-leb}
use Rattle.std.proofs.lemmas.List.Folds.{list_all-append}
use Rattle.ck_base.specs.Names.{IsName, lock_of_names}
use Rattle.ck_base.specs.declared.key.ZoneKey.{ZoneKey}
use Rattle.ck_base.specs.declared.scope.Scope.{Scope}
use Rattle.zone_model.specs.declared.operations.Op.{Op}
use Rattle.zone_model.specs.declared.commits.Act.TheVariants.{Writes}
use Rattle.zone_model.specs.declared.commits.Commit.{Commit}
use Rattle.zone_model.specs.declared.events.Event.{Event}
use Rattle.zone_model.specs.declared.events.Event.TheVariants.{Made, StoreFailed}
use Rattle.zone_model.specs.Views.{is_empty, view_of}
use Rattle.zone_model.specs.Form.{IsInForm}
use Rattle.zone_model.specs.Requests.{Caller, NamedOp}
use Rattle.zone_model.specs.Judging.{has_fault}
use Rattle.zone_model.specs.Effect.{removed, writes}
use Rattle.zone_model.specs.Modifying.{is_judged_as_one, request_at, judgement_at, effect_at, modified_as_one, modified_apart, commits_of_request}
use Rattle.zone_laws.specs.LawfulTests.{are_lawful, are_of_lock, is_legal_event}
use Rattle.zone_model.specs.Events.{log_of, own}
use Rattle.zone_model.specs.Legal.{faults_told, has_risen, IsLegal}
use Rattle.zone_laws.specs.Laws.{HaveRoom, HasFewWrites}
use Rattle.zone_laws.proofs.AnswerLaws.{each_answered}
use Rattle.zone_laws.proofs.MeantLaws.{meant_lawful}
use Rattle.zone_laws.proofs.TestLaws.{in_turn_back, event_so}
use Rattle.zone_laws.proofs.StoredLaws.{effects_form}
use Rattle.zone_laws.proofs.LegalLaws.{histories_legal}
use Rattle.board_model.specs.declared.parts.Part.{Part}
use Rattle.board_model.specs.declared.parts.Part.TheVariants.{Modify, Lookup}
use Rattle.board_model.specs.Asks.{stored, failed, caller_in, ops_at, commits_by, event_of, made}
use Rattle.board_model.specs.Parts.{MayBeAsked}
use Rattle.board_laws.specs.Lasting.{IsGivenModify, IsByRules, HasRoom, AsksStayLegal}
use Rattle.board_laws.proofs.DrawnLaws.{all_drawn, named_as_given, named-length}
use Rattle.board_laws.proofs.ThereLaws.{there-seen}

-- ---- an event more

abbrev next_made : ℕ → List Event → List Commit → Event
next_made seat events cs = Made (record { seat = seat; count = suc (length (own seat events)) }) cs

legal_made : (lock seat : ℕ) (events : List Event) (c : Commit) (cs : List Commit) → length (c ∷ cs) ≤ 200 → are_of_lock lock (c ∷ cs) ≡ true → are_lawful (log_of events) (c ∷ cs) ≡ true
    → is_legal_event lock events (next_made seat events (c ∷ cs)) ≡ true
legal_made lock seat events c cs few at lawful =
    and_from (suc (length (own seat events)) == suc (length (own seat events))) _ (eq-eqb _ _ refl)
    (and_from (nat_lt 0 (length (c ∷ cs))) _ (lt-ltb 0 (length (c ∷ cs)) (omega arith))
    (and_from (nat_le (length (c ∷ cs)) 200) _ (le-leb _ _ few) (and_from (are_of_lock lock (c ∷ cs)) _ at lawful)))

legal_more : (lock seat : ℕ) (events : List Event) (cs : List Commit) → IsLegal lock events → length cs ≤ 200 → are_of_lock lock cs ≡ true → are_lawful (log_of events) cs ≡ true → AllByRecursion IsInForm cs
    → IsLegal lock (events ++ event_of stored seat events cs)
legal_more lock seat events [] legal few at lawful formed = subst (IsLegal lock) (sym (append-nil events)) legal
legal_more lock seat events (c ∷ cs) legal few at lawful formed =
    histories_legal.grows lock events (next_made seat events (c ∷ cs)) legal (event_so lock events (next_made seat events (c ∷ cs)) (legal_made lock seat events c cs few at lawful) formed)

failed_more : (from to lock seat : ℕ) (events : List Event) (cs : List Commit) → IsLegal lock events → faults_told events ≤ from → has_risen from to ≡ true
    → IsLegal lock (events ++ event_of (failed from to) seat events cs)
failed_more from to lock seat events [] legal since risen = subst (IsLegal lock) (sym (append-nil events)) legal
failed_more from to lock seat events (c ∷ cs) legal since risen =
    let e : Event = StoreFailed (record { seat = seat; count = suc (length (own seat events)) }) from to in
    histories_legal.grows lock events e legal (event_so lock events e
    (and_from (suc (length (own seat events)) == suc (length (own seat events))) _ (eq-eqb _ _ refl) (and_from (nat_le (faults_told events) from) _ (le-leb _ _ since) risen)) tt)

-- ---- what a request commits

module _ (caller : Caller) (moment lock : ℕ) (at : lock_of_names caller.key.owner caller.key.zone ≡ lock) where
  one_at : (a b : Bool) (c : Commit) → c.key ≡ caller.key → are_of_lock lock (if a then [] else (if b then [] else c ∷ [])) ≡ true
  one_at true b c is = refl
  one_at false true c is = refl
  one_at false false c is = and_from (lock_of_names c.key.owner c.key.zone == lock) true (eq-eqb _ _ (ap (λ (k : ZoneKey). lock_of_names k.owner k.zone) is ∙ at)) refl

  effect_there : (log : List Commit) (ops : List NamedOp) → are_of_lock lock (effect_at caller moment log ops) ≡ true
  effect_there log ops =
      let q = request_at caller moment log ops in
      one_at (has_fault (judgement_at caller moment log ops)) (is_empty (writes q (removed q))) (record { key = caller.key; user = caller.user; moment = moment; act = Writes (writes q (removed q)) }) refl

  apart_there : (ops : List NamedOp) (log : List Commit) → are_of_lock lock (modified_apart caller moment log ops).commits ≡ true
  apart_there [] log = refl
  apart_there (op ∷ ops) log =
      let made = effect_at caller moment log (op ∷ []) in
      list_all-append (λ (c : Commit). lock_of_names c.key.owner c.key.zone == lock) made (modified_apart caller moment (log ++ made) ops).commits
      ∙ and_from (are_of_lock lock made) _ (effect_there log (op ∷ [])) (apart_there ops (log ++ made))

  request_there : (b : Bool) (log : List Commit) (ops : List NamedOp)
      → are_of_lock lock (if b then modified_as_one caller moment log ops else modified_apart caller moment log ops).commits ≡ true
  request_there true log ops = effect_there log ops
  request_there false log ops = apart_there ops log

few_by : (b : Bool) (caller : Caller) (moment : ℕ) (log : List Commit) (atomic : Bool) (ops : List NamedOp) → is_judged_as_one caller.key atomic ≡ b → length ops ≤ 200
    → length (commits_of_request caller moment log atomic ops) ≤ 200
few_by true caller moment log atomic ops is few = omega (arith, each_answered.one caller moment log atomic ops is)
few_by false caller moment log atomic ops is few = omega (arith, few, each_answered.few caller moment log atomic ops is)

-- ---- asks

module _ (lock seat : ℕ) (events : List Event) (user : List ℕ) (scope : Scope) (key : ZoneKey) (atomic : Bool) (ops : List Op) (moment : ℕ) (words : List (List ℕ))
    (legal : IsLegal lock events) (right : IsGivenModify lock user key ops moment) where
  abbrev its_caller : Caller
  its_caller = caller_in user scope key

  abbrev named : List NamedOp
  named = ops_at key ops words

  abbrev its_commits : List Commit
  its_commits = commits_of_request its_caller moment (log_of events) atomic named

  seen_legal : (b : Bool) → (view_of (log_of events) user scope key).here ≡ b → HaveRoom (log_of events) key (if b then its_commits else []) → AllByRecursion HasFewWrites (if b then its_commits else [])
      → IsLegal lock (events ++ event_of stored seat events (if b then its_commits else []))
  seen_legal true here room writes =
      let lock_of = lock_of_names key.owner key.zone in
      let lawful = histories_legal.lawful lock events legal in
      let there = there-seen (log_of events) user scope key (in_turn_back [] (log_of events) lawful) here in
      let are = named_as_given lock_of ops words in
      let roots = meant_lawful.roots ops named right.meant are in
      let given = meant_lawful.puts ops named right.meant are (all_drawn lock_of ops words (omega arith) right.meant.meant) in
      legal_more lock seat events its_commits legal
      (few_by (is_judged_as_one key atomic) its_caller moment (log_of events) atomic named refl (omega (arith, named-length lock_of ops words, right.meant.few)))
      (request_there its_caller moment lock right.of_lock (is_judged_as_one key atomic) (log_of events) named)
      (in_turn_back (log_of events) its_commits (meant_lawful.commits its_caller moment (log_of events) atomic ops named lawful there right.meant are))
      (effects_form.requests its_caller moment (log_of events) atomic named lawful (histories_legal.formed lock events legal) there roots given right.named right.by_user right.in_time room writes)
  seen_legal false here room writes = subst (IsLegal lock) (sym (append-nil events)) legal

stored_legal : (lock seat : ℕ) (events : List Event) (part : Part) → IsLegal lock events → IsByRules lock part → HasRoom lock events part → IsLegal lock (events ++ made stored lock seat events part)
stored_legal lock seat events (Modify user scope key atomic ops moment words) legal right room =
    seen_legal lock seat events user scope key atomic ops moment words legal right (view_of (log_of events) user scope key).here refl room.puts room.writes
stored_legal lock seat events (Lookup user scope key names) legal right room = subst (IsLegal lock) (sym (append-nil events)) legal

is_built : (lock : ℕ) (part : Part) → MayBeAsked lock part → IsByRules lock part
is_built lock (Modify user scope key atomic ops moment words) may =
    record { of_lock = may.0.of_lock; named = may.0.named; by_user = subst IsName (sym may.0.by_owner) may.0.named.0; meant = may.1.meant; in_time = may.1.in_time }
is_built lock (Lookup user scope key names) may = tt

pub asks_legal : AsksStayLegal
asks_legal = record {
  commits = stored_legal;
  faults = λ from to lock seat events part legal since risen. failed_more from to lock seat events (commits_by lock events part) legal since risen;
  built = is_built;
}
