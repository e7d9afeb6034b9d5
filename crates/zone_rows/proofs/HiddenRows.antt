-- What is hidden can change the sights of operations that are done one after another, at a worked example.
use Rattle.std.proofs.Common.{◌≡◌, ℕ, List, [], ◌∷◌, ◌++◌, map, Some, None, refl, ap, ◌∙◌, true, false}
use Rattle.std.specs.Fmt.{digits}
use Rattle.ck_base.specs.declared.scope.Scope.TheVariants.{Shared}
use Rattle.record_model.specs.declared.value.Action.TheVariants.{DeleteSelf}
use Rattle.record_model.specs.declared.value.Value.{Value}
use Rattle.record_model.specs.declared.value.Value.TheVariants.{Reference}
use Rattle.record_model.specs.declared.records.Record.{Record}
use Rattle.share_records.specs.declared.permission.Permission.TheVariants.{Nothing, ReadWrite}
use Rattle.zone_model.specs.Requests.{NamedOp}
use Rattle.zone_model.specs.declared.outcomes.OpFault.TheVariants.{NotFound}
use Rattle.zone_model.specs.declared.outcomes.Outcome.TheVariants.{Put as PutTold, Deleted, Refused}
use Rattle.zone_model.specs.declared.commits.Act.TheVariants.{Writes}
use Rattle.zone_model.specs.declared.commits.Write.TheVariants.{Put, Remove}
use Rattle.zone_model.specs.declared.commits.Commit.{Commit}
use Rattle.zone_model.specs.declared.events.Event.{Event}
use Rattle.zone_model.specs.declared.events.Event.TheVariants.{Made}
use Rattle.zone_model.specs.Views.{view_of}
use Rattle.zone_model.specs.Past.{name_history}
use Rattle.zone_model.specs.References.{references_in}
use Rattle.zone_model.specs.Grounds.{names_taken}
use Rattle.zone_model.specs.Cascade.{due, removed_names}
use Rattle.zone_model.specs.Effect.{Request, after_puts, commits_with, writes}
use Rattle.zone_model.specs.Modifying.{request_at, judgement_at, effect_at}
use Rattle.zone_model.specs.Events.{log_of}
use Rattle.zone_laws.specs.LawfulTests.{is_legal}
use Rattle.board_model.specs.declared.parts.Part.{Part}
use Rattle.board_model.specs.declared.parts.Part.TheVariants.{Modify}
use Rattle.board_model.specs.declared.answers.Answer.{Answer}
use Rattle.board_model.specs.declared.answers.Answer.TheVariants.{Modify as ModifyAnswer}
use Rattle.board_model.specs.Sights.{OpSight, Sight, modifying, viewing, op_sight}
use Rattle.board_model.specs.Asks.{sight, answer}
use Rattle.zone_laws.specs.MeantRequests.{as_given}
use Rattle.zone_rows.proofs.RowWords.{bob, notes, update, delete, act, made, tags}
use Rattle.zone_rows.proofs.RowRecords.{a, k, m, r, s, x, row, marked, member, share_row}
use Rattle.zone_rows.proofs.ReferenceRows.{to, references_to, size_to, by_bob, judged_effect, effect_from}

-- ---- two histories

-- a stands below r, and m below k; bob may write what is below r, and what is below m
abbrev rows_with : Record → List Record
rows_with hidden =
    row a 1 (Some r) ∷ hidden ∷ marked (row m 1 (Some k)) x ∷ marked (row r 1 None) s ∷ share_row s r Nothing (member bob ReadWrite true ∷ [])
    ∷ share_row x m Nothing (member bob ReadWrite true ∷ []) ∷ []

abbrev lent : List Event
lent = Made (record { seat = 0; count = 1 }) made ∷ Made (record { seat = 0; count = 2 }) (act (Writes (map Put (rows_with (row k 1 None)))) ∷ []) ∷ []

-- then ann writes k, which bob does not see, so that it goes with a
abbrev bound_k : Value → Record
bound_k v = record (row k 2 None) { fields = (a, v) ∷ [] }

abbrev to_a : Value
to_a = Reference (to DeleteSelf a)

abbrev lent_later : Value → List Event
lent_later v = lent ++ Made (record { seat = 0; count = 3 }) (act (Writes (Put (bound_k v) ∷ [])) ∷ []) ∷ []

pub lent_is_legal : is_legal 6 (lent_later to_a) ≡ true
lent_is_legal = rw (size_to (to DeleteSelf a)) refl

-- ---- what bob asks

abbrev first : List NamedOp
first = delete a 1 ∷ []

abbrev second : List NamedOp
second = update m 1 ∷ []

pub no_view_changes : view_of (log_of (lent_later to_a)) bob Shared notes ≡ view_of (log_of lent) bob Shared notes
no_view_changes = refl

pub no_past_changes : name_history (log_of (lent_later to_a)) notes (first ++ second) ≡ name_history (log_of lent) notes (first ++ second)
no_past_changes = refl

abbrev in_turn : Part
in_turn = Modify bob Shared notes false (map as_given (first ++ second)) 1000 []

-- the names and tags that are seen before each operation
abbrev each_seen : Sight → List (List (List ℕ × ℕ))
each_seen (modifying before each) = map (λ (o : OpSight). tags o.view.rows) each
each_seen (viewing view) = []

abbrev answer_at : List Event → Part → Answer
answer_at events part = answer 0 (sight 0 events part) part

-- ---- what he finds before ann wrote k

pub m_is_found : each_seen (sight 0 lent in_turn) ≡ ((a, 1) ∷ (m, 1) ∷ (r, 1) ∷ (s, 1) ∷ (x, 1) ∷ []) ∷ ((m, 1) ∷ (r, 1) ∷ (s, 1) ∷ (x, 1) ∷ []) ∷ []
unfolding digits
m_is_found = refl

-- m as he changed it
abbrev changed_m : Record
changed_m = record (marked (row m 2 (Some k)) x) { modified = record { moment = 1000; user = bob } }

pub m_is_changed : answer_at lent in_turn ≡ ModifyAnswer (Deleted a ∷ PutTold changed_m ∷ [])
unfolding digits
m_is_changed = refl

-- ---- and what behind it: k goes with a, m with k, and x with m

abbrev asked : Request
asked = request_at by_bob 1000 (log_of (lent_later to_a)) first

-- the rounds of the cascade
module _ (v : Value) (is : references_in v ≡ to DeleteSelf a ∷ []) where
  abbrev next : List (List ℕ) → List (List ℕ)
  next names = due (rows_with (bound_k v)) (a ∷ []) names

  k_goes : next (a ∷ []) ≡ a ∷ k ∷ []
  k_goes = rw is refl

  m_goes : next (a ∷ k ∷ []) ≡ a ∷ k ∷ m ∷ []
  m_goes = rw is refl

  x_goes : next (a ∷ k ∷ m ∷ []) ≡ a ∷ k ∷ m ∷ x ∷ []
  x_goes = rw is refl

  no_more_go : next (a ∷ k ∷ m ∷ x ∷ []) ≡ a ∷ k ∷ m ∷ x ∷ []
  no_more_go = rw is refl

  these_go : removed_names (rows_with (bound_k v)) (a ∷ []) ≡ a ∷ k ∷ m ∷ x ∷ []
  these_go = ap (λ names. next (next (next (next names)))) k_goes ∙ ap (λ names. next (next (next names))) m_goes ∙ ap (λ names. next (next names)) x_goes ∙ ap next no_more_go ∙ no_more_go

judged : judgement_at by_bob 1000 (log_of (lent_later to_a)) first ≡ None ∷ []
unfolding digits
judged = refl

no_puts : after_puts asked ≡ rows_with (bound_k to_a)
no_puts = refl

a_is_taken : names_taken by_bob (view_of (log_of (lent_later to_a)) bob Shared notes).rows first ≡ a ∷ []
unfolding digits
a_is_taken = refl

abbrev removal : List Commit
removal = record { key = notes; user = bob; moment = 1000; act = Writes (Remove a ∷ Remove k ∷ Remove m ∷ Remove x ∷ []) } ∷ []

written : commits_with asked (writes asked (a ∷ k ∷ m ∷ x ∷ [])) ≡ removal
unfolding digits
written = refl

pub all_go : effect_at by_bob 1000 (log_of (lent_later to_a)) first ≡ removal
all_go =
    judged_effect by_bob 1000 (log_of (lent_later to_a)) first (None ∷ []) judged refl
    ∙ effect_from asked (rows_with (bound_k to_a)) (a ∷ []) (a ∷ k ∷ m ∷ x ∷ []) no_puts a_is_taken (these_go to_a (references_to (to DeleteSelf a)))
    ∙ written

-- what is seen before each, where this is what the first commits
abbrev sight_behind : List Commit → Sight
sight_behind commits =
    modifying (op_sight by_bob 1000 (log_of (lent_later to_a)) (first ++ second))
    (op_sight by_bob 1000 (log_of (lent_later to_a)) first ∷ op_sight by_bob 1000 (log_of (lent_later to_a) ++ commits) second ∷ [])

-- so the second operation finds another view, though no view of his and no name that he offers had changed
pub m_is_not_there : each_seen (sight 0 (lent_later to_a) in_turn) ≡ ((a, 1) ∷ (m, 1) ∷ (r, 1) ∷ (s, 1) ∷ (x, 1) ∷ []) ∷ ((r, 1) ∷ (s, 1) ∷ []) ∷ []
unfolding digits
m_is_not_there = ap (λ commits. each_seen (sight_behind commits)) all_go

pub m_is_not_found : answer_at (lent_later to_a) in_turn ≡ ModifyAnswer (Deleted a ∷ Refused NotFound None ∷ [])
unfolding digits
m_is_not_found = ap (λ commits. answer 0 (sight_behind commits) in_turn) all_go

-- judged as one, nothing is told of it
pub as_one_it_is_the_same : sight 0 (lent_later to_a) (Modify bob Shared notes true (map as_given (first ++ second)) 1000 []) ≡ sight 0 lent (Modify bob Shared notes true (map as_given (first ++ second)) 1000 [])
as_one_it_is_the_same = refl
