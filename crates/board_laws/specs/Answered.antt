-- What is answered and made of a part at a history, whatever lock is asked.
use Rattle.std.specs.Prelude.{◌≡◌, ◌≤◌, ℕ, Bool, true, false, List, [], ◌++◌, length, map}
use Rattle.std.specs.List.{list_any}
use Rattle.ck_base.specs.declared.key.ZoneKey.{ZoneKey}
use Rattle.ck_base.specs.declared.scope.Scope.{Scope}
use Rattle.record_model.specs.declared.view.View.{View}
use Rattle.zone_model.specs.declared.operations.Op.{Op}
use Rattle.zone_model.specs.declared.outcomes.Modified.{Modified}
use Rattle.zone_model.specs.declared.events.Event.{Event}
use Rattle.zone_model.specs.Names.{has_twice}
use Rattle.zone_model.specs.Records.{record_at}
use Rattle.zone_model.specs.Zones.{zone_at}
use Rattle.zone_model.specs.Requests.{roots_in}
use Rattle.zone_model.specs.Lawful.{MayFollowInTurn}
use Rattle.zone_laws.specs.Answering.{has_written}
use Rattle.zone_laws.specs.Stepping.{tells_written_at}
use Rattle.zone_model.specs.Views.{view_of}
use Rattle.zone_model.specs.Modifying.{is_judged_as_one, modified, steps}
use Rattle.zone_model.specs.Events.{log_of}
use Rattle.board_model.specs.declared.parts.Part.{Part}
use Rattle.board_model.specs.declared.parts.Part.TheVariants.{Modify, Lookup}
use Rattle.board_model.specs.declared.answers.Answer.{Answer}
use Rattle.board_model.specs.declared.answers.Answer.TheVariants.{Modify as ModifyAnswer, Lookup as LookupAnswer, NoZone, StoreFailed}
use Rattle.board_model.specs.Asks.{Append, stored, failed, caller_in, sight, answer, commits_by, made, makes, told, ops_at}

-- the answer to a part at a history
abbrev pub answer_at : ℕ → List Event → Part → Answer
answer_at lock events part = answer lock (sight lock events part) part

-- what the user of a part sees of its zone
abbrev pub view_for : List Event → Part → View
view_for events (Modify user scope key atomic ops moment words) = view_of (log_of events) user scope key
view_for events (Lookup user scope key names) = view_of (log_of events) user scope key

-- what the operations come to at a history, with their drawn names
abbrev pub modified_at : List Event → List ℕ → Scope → ZoneKey → Bool → List Op → ℕ → List (List ℕ) → Modified
modified_at events user scope key atomic ops moment words = modified (caller_in user scope key) moment (log_of events) atomic (ops_at key ops words)

-- Where its store does not fail: of a zone that the user sees, a modify is answered with the outcomes of its operations, and a lookup with the records of the user's view.
-- Just of a zone that the user doesn't see it is told so.
pub record AnswersAreTold : Type 0 where
  pub modify : (lock : ℕ) (events : List Event) (user : List ℕ) (scope : Scope) (key : ZoneKey) (atomic : Bool) (ops : List Op) (moment : ℕ) (words : List (List ℕ))
      → (view_of (log_of events) user scope key).here ≡ true
      → answer_at lock events (Modify user scope key atomic ops moment words) ≡ ModifyAnswer (modified_at events user scope key atomic ops moment words).outcomes
  pub lookup : (lock : ℕ) (events : List Event) (user : List ℕ) (scope : Scope) (key : ZoneKey) (names : List (List ℕ)) → (view_of (log_of events) user scope key).here ≡ true
      → answer_at lock events (Lookup user scope key names) ≡ LookupAnswer (map (record_at (view_of (log_of events) user scope key).rows) names)
  pub unseen : (lock : ℕ) (events : List Event) (part : Part) → (view_for events part).here ≡ false → answer_at lock events part ≡ NoZone
  pub no_other : (lock : ℕ) (events : List Event) (part : Part) → answer_at lock events part ≡ NoZone → (view_for events part).here ≡ false

-- What is made are the commits of the operations, where the user sees the zone; of a lookup nothing. It is one event at most, behind which the
-- log has just these commits more.
pub record CommitsAreMade : Type 0 where
  pub modify : (lock : ℕ) (events : List Event) (user : List ℕ) (scope : Scope) (key : ZoneKey) (atomic : Bool) (ops : List Op) (moment : ℕ) (words : List (List ℕ))
      → (view_of (log_of events) user scope key).here ≡ true
      → commits_by lock events (Modify user scope key atomic ops moment words) ≡ (modified_at events user scope key atomic ops moment words).commits
  pub lookup : (lock : ℕ) (events : List Event) (user : List ℕ) (scope : Scope) (key : ZoneKey) (names : List (List ℕ)) → commits_by lock events (Lookup user scope key names) ≡ []
  pub unseen : (lock : ℕ) (events : List Event) (part : Part) → (view_for events part).here ≡ false → commits_by lock events part ≡ []
  pub one : (append : Append) (lock seat : ℕ) (events : List Event) (part : Part) → length (made append lock seat events part) ≤ 1
  pub log : (lock seat : ℕ) (events : List Event) (part : Part) → log_of (events ++ made stored lock seat events part) ≡ log_of events ++ commits_by lock events part

-- A store that fails commits nothing, and just where something is made it is told instead of the answer.
pub record FailuresAreTold : Type 0 where
  pub log_kept : (from to lock seat : ℕ) (events : List Event) (part : Part) → log_of (events ++ made (failed from to) lock seat events part) ≡ log_of events
  pub failed_told : (from to lock seat : ℕ) (events : List Event) (part : Part) (a : Answer) → makes (commits_by lock events part) ≡ true → told (made (failed from to) lock seat events part) a ≡ StoreFailed
  pub stored_told : (lock seat : ℕ) (events : List Event) (part : Part) (a : Answer) → told (made stored lock seat events part) a ≡ a
  pub idle : (append : Append) (lock seat : ℕ) (events : List Event) (part : Part) → makes (commits_by lock events part) ≡ false → made append lock seat events part ≡ []

-- Of a zone that is there and that the user sees, a modify makes something just where some outcome tells of something written: by what is seen
-- before the request where it is judged as one, and else before the operation.
pub record MadeWhereTold : Type 0 where
  pub as_one : (lock : ℕ) (events : List Event) (user : List ℕ) (scope : Scope) (key : ZoneKey) (atomic : Bool) (ops : List Op) (moment : ℕ) (words : List (List ℕ))
      → is_judged_as_one key atomic ≡ true
      → MayFollowInTurn [] (log_of events) → (zone_at (log_of events) key).there ≡ true → has_twice (roots_in (ops_at key ops words)) ≡ false
      → (view_of (log_of events) user scope key).here ≡ true
      → makes (commits_by lock events (Modify user scope key atomic ops moment words))
      ≡ list_any (has_written (view_of (log_of events) user scope key).rows) (modified_at events user scope key atomic ops moment words).outcomes
  pub apart : (lock : ℕ) (events : List Event) (user : List ℕ) (scope : Scope) (key : ZoneKey) (atomic : Bool) (ops : List Op) (moment : ℕ) (words : List (List ℕ))
      → is_judged_as_one key atomic ≡ false
      → MayFollowInTurn [] (log_of events) → (zone_at (log_of events) key).there ≡ true → (view_of (log_of events) user scope key).here ≡ true
      → makes (commits_by lock events (Modify user scope key atomic ops moment words))
      ≡ list_any (tells_written_at (caller_in user scope key) moment) (steps (caller_in user scope key) moment (log_of events) (ops_at key ops words))
