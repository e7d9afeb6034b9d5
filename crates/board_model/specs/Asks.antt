-- What an ask is given to see, what it answers, and what it makes, at the history that it finds.
use Rattle.std.specs.Prelude.{ℕ, suc, Bool, true, false, not, ◌||◌, List, [], ◌∷◌, length, map, if◌then◌else◌}
use Rattle.ck_base.specs.Names.{lock_of_names}
use Rattle.ck_base.specs.declared.key.ZoneKey.{ZoneKey}
use Rattle.ck_base.specs.declared.scope.Scope.{Scope}
use Rattle.zone_model.specs.declared.operations.Op.{Op}
use Rattle.zone_model.specs.declared.commits.Commit.{Commit}
use Rattle.zone_model.specs.declared.events.Event.{Event}
use Rattle.zone_model.specs.declared.events.Event.TheVariants.{Made, StoreFailed}
use Rattle.zone_model.specs.Records.{record_at}
use Rattle.zone_model.specs.Views.{view_of}
use Rattle.zone_model.specs.Requests.{Caller, NamedOp}
use Rattle.zone_model.specs.Modifying.{is_judged_as_one, commits_of_request}
use Rattle.zone_model.specs.Events.{log_of, own}
use Rattle.drawn_names.specs.Drawing.{named_ops}
use Rattle.board_model.specs.declared.parts.Part.{Part}
use Rattle.board_model.specs.declared.parts.Part.TheVariants.{Modify, Lookup}
use Rattle.board_model.specs.declared.answers.Answer.{Answer}
use Rattle.board_model.specs.declared.answers.Answer.TheVariants.{Modify as ModifyAnswer, Lookup as LookupAnswer, NoZone, StoreFailed as NotStored}
use Rattle.board_model.specs.Sights.{Sight, modifying, viewing, op_sight, sights_of, outcomes_by}

abbrev pub caller_in : List ℕ → Scope → ZoneKey → Caller
caller_in user scope key = record { user = user; scope = scope; key = key }

-- the operations with their names, and the GUIDs that words make for the shares of a zone
abbrev pub ops_at : ZoneKey → List Op → List (List ℕ) → List NamedOp
ops_at key ops words = named_ops (lock_of_names key.owner key.zone) ops words

-- Each of these takes the lock that is asked beside the part, since a part need not tell it.

-- what an ask is given to see
abbrev pub sight : ℕ → List Event → Part → Sight
sight lock events (Modify user scope key atomic ops moment words) =
    let caller = caller_in user scope key in
    let named = ops_at key ops words in
    let before = op_sight caller moment (log_of events) named in
    modifying before (if not before.view.here || is_judged_as_one key atomic then [] else sights_of caller moment (log_of events) named)
sight lock events (Lookup user scope key names) = viewing (view_of (log_of events) user scope key)

-- what it answers
abbrev pub answer : ℕ → Sight → Part → Answer
answer lock (modifying before each) (Modify user scope key atomic ops moment words) =
    if before.view.here
    then ModifyAnswer (outcomes_by (caller_in user scope key) moment atomic before each (ops_at key ops words))
    else NoZone
answer lock (modifying before each) (Lookup user scope key names) = NoZone
answer lock (viewing view) (Modify user scope key atomic ops moment words) = NoZone
answer lock (viewing view) (Lookup user scope key names) = if view.here then LookupAnswer (map (record_at view.rows) names) else NoZone

-- the commits that it makes
abbrev pub commits_by : ℕ → List Event → Part → List Commit
commits_by lock events (Modify user scope key atomic ops moment words) =
    if (view_of (log_of events) user scope key).here
    then commits_of_request (caller_in user scope key) moment (log_of events) atomic (ops_at key ops words)
    else []
commits_by lock events (Lookup user scope key names) = []

-- What becomes of commits that a store is to take: they are stored, or the store fails, and its count of faults is then another.
pub data Append : Type 0 where
  stored : Append
  failed : ℕ → ℕ → Append

-- the event of these commits, or none
abbrev pub event_of : Append → ℕ → List Event → List Commit → List Event
event_of append seat events [] = []
event_of stored seat events (c ∷ cs) = Made (record { seat = seat; count = suc (length (own seat events)) }) (c ∷ cs) ∷ []
event_of (failed before after) seat events (c ∷ cs) = StoreFailed (record { seat = seat; count = suc (length (own seat events)) }) before after ∷ []

abbrev pub made : Append → ℕ → ℕ → List Event → Part → List Event
made append lock seat events part = event_of append seat events (commits_by lock events part)

-- something is made
abbrev pub makes : List Commit → Bool
makes [] = false
makes (c ∷ cs) = true

-- what became of the append whose event is the first of these
abbrev pub append_in : List Event → Append
append_in [] = stored
append_in (Made origin commits ∷ events) = stored
append_in (StoreFailed origin before after ∷ events) = failed before after

-- the answer that is told: that the store failed, where what was made tells so
abbrev pub told_by : Append → Answer → Answer
told_by stored answer = answer
told_by (failed before after) answer = NotStored

abbrev pub told : List Event → Answer → Answer
told added answer = told_by (append_in added) answer
