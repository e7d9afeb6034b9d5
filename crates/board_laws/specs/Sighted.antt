-- What a sight depends on, and what depends on it.
use Rattle.std.specs.Prelude.{◌≡◌, ℕ, Bool, true, false, not, ◌||◌, List, [], ◌∷◌, ◌++◌, map}
use Rattle.std.specs.List.{AllByRecursion}
use Rattle.ck_base.specs.declared.key.ZoneKey.{ZoneKey}
use Rattle.ck_base.specs.declared.scope.Scope.{Scope}
use Rattle.zone_model.specs.declared.commits.Commit.{Commit}
use Rattle.zone_model.specs.declared.operations.Op.{Op}
use Rattle.zone_model.specs.declared.operations.OpKind.{OpKind}
use Rattle.zone_model.specs.declared.events.Event.{Event}
use Rattle.zone_model.specs.Names.{same_key, is_private}
use Rattle.zone_model.specs.Zones.{zone_at}
use Rattle.zone_model.specs.Views.{view_of}
use Rattle.zone_model.specs.Past.{name_history}
use Rattle.zone_model.specs.Requests.{NamedOp, is_deletion}
use Rattle.zone_model.specs.Modifying.{is_judged_as_one, Step, steps}
use Rattle.zone_model.specs.Lawful.{MayFollowInTurn}
use Rattle.zone_model.specs.Events.{log_of}
use Rattle.board_model.specs.declared.parts.Part.{Part}
use Rattle.board_model.specs.declared.parts.Part.TheVariants.{Modify, Lookup}
use Rattle.board_model.specs.Sights.{OpSight, modifying, viewing}
use Rattle.board_model.specs.Asks.{caller_in, sight, ops_at}
use Rattle.board_laws.specs.Answered.{answer_at}

abbrev pub key_of : Part → ZoneKey
key_of (Modify user scope key atomic ops moment words) = key
key_of (Lookup user scope key names) = key

abbrev pub IsOfOther : ZoneKey → Commit → Type 0
IsOfOther key c = same_key key c.key ≡ false

-- a deletion that other operations follow
abbrev pub deletes_before : List OpKind → Bool
deletes_before [] = false
deletes_before (kind ∷ []) = false
deletes_before (kind ∷ next ∷ kinds) = is_deletion kind || deletes_before (next ∷ kinds)

-- what the user sees at a log, and the past of the names that operations offer there
abbrev pub seen_at : List ℕ → Scope → ZoneKey → List Commit → List NamedOp → OpSight
seen_at user scope key log ops = record { view = view_of log user scope key; pasts = name_history log key ops }

-- A sight is what the user sees at the history: for operations, with the past of the names that they offer; and where they are done one after another
-- in a zone that the user sees, that before each of them too. There is nothing else in it.
pub record SightsAreTold : Type 0 where
  pub lookup : (lock : ℕ) (events : List Event) (user : List ℕ) (scope : Scope) (key : ZoneKey) (names : List (List ℕ))
      → sight lock events (Lookup user scope key names) ≡ viewing (view_of (log_of events) user scope key)
  pub as_one : (lock : ℕ) (events : List Event) (user : List ℕ) (scope : Scope) (key : ZoneKey) (atomic : Bool) (ops : List Op) (moment : ℕ) (words : List (List ℕ))
      → is_judged_as_one key atomic ≡ true
      → sight lock events (Modify user scope key atomic ops moment words) ≡ modifying (seen_at user scope key (log_of events) (ops_at key ops words)) []
  pub unseen : (lock : ℕ) (events : List Event) (user : List ℕ) (scope : Scope) (key : ZoneKey) (atomic : Bool) (ops : List Op) (moment : ℕ) (words : List (List ℕ))
      → (view_of (log_of events) user scope key).here ≡ false
      → sight lock events (Modify user scope key atomic ops moment words) ≡ modifying (seen_at user scope key (log_of events) (ops_at key ops words)) []
  pub apart : (lock : ℕ) (events : List Event) (user : List ℕ) (scope : Scope) (key : ZoneKey) (atomic : Bool) (ops : List Op) (moment : ℕ) (words : List (List ℕ))
      → is_judged_as_one key atomic ≡ false → (view_of (log_of events) user scope key).here ≡ true
      → sight lock events (Modify user scope key atomic ops moment words)
      ≡ modifying (seen_at user scope key (log_of events) (ops_at key ops words))
      (map (λ (s : Step). seen_at user scope key s.log (s.op ∷ [])) (steps (caller_in user scope key) moment (log_of events) (ops_at key ops words)))

-- two histories show the same for a part: the user's view, and the past of the names that its operations offer
abbrev pub ShowTheSame : Part → List Event → List Event → Type 0
ShowTheSame (Modify user scope key atomic ops moment words) old new = seen_at user scope key (log_of old) (ops_at key ops words) ≡ seen_at user scope key (log_of new) (ops_at key ops words)
ShowTheSame (Lookup user scope key names) old new = view_of (log_of old) user scope key ≡ view_of (log_of new) user scope key

-- a lookup, or operations that are judged as one
abbrev pub is_told_at_once : Part → Bool
is_told_at_once (Modify user scope key atomic ops moment words) = is_judged_as_one key atomic
is_told_at_once (Lookup user scope key names) = true

-- the part is in the private scope, or none of its operations that others follow deletes
abbrev pub rests_on_seen : Part → Bool
rests_on_seen (Modify user scope key atomic ops moment words) = is_private scope || not (deletes_before (map (λ (op : Op). op.kind) ops))
rests_on_seen (Lookup user scope key names) = true

-- Equal sights give equal answers. Events of other zones change no sight. Where the histories show the same for a part that is told at once, so do
-- sights of it; and, at lawful logs, of any part where the whole zone is the same, and else of one that rests on what is seen.
pub record SightsDecide : Type 0 where
  pub answers : (lock : ℕ) (old new : List Event) (part : Part) → sight lock old part ≡ sight lock new part → answer_at lock old part ≡ answer_at lock new part
  pub others : (lock : ℕ) (old more : List Event) (part : Part) → AllByRecursion (IsOfOther (key_of part)) (log_of more) → sight lock (old ++ more) part ≡ sight lock old part
  pub at_once : (lock : ℕ) (old new : List Event) (part : Part) → is_told_at_once part ≡ true → ShowTheSame part old new → sight lock old part ≡ sight lock new part
  pub in_zone : (lock : ℕ) (old new : List Event) (part : Part) → MayFollowInTurn [] (log_of old) → MayFollowInTurn [] (log_of new)
      → zone_at (log_of old) (key_of part) ≡ zone_at (log_of new) (key_of part) → ShowTheSame part old new → sight lock old part ≡ sight lock new part
  pub by_seen : (lock : ℕ) (old new : List Event) (part : Part) → MayFollowInTurn [] (log_of old) → MayFollowInTurn [] (log_of new)
      → rests_on_seen part ≡ true → ShowTheSame part old new → sight lock old part ≡ sight lock new part
