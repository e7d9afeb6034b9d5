-- What a board behind the zone lock answers and tells. It has one lock, of that number.
use Rattle.std.specs.Prelude.{◌≡◌, ℕ, ◌==◌, Bool, true, false, List, [], ◌++◌, length, Some, None, if◌then◌else◌}
use Rattle.zone_locks.specs.Passes.{Known}
use Rattle.zone_model.specs.declared.events.Event.{Event}
use Rattle.zone_model.specs.Events.{origin_of, own}
use Rattle.board_model.specs.declared.parts.Part.{Part}
use Rattle.board_model.specs.declared.parts.Part.TheVariants.{Modify, Lookup}
use Rattle.board_model.specs.declared.answers.Answered.{Answered}
use Rattle.board_model.specs.Asks.{Append, sight, answer, made, makes, commits_by, told}
use Rattle.board_model.specs.Turns.{BoardState, TellsFault}

abbrev pub seat_in : Event → ℕ
seat_in e = (origin_of e).seat

abbrev pub looks_up : Part → Bool
looks_up (Modify user scope key atomic ops moment words) = false
looks_up (Lookup user scope key names) = true

-- A board without a store found these events, answered as that seat, and left those.
pub record WasAnswered (seat : ℕ) (before after : List Event) (part : Part) (answered : Answered) : Type 0 where
  pub append : Append
  pub fault : TellsFault append 0 0
  pub after_is : after ≡ before ++ made append 13 seat before part
  pub len : answered.len ≡ length after
  pub event : answered.event ≡ makes (commits_by 13 before part)
  pub answer_is : answered.answer ≡ told (made append 13 seat before part) (answer 13 (sight 13 before part) part)

-- A pass had a turn: what it found continues what it had seen, with nothing more of its seat.
pub record HadPassTurn (before after : Known Event) : Type 0 where
  pub seat : ℕ
  pub later : List Event  -- what others added since
  pub strange : own seat later ≡ []
  pub sits : after.seat ≡ Some seat
  pub stays : (n : ℕ) → before.seat ≡ Some n → n ≡ seat
  pub fresh : before.seat ≡ None → own seat (before.seen ++ later) ≡ []

-- The pass had a turn, at which it was answered.
pub record AskedAt (before after : Known Event) (part : Part) (answered : Answered) : Type 0 where
  pub turn : HadPassTurn before after
  pub was : WasAnswered turn.seat (before.seen ++ turn.later) after.seen part answered

-- The pass had a turn, at which nothing was added.
pub record SawAt (before after : Known Event) : Type 0 where
  pub turn : HadPassTurn before after
  pub seen_is : after.seen ≡ before.seen ++ turn.later

-- at the one lock this, and nothing at the others
abbrev pub only_there : {A : Type 0} → A → A → ℕ → A
only_there nothing this lock = if lock == 13 then this else nothing

-- a board that shares the lock: what its pass knows, and the lengths at which it was asked
abbrev pub at_lock : Known Event × List ℕ → BoardState
at_lock (known, turns) = record {
  histories = only_there [] known.seen;
  seats = only_there None known.seat;
  turns = only_there [] turns;
  faults = λ lock. 0;
  alone = false;
}
