-- One turn of a board at a lock.
use Rattle.std.specs.Prelude.{◌≡◌, ◌≢◌, ◌⊎◌, ℕ, ◌≤◌, Bool, true, List, [], ◌∷◌, ◌++◌, length, Option, None, Some, ⊤}
use Rattle.zone_model.specs.declared.events.Event.{Event}
use Rattle.zone_model.specs.Histories.{Histories, Grows}
use Rattle.zone_model.specs.Events.{own}
use Rattle.zone_model.specs.Legal.{IsLegal, has_risen}
use Rattle.board_model.specs.declared.parts.Part.{Part}
use Rattle.board_model.specs.declared.answers.Answered.{Answered}
use Rattle.board_model.specs.Asks.{Append, stored, failed, sight, answer, made, makes, commits_by, told}

-- What a board tells: for each lock the history as it was when it was seen last, the seat of the board's own events there from its
-- first ask on at latest, the lengths at which asks of it were answered, one after another, and how often its store has failed; and
-- whether nobody else adds to the histories.
pub record BoardState : Type 0 where
  pub histories : Histories Event
  pub seats : ℕ → Option ℕ
  pub turns : ℕ → List ℕ
  pub faults : ℕ → ℕ
  pub alone : Bool

-- the history of each lock is legal
abbrev pub AreLegal : Histories Event → Type 0
AreLegal h = (lock : ℕ) → IsLegal lock (h lock)

-- nothing of that lock changed
pub record IsSameAt (old new : BoardState) (lock : ℕ) : Type 0 where
  pub history : new.histories lock ≡ old.histories lock
  pub seat : new.seats lock ≡ old.seats lock
  pub turn : new.turns lock ≡ old.turns lock
  pub faults : new.faults lock ≡ old.faults lock

-- A board finds a history that others have added to since, and adds to it. The seat of its
-- events there is one that nobody else has, and stays. Where the board is alone, nothing was added since, and the store has not failed.
pub record HadTurn (old new : BoardState) (lock : ℕ) : Type 0 where
  pub seat : ℕ
  pub base : List Event  -- what was found
  pub later : List Event  -- what others added since
  pub added : List Event  -- what the turn added
  pub faults : ℕ  -- how often the store had failed
  pub found : base ≡ old.histories lock ++ later
  pub whole : old.alone ≡ true → (later ≡ []) × (faults ≡ old.faults lock)
  pub strange : own seat later ≡ []  -- none of it is of this board's seat
  pub sits : new.seats lock ≡ Some seat
  pub stays : (n : ℕ) → old.seats lock ≡ Some n → n ≡ seat
  pub fresh : old.seats lock ≡ None → own seat base ≡ []
  pub new_is : new.histories lock ≡ base ++ added
  pub since : old.faults lock ≤ faults
  pub until : faults ≤ new.faults lock
  pub legal : AreLegal new.histories
  pub still : new.alone ≡ old.alone
  pub others : (k : ℕ) → k ≢ lock → IsSameAt old new k

-- where an append failed, it tells the count of faults before it and behind it, and that rose
abbrev pub TellsFault : Append → ℕ → ℕ → Type 0
TellsFault stored before after = ⊤
TellsFault (failed from to) before after = (from ≡ before) × (to ≡ after) × (has_risen from to ≡ true)

-- A lock had one ask more, which added what the part makes.
pub record HadAsk (old new : BoardState) (lock : ℕ) (part : Part) : Type 0 where
  pub turn : HadTurn old new lock
  pub counted : new.turns lock ≡ old.turns lock ++ length (new.histories lock) ∷ []
  pub append : Append
  pub added_is : turn.added ≡ made append lock turn.seat turn.base part
  pub fault : TellsFault append turn.faults (new.faults lock)

-- An ask is answered by what it found, or by the fault of its store.
pub record IsAsked (old new : BoardState) (lock : ℕ) (part : Part) (answered : Answered) : Type 0 where
  pub had : HadAsk old new lock part
  pub len : answered.len ≡ length (new.histories lock)
  pub event : answered.event ≡ makes (commits_by lock had.turn.base part)
  pub answer_is : answered.answer ≡ told had.turn.added (answer lock (sight lock had.turn.base part) part)

-- A lock was looked at: what others added was seen, and nothing else happened.
pub record WasSeen (old new : BoardState) (lock : ℕ) : Type 0 where
  pub turn : HadTurn old new lock
  pub uncounted : new.turns lock ≡ old.turns lock
  pub nothing : turn.added ≡ []

-- An ask that finds no memory changes nothing but what is seen of the lock, or is an ask but for its answer.
abbrev pub MayHaveAsked : BoardState → BoardState → ℕ → Part → Type 0
MayHaveAsked old new lock part = (old ≡ new) ⊎ (WasSeen old new lock ⊎ HadAsk old new lock part)
