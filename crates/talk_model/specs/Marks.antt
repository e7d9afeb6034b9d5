-- When marks fit requests and what a board tells.
use Rattle.std.specs.Prelude.{◌≡◌, ℕ, ◌+◌, ◌-◌, ◌<◌, ◌≤◌, ◌==◌, true, List, [], ◌∷◌, ◌++◌, length, take, drop, Some, filter, if◌then◌else◌, ⊤}
use Rattle.std.specs.List.{AllByRecursion, AllZip, enumerate_from, flat_map}
use Rattle.zone_model.specs.declared.events.Event.{Event}
use Rattle.zone_model.specs.Histories.{Histories, Grows}
use Rattle.board_model.specs.declared.answers.Answer.{Answer}
use Rattle.board_model.specs.Asks.{Append, sight, answer, made, makes, commits_by, told}
use Rattle.board_model.specs.Turns.{BoardState, TellsFault}
use Rattle.wire_calls.specs.declared.reply.Reply.{Reply}
use Rattle.talk_model.specs.declared.marks.At.{At}
use Rattle.talk_model.specs.declared.marks.Mark.{Mark}
use Rattle.talk_model.specs.Requests.{Meaning}
use Rattle.talk_model.specs.Given.{given_of, AreWordsFor}
use Rattle.talk_model.specs.Calls.{Ask, Step, asks, replies, step_for}

-- A board later on: its histories have grown, its seats stay, its store's counts of faults have not fallen, and it is as alone as it was.
pub record IsLater (old new : BoardState) : Type 0 where
  pub grown : Grows old.histories new.histories
  pub stays : (lock n : ℕ) → old.seats lock ≡ Some n → new.seats lock ≡ Some n
  pub risen : (lock : ℕ) → old.faults lock ≤ new.faults lock
  pub still : new.alone ≡ old.alone

-- the history that an ask was answered at: the first events up to its length, less its own
abbrev pub base_of : Histories Event → At → List Event
base_of h at = take (at.len - (if at.event then 1 else 0)) (h at.lock)

-- its own event, where it made one
abbrev pub event_at : Histories Event → At → List Event
event_at h at = if at.event then drop (at.len - 1) (take at.len (h at.lock)) else []

-- the answer to an ask, by what it is given to see of the history that it found, unless its event tells that the store failed
abbrev pub answer_at : Histories Event → At → Ask → Answer
answer_at h at a = told (event_at h at) (answer a.lock (sight a.lock (base_of h at) a.part) a.part)

-- what is to be done behind asks that were answered there
abbrev pub step_at : Histories Event → List At → Step → Step
step_at h [] step = step
step_at h (at ∷ ats) (asks a next) = step_at h ats (next (answer_at h at a))
step_at h (at ∷ ats) (replies r) = replies r

-- The trace tells the ask of a part at its lock: a length that lies in what the history grew by, whether something is made at
-- the history that it found, and then, as the last event, what is made there by this board, with the fault of the store, if it failed since entry.
pub record IsAtOf (entry now : BoardState) (at : At) (asked : Ask) : Type 0 where
  pub seat : ℕ
  pub append : Append
  pub sits : now.seats at.lock ≡ Some seat
  pub lock : at.lock ≡ asked.lock
  pub since_entry : length (entry.histories at.lock) + (if at.event then 1 else 0) ≤ at.len
  pub within : at.len ≤ length (now.histories at.lock)
  pub event : at.event ≡ makes (commits_by asked.lock (base_of now.histories at) asked.part)
  pub event_is : take at.len (now.histories at.lock) ≡ base_of now.histories at ++ made append asked.lock seat (base_of now.histories at) asked.part
  pub fault : (before : ℕ) × (after : ℕ) × (entry.faults at.lock ≤ before) × (after ≤ now.faults at.lock) × TellsFault append before after

-- the traces tell asks of a step, one after another, each the one that the answers before it call for
abbrev pub AreAtsOf : BoardState → BoardState → List At → Step → Type 0
AreAtsOf entry now [] step = ⊤
AreAtsOf entry now (at ∷ ats) (asks a next) = IsAtOf entry now at a × AreAtsOf entry now ats (next (answer_at now.histories at a))
AreAtsOf entry now (at ∷ ats) (replies r) = ⊥

-- what is to be done behind the asks of a mark
abbrev pub step_behind : Histories Event → Mark → Meaning → Step
step_behind h m w = step_at h m.asks.items (step_for w.want (given_of m))

-- The mark tells a request: its number, the words that were drawn for it, and its asks so far.
pub record IsMarkOf (number : ℕ) (entry now : BoardState) (m : Mark) (w : Meaning) : Type 0 where
  pub request : m.request ≡ number
  pub words : AreWordsFor w.want (given_of m)
  pub asks : AreAtsOf entry now m.asks.items (step_for w.want (given_of m))

-- a mark with its number tells a request with all of its asks, up to the reply
abbrev pub IsWholeMarkOf : BoardState → BoardState → ℕ × Mark → Meaning → Type 0
IsWholeMarkOf entry now m w = IsMarkOf m.0 entry now m.1 w × (reply : Reply) × (step_behind now.histories m.1 w ≡ replies reply)

-- one such mark for each request, in order, counted from this number
abbrev pub AreMarksOf : ℕ → BoardState → BoardState → List Mark → List Meaning → Type 0
AreMarksOf number entry now marks wanted = AllZip (IsWholeMarkOf entry now) (enumerate_from number marks) wanted

-- the asks of the marks, in order
abbrev pub asks_in : List Mark → List At
asks_in marks = flat_map (λ m. m.asks.items) marks

-- at one lock a later ask finds no shorter history, and a longer one where it made an event
abbrev pub NotBefore : At → At → Type 0
NotBefore a b = a.lock ≡ b.lock → (a.len ≤ b.len) × (b.event ≡ true → a.len < b.len)

-- so it is with each ask and all later ones
abbrev pub AreInOrder : List At → Type 0
AreInOrder [] = ⊤
AreInOrder (a ∷ ats) = AllByRecursion (NotBefore a) ats × AreInOrder ats

-- those of one lock
abbrev pub asks_at : ℕ → List At → List At
asks_at lock ats = filter (λ (at : At). at.lock == lock) ats
