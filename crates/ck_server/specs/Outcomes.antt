-- How a conversation ends or breaks off.
use Rattle.std.specs.Prelude.{◌≡◌, ◌⊎◌, ℕ, true, ◌<◌, List, [], ◌∷◌, ◌++◌, length, map, Option, Some, Result, Ok, Err, ⊤}
use Rattle.std.specs.Result.{result_map_both}
use Rattle.std.specs.Io.KnownBytes.{IsAtEnd}
use Rattle.ck_devices.specs.Causes.{StopsAt}
use Rattle.board_model.specs.Turns.{BoardState, MayHaveAsked}
use Rattle.http_front.specs.Users.{Table}
use Rattle.http_front.specs.Requests.{IsUnfinished}
use Rattle.http_front.specs.Reading.{most_piece}
use Rattle.talk_model.specs.declared.ends.End.{End}
use Rattle.talk_model.specs.declared.ends.End.TheVariants.{Closed, Cut, CloseAsked, Spent}
use Rattle.talk_model.specs.declared.ends.Talk.{Talk}
use Rattle.talk_model.specs.declared.ends.TalkFault.{TalkFault}
use Rattle.talk_model.specs.declared.ends.TalkFaultKind.{TalkFaultKind}
use Rattle.talk_model.specs.declared.ends.TalkFaultKind.TheVariants.{ReadFault, WriteFault, NoMemory}
use Rattle.talk_model.specs.declared.marks.Mark.{Mark}
use Rattle.talk_model.specs.declared.wants.Want.{Want}
use Rattle.talk_model.specs.Requests.{Meaning, HasInFront}
use Rattle.talk_model.specs.Given.{Given, given_of, AreWordsFor}
use Rattle.talk_model.specs.Calls.{Step, asks, replies, step_for}
use Rattle.talk_model.specs.Connections.{AreOpen, IsLastOf, LeavesAt, last_text}
use Rattle.talk_model.specs.Marks.{IsLater, IsMarkOf, asks_in, step_behind}
use Rattle.talk_model.specs.Talk.{talk}
use Rattle.talk_model.specs.Alone.{after_all, after_asks}
use Rattle.ck_server.specs.Conversations.{Standing, asked_for, Conversed, IsSettled, AreSettled}
use Rattle.ck_server.specs.Completeness.{IsComplete}

-- How far a conversation went: what is wanted of the requests that were answered, and their marks; the mark of a request in hand, and what
-- was given for one that has none; what was taken behind those that were answered, the texts that are written behind their replies, and
-- what of all that is unsent.
pub record Course : Type 0 where
  pub wanted : List Meaning
  pub done : List Mark
  pub begun : List Mark
  pub more : List Given
  pub rest : List ℕ
  pub last : List (List ℕ)
  pub unsent : List ℕ

-- No request is in hand, and the board was asked just what the marks tell.
abbrev pub HasNoneInHand : BoardState → BoardState → Course → Type 0
HasNoneInHand entry now c = (c.begun ≡ []) × (c.more ≡ []) × AreSettled entry now c.wanted c.done

-- ---- ends

-- at two ends the source has ended, and at the two where nothing more is wanted less was taken behind the requests than one read takes
abbrev pub StopsReading : End → Option (List ℕ) → List ℕ → Type 0
StopsReading Closed left rest = IsAtEnd left
StopsReading Cut left rest = IsAtEnd left
StopsReading CloseAsked left rest = length rest < most_piece
StopsReading Spent left rest = length rest < most_piece
StopsReading end left rest = ⊤

-- ---- faults of the sink

-- What is written last is the reply to the last request, behind which less was taken than one read takes, or what is written at the end
-- that the bytes have.
pub data WritesLast (t : Table) (c : Course) : Type 0 where
  reply : c.last ≡ [] → length c.rest < most_piece → (request : Meaning) → IsLastOf c.wanted request → WritesLast t c
  end_text : (end : End) → c.last ≡ last_text end ∷ [] → LeavesAt t end c.wanted c.rest → WritesLast t c

-- something is unsent, and the last of these texts ends in it: those before it were written whole
abbrev pub IsCutInLast : List (List ℕ) → List ℕ → Type 0
IsCutInLast texts unsent = (0 < length unsent) × (before : List (List ℕ)) × (front : List ℕ) × (texts ≡ before ++ (front ++ unsent) ∷ [])

-- ---- want of memory

-- its words were drawn, or none of them yet
abbrev pub MayBeWordsFor : Want → Given → Type 0
MayBeWordsFor want g = ((g.words ≡ []) × (g.drawn ≡ true)) ⊎ AreWordsFor want g

-- This was given for a request that stands in front of the rest.
abbrev pub WasGiven : Table → List ℕ → Given → Type 0
WasGiven t rest g = (wanted : Meaning) × HasInFront t rest (Some wanted) × MayBeWordsFor wanted.want g

-- The board was not asked further, or it was asked what the step asks, and may have added what the ask makes.
abbrev pub MayBeAsking : BoardState → BoardState → Step → Type 0
MayBeAsking found now (asks ask next) = MayHaveAsked found now ask.lock ask.part
MayBeAsking found now (replies r) = found ≡ now

-- The request in front of the rest has this mark behind those of the answered ones, which tells the asks of it that were whole; then the next of them was in
-- hand, or its reply, of which nothing was written.
pub record WasAsking (t : Table) (entry now : BoardState) (c : Course) (mark : Mark) : Type 0 where
  pub wanted : Meaning
  pub front : HasInFront t c.rest (Some wanted)
  pub marked : IsMarkOf (length c.done) entry now mark wanted
  pub found : BoardState
  pub later : IsLater entry found
  pub settled : IsSettled entry found (asks_in (c.done ++ mark ∷ []))
      (λ storing. after_asks storing (length mark.asks.items) (after_all storing entry.histories (asked_for c.wanted c.done)) (step_for wanted.want (given_of mark)))
  pub may : MayBeAsking found now (step_behind now.histories mark wanted)

-- What was in hand when memory ran out: nothing, a request for which the clock was read and perhaps its words drawn, or one that was asking.
pub data HasInHand (t : Table) (entry now : BoardState) (c : Course) : Type 0 where
  nothing : HasNoneInHand entry now c → HasInHand t entry now c
  unmarked : (given : Given) → c.begun ≡ [] → c.more ≡ given ∷ [] → WasGiven t c.rest given → AreSettled entry now c.wanted c.done → HasInHand t entry now c
  asking : (mark : Mark) → c.begun ≡ mark ∷ [] → c.more ≡ [] → WasAsking t entry now c mark → HasInHand t entry now c

-- ---- all of them

-- What is so at each outcome. At an end and after a fault of the source all was written, and behind the requests stands what the end says, or what
-- is no request yet. After a fault of the sink all was written but the end of what is written last. Where memory ran out the replies to
-- the requests that were answered were written, and nothing else.
abbrev pub Fits : Table → Standing → Standing → Course → Result End TalkFaultKind → Type 0
Fits t entry now c (Ok end) =
    HasNoneInHand entry.board now.board c × (c.unsent ≡ []) × (c.last ≡ last_text end ∷ []) × LeavesAt t end c.wanted c.rest × StopsReading end now.left c.rest
Fits t entry now c (Err ReadFault) =
    HasNoneInHand entry.board now.board c × (c.unsent ≡ []) × (c.last ≡ []) × AreOpen c.wanted × IsUnfinished c.rest
Fits t entry now c (Err WriteFault) =
    HasNoneInHand entry.board now.board c × IsCutInLast (talk c.wanted c.done now.board.histories ++ c.last) c.unsent × WritesLast t c
Fits t entry now c (Err NoMemory) =
    HasInHand t entry.board now.board c × (c.unsent ≡ []) × (c.last ≡ []) × AreOpen c.wanted

-- What a conversation comes to. The clock and the words gave what the marks tell, and what they gave for a request that has none. No read
-- and no write failed but the one that broke it off, behind which its device was not used.
pub record Converses (t : Table) (gave : List Given → Type 0) (entry now : Standing) (marks : List Mark) (outcome : Result End TalkFaultKind) : Type 0 where
  pub course : Course
  pub marks_are : marks ≡ course.done ++ course.begun
  pub given : gave (map given_of marks ++ course.more)
  pub conversed : Conversed t entry now course.wanted course.done course.rest course.last course.unsent
  pub fits : Fits t entry now course outcome
  pub complete : IsComplete t entry course.wanted outcome
  pub reads : StopsAt ReadFault entry.source_failures now.source_failures outcome
  pub writes : StopsAt WriteFault entry.sink_failures now.sink_failures outcome

-- the marks of a conversation, and its end or what broke it off
abbrev pub marks_of : Result Talk TalkFault → List Mark
marks_of (Ok talk) = talk.marks.items
marks_of (Err fault) = fault.marks.items

abbrev pub outcome_of : Result Talk TalkFault → Result End TalkFaultKind
outcome_of result = result_map_both (λ (talk : Talk). talk.end) (λ (fault : TalkFault). fault.at) result
