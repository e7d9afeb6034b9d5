-- How one request is served.
use Rattle.std.specs.Prelude.{◌≡◌, ◌⊎◌, ℕ, ◌<◌, ◌≤◌, List, [], ◌∷◌, ◌++◌, length, Option, None, Some, Result, Ok, Err}
use Rattle.std.specs.List.{AllByRecursion}
use Rattle.std.specs.Io.KnownBytes.{Appends}
use Rattle.ck_devices.specs.Fronts.{WritesFront}
use Rattle.board_model.specs.declared.answers.Answered.{Answered}
use Rattle.board_model.specs.Turns.{BoardState, IsAsked}
use Rattle.http_front.specs.declared.request.Request.{Request}
use Rattle.http_front.specs.Users.{Table}
use Rattle.wire_calls.specs.declared.reply.Reply.{Reply}
use Rattle.talk_model.specs.declared.marks.At.{At}
use Rattle.talk_model.specs.declared.marks.Mark.{Mark}
use Rattle.talk_model.specs.declared.ends.TalkFaultKind.{TalkFaultKind}
use Rattle.talk_model.specs.declared.ends.TalkFaultKind.TheVariants.{ReadFault, WriteFault, NoMemory}
use Rattle.talk_model.specs.Requests.{Meaning, want_of}
use Rattle.talk_model.specs.Given.{Given, given_of, AreWordsFor}
use Rattle.talk_model.specs.Calls.{Ask, Step, asks, replies, step_for, text_of}
use Rattle.ck_server.specs.declared.serving.Served.{Served}
use Rattle.ck_server.specs.declared.serving.Served.TheVariants.{Answered as WasAnswered, NotBuilt}
use Rattle.ck_server.specs.Outcomes.{MayBeWordsFor, MayBeAsking}

-- what the serving of a request changes: what its sink holds, where it tells it, and what its board tells
pub record Place : Type 0 where
  pub held : Option (List ℕ)
  pub board : BoardState

-- the trace of an ask
abbrev pub at_of : Ask → Answered → At
at_of ask answered = record { lock = ask.lock; len = answered.len; event = answered.event }

-- The board was asked what the step asks, one ask after another, with these traces; then this is to be done.
abbrev pub AsksOn : BoardState → BoardState → List At → Step → Step → Type 0
AsksOn before after [] step todo = (before ≡ after) × (step ≡ todo)
AsksOn before after (at ∷ ats) (asks a next) todo =
    (between : BoardState) × (answered : Answered) × (at ≡ at_of a answered) × IsAsked before between a.lock a.part answered × AsksOn between after ats (next answered.answer) todo
AsksOn before after (at ∷ ats) (replies r) todo = ⊥

-- The request has its mark, its asks were answered, and of its reply all but unsent was written.
pub record Replies (gave : List Given → Type 0) (number : ℕ) (before after : Place) (old new : List Mark) (w : Meaning) (unsent : List ℕ) : Type 0 where
  pub mark : Mark
  pub given : gave (given_of mark ∷ [])
  pub marks : new ≡ old ++ mark ∷ []
  pub request : mark.request ≡ number
  pub words : AreWordsFor w.want (given_of mark)
  pub reply : Reply
  pub asked : AsksOn before.board after.board mark.asks.items (step_for w.want (given_of mark)) (replies reply)
  pub sent : List ℕ
  pub text : text_of w.close reply ≡ sent ++ unsent
  pub appended : Appends before.held after.held sent

-- What is wanted of the request, as it was found.
pub record IsWanted (t : Table) (r : Request) (w : Meaning) : Type 0 where
  pub close : w.close ≡ r.close
  pub want : want_of t r ≡ Some w.want

-- the request was answered but for unsent
abbrev pub IsServed : (List Given → Type 0) → ℕ → Place → Place → List Mark → List Mark → Table → Request → List ℕ → Type 0
IsServed gave number before after old new t r unsent = (w : Meaning) × IsWanted t r w × Replies gave number before after old new w unsent

-- What was given for a request that has no mark.
pub record IsGivenFor (t : Table) (r : Request) (g : Given) : Type 0 where
  pub wanted : Meaning
  pub is : IsWanted t r wanted
  pub words : MayBeWordsFor wanted.want g

-- The request has no mark, and nothing was asked.
pub record LeavesUnmarked (gave : List Given → Type 0) (before after : Place) (old new : List Mark) (t : Table) (r : Request) : Type 0 where
  pub marks : new ≡ old
  pub same : before.board ≡ after.board
  pub more : List Given
  pub one : length more ≤ 1
  pub known : AllByRecursion (IsGivenFor t r) more
  pub given : gave more

-- The request has its mark, with the asks that were whole, and the next was in hand, or the reply.
pub record LeavesAsking (gave : List Given → Type 0) (number : ℕ) (before after : Place) (old new : List Mark) (t : Table) (r : Request) : Type 0 where
  pub wanted : Meaning
  pub is : IsWanted t r wanted
  pub mark : Mark
  pub given : gave (given_of mark ∷ [])
  pub marks : new ≡ old ++ mark ∷ []
  pub request : mark.request ≡ number
  pub words : AreWordsFor wanted.want (given_of mark)
  pub found : BoardState
  pub todo : Step
  pub asked : AsksOn before.board found mark.asks.items (step_for wanted.want (given_of mark)) todo
  pub may : MayBeAsking found after.board todo

-- Memory ran out before its reply was written, and nothing of that was.
pub record GivesUp (gave : List Given → Type 0) (number : ℕ) (before after : Place) (old new : List Mark) (t : Table) (r : Request) : Type 0 where
  pub appended : Appends before.held after.held []
  pub leaves : LeavesUnmarked gave before after old new t r ⊎ LeavesAsking gave number before after old new t r

-- The form of the request is not built, and nothing was done.
pub record IsLeft (gave : List Given → Type 0) (before after : Place) (old new : List Mark) (t : Table) (r : Request) : Type 0 where
  pub want : want_of t r ≡ None
  pub given : gave []
  pub marks : new ≡ old
  pub same : before.board ≡ after.board
  pub appended : Appends before.held after.held []

-- a request was answered, or its form is not built, or a part of its reply was written and not all, or memory ran out
abbrev pub Serves : (List Given → Type 0) → ℕ → Place → Place → List Mark → List Mark → Table → Request → Result Served TalkFaultKind → Type 0
Serves gave number before after old new t r (Ok WasAnswered) = IsServed gave number before after old new t r []
Serves gave number before after old new t r (Ok NotBuilt) = IsLeft gave before after old new t r
Serves gave number before after old new t r (Err WriteFault) = (unsent : List ℕ) × (0 < length unsent) × IsServed gave number before after old new t r unsent
Serves gave number before after old new t r (Err NoMemory) = GivesUp gave number before after old new t r
Serves gave number before after old new t r (Err ReadFault) = ⊥

-- a text was written, or a front of it and not all, or nothing
abbrev pub Sends : {T : Type 0} → Option (List ℕ) → Option (List ℕ) → List ℕ → Result T TalkFaultKind → Type 0
Sends held now text (Ok x) = Appends held now text
Sends held now text (Err WriteFault) = WritesFront held now text
Sends held now text (Err NoMemory) = Appends held now []
Sends held now text (Err ReadFault) = ⊥
