-- The requests that stand at the front of the bytes of a connection, and how it ends.
use Rattle.std.specs.Prelude.{◌≡◌, ℕ, ◌<◌, true, false, List, [], ◌∷◌, ◌++◌, length, None, Err}
use Rattle.std.specs.List.{AllByRecursion, AllZip, concat}
use Rattle.http_front.specs.declared.faults.FrontFault.TheVariants as fault
use Rattle.http_front.specs.Requests.{HasBadHead, HasLongHead, HasHead, IsUnfinished}
use Rattle.http_front.specs.Users.{Table}
use Rattle.error_replies.specs.declared.errors.ServerError.TheVariants.{BadRequest}
use Rattle.wire_calls.specs.declared.reply.Reply.TheVariants.{Refused}
use Rattle.talk_model.specs.declared.ends.End.{End}
use Rattle.talk_model.specs.declared.ends.End.TheVariants.{Closed, CloseAsked, Cut, BadHead, HeadTooLong, NoLength, BodyTooLong, Spent, NotBuilt}
use Rattle.talk_model.specs.Requests.{Meaning, Wants, HasInFront}
use Rattle.talk_model.specs.Calls.{text_of}

-- the most requests on one connection
abbrev pub most_requests : ℕ
most_requests = 100000

-- none of them asked to close
abbrev pub GoOn : List Meaning → Type 0
GoOn ws = AllByRecursion (λ (w : Meaning). w.close ≡ false) ws

-- there may be a request more
pub record AreOpen (ws : List Meaning) : Type 0 where
  pub few : length ws < most_requests
  pub go_on : GoOn ws

-- This is the last one, and there might be one before it.
pub record IsLastOf (ws : List Meaning) (last : Meaning) : Type 0 where
  pub before : List Meaning
  pub parts : ws ≡ before ++ last ∷ []
  pub open_before : AreOpen before

-- What stands behind these requests at each end. Behind one that asked to close, and behind the last that a connection may
-- have, it may be anything.
abbrev pub LeavesAt : Table → End → List Meaning → List ℕ → Type 0
LeavesAt t Closed ws rest = AreOpen ws × (rest ≡ [])
LeavesAt t CloseAsked ws rest = (last : Meaning) × IsLastOf ws last × (last.close ≡ true)
LeavesAt t Cut ws rest = AreOpen ws × (0 < length rest) × IsUnfinished rest
LeavesAt t BadHead ws rest = AreOpen ws × HasBadHead rest
LeavesAt t HeadTooLong ws rest = AreOpen ws × HasLongHead rest
LeavesAt t NoLength ws rest = AreOpen ws × HasHead rest (Err fault.NoLength)
LeavesAt t BodyTooLong ws rest = AreOpen ws × HasHead rest (Err fault.BodyTooLong)
LeavesAt t Spent ws rest = (length ws ≡ most_requests) × GoOn ws
LeavesAt t NotBuilt ws rest = AreOpen ws × HasInFront t rest None

-- The bytes are whole requests, of which this is wanted, one after another, and then what stands behind them at this end.
pub record AreRequests (t : Table) (bytes : List ℕ) (wanted : List Meaning) (end : End) : Type 0 where
  pub requests : List (List ℕ)
  pub rest : List ℕ
  pub bytes_are : bytes ≡ concat requests ++ rest
  pub each : AllZip (Wants t) requests wanted
  pub leaves : LeavesAt t end wanted rest

-- the refusal that closes a connection
abbrev pub farewell : List ℕ
farewell = text_of true (Refused BadRequest)

-- what is written last at each end: the refusal where the bytes go on as no request can
abbrev pub last_text : End → List ℕ
last_text Closed = []
last_text CloseAsked = []
last_text Cut = []
last_text BadHead = farewell
last_text HeadTooLong = farewell
last_text NoLength = farewell
last_text BodyTooLong = farewell
last_text Spent = []
last_text NotBuilt = []
