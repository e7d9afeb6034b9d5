-- What a conversation took, marked and wrote.
use Rattle.std.specs.Prelude.{◌≡◌, ℕ, true, List, [], ◌++◌, length, drop, map, zip, Option, Some}
use Rattle.std.specs.List.{AllZip, concat, flat_map}
use Rattle.std.specs.Io.KnownBytes.{Consumes, Appends}
use Rattle.ck_devices.specs.Causes.{Failures}
use Rattle.zone_model.specs.declared.events.Event.{Event}
use Rattle.zone_model.specs.Histories.{Histories}
use Rattle.zone_model.specs.Events.{own_of}
use Rattle.board_model.specs.Turns.{BoardState, AreLegal, IsSameAt}
use Rattle.http_front.specs.Reading.{HasLastPiece}
use Rattle.http_front.specs.Users.{Table}
use Rattle.talk_model.specs.declared.marks.At.{At}
use Rattle.talk_model.specs.declared.marks.Mark.{Mark}
use Rattle.talk_model.specs.Requests.{Meaning, Wants}
use Rattle.talk_model.specs.Given.{Given, given_of}
use Rattle.talk_model.specs.Marks.{IsLater, event_at, AreMarksOf, asks_in, asks_at, AreInOrder}
use Rattle.talk_model.specs.Talk.{talk}
use Rattle.talk_model.specs.Alone.{Storing, WentSo, after_all, replies_alone}

-- where a conversation stands: what its source has left and its sink holds, where they tell it, how they have failed, and what its board tells
pub record Standing : Type 0 where
  pub left : Option (List ℕ)
  pub source_failures : Failures
  pub held : Option (List ℕ)
  pub sink_failures : Failures
  pub board : BoardState

-- the board is alone, and writes as seat 0
abbrev pub IsLone : BoardState → Type 0
IsLone b = (b.alone ≡ true) × ((lock : ℕ) → b.seats lock ≡ Some 0)

-- so it is of a board that is alone, with the appends as they went
abbrev pub OfLone : BoardState → BoardState → (Storing → Type 0) → Type 0
OfLone entry now holds = IsLone entry → (storing : Storing) → WentSo storing now.histories → holds storing

-- each request with what was given for it
abbrev pub asked_for : List Meaning → List Mark → List (Meaning × Given)
asked_for wanted marks = zip wanted (map given_of marks)

-- From entry until now, whole requests and then rest were taken, and of the rest, but for one piece, no more than it takes to see what it begins with;
-- each request has its mark, which fits the histories; and of their replies, which are the defined texts, and of the last texts behind
-- them, all but unsent was written. Of a board that is alone the replies are those of its single-client run.
pub record Conversed (t : Table) (entry now : Standing) (wanted : List Meaning) (marks : List Mark) (rest : List ℕ) (last : List (List ℕ)) (unsent : List ℕ) : Type 0 where
  pub requests : List (List ℕ)
  pub sent : List ℕ
  pub each : AllZip (Wants t) requests wanted
  pub consumed : Consumes entry.left now.left (concat requests ++ rest)
  pub ahead : HasLastPiece rest
  pub board : IsLater entry.board now.board
  pub legal : AreLegal now.board.histories
  pub marked : AreMarksOf 0 entry.board now.board marks wanted
  pub text : concat (talk wanted marks now.board.histories ++ last) ≡ sent ++ unsent
  pub appended : Appends entry.held now.held sent
  pub said : OfLone entry.board now.board (λ storing. talk wanted marks now.board.histories ≡ replies_alone storing entry.board.histories (asked_for wanted marks))

-- The board was asked just these asks: each lock has had just so many more, answered at these lengths, one that was not asked is as at
-- entry, the board's own events beyond those at entry are just those that they made, and a board that is alone has the histories of this run.
pub record IsSettled (entry found : BoardState) (ats : List At) (run : Storing → Histories Event) : Type 0 where
  pub ordered : AreInOrder ats
  pub turns : (lock : ℕ) → found.turns lock ≡ entry.turns lock ++ map (λ (at : At). at.len) (asks_at lock ats)
  pub unasked : (lock : ℕ) → asks_at lock ats ≡ [] → IsSameAt entry found lock
  pub own : (lock : ℕ) → own_of (found.seats lock) (drop (length (entry.histories lock)) (found.histories lock)) ≡ flat_map (event_at found.histories) (asks_at lock ats)
  pub left_behind : OfLone entry found (λ storing. (lock : ℕ) → found.histories lock ≡ run storing lock)

-- so it is behind requests that were answered
abbrev pub AreSettled : BoardState → BoardState → List Meaning → List Mark → Type 0
AreSettled entry now wanted marks = IsSettled entry now (asks_in marks) (λ storing. after_all storing entry.histories (asked_for wanted marks))
