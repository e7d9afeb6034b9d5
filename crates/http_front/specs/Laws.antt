-- Bytes say what is read of them, whatever the pieces in which they came.
use Rattle.std.specs.Prelude.{◌≡◌, ℕ, ◌≤◌, ◌⊎◌, List, [], ◌++◌, length, Option, Result, Ok, Err}
use Rattle.http_front.specs.declared.faults.FrontFault.{FrontFault}
use Rattle.http_front.specs.declared.faults.FrontFault.TheVariants.{BadHead, HeadTooLong, NoMemory}
use Rattle.http_front.specs.declared.request.Request.{Request}
use Rattle.httparse.specs.Grammar.{RequestHead}
use Rattle.http_front.specs.Requests.{ReadsHead, IsRequest, HasBadHead, HasLongHead, HasHead, IsUnfinished}
use Rattle.http_front.specs.Reading.{IsFault}

-- A request stands at the front.
pub record HasRequest (bytes : List ℕ) (r : Request) : Type 0 where
  pub front : List ℕ
  pub rest : List ℕ
  pub parts : bytes ≡ front ++ rest
  pub is : IsRequest front r

-- No request does, and none will.
pub data IsRefused (bytes : List ℕ) (fault : FrontFault) : Type 0 where
  bad : fault ≡ BadHead → HasBadHead bytes → IsRefused bytes fault
  long : fault ≡ HeadTooLong → HasLongHead bytes → IsRefused bytes fault
  unsized : HasHead bytes (Err fault) → IsRefused bytes fault

-- what the bytes say, once they say it
abbrev pub Says : List ℕ → Result Request FrontFault → Type 0
Says bytes (Ok r) = HasRequest bytes r
Says bytes (Err fault) = IsRefused bytes fault

-- they say one thing
abbrev pub SayOne : Type 0
SayOne = (bytes : List ℕ) (r s : Result Request FrontFault) → Says bytes r → Says bytes s → r ≡ s

-- of one length
abbrev pub CutOne : Type 0
CutOne = (bytes : List ℕ) (r s : Request) (x : HasRequest bytes r) (y : HasRequest bytes s) → x.front ≡ y.front

-- and more bytes do not change it
abbrev pub StaySaid : Type 0
StaySaid = (bytes more : List ℕ) (r : Result Request FrontFault) → Says bytes r → Says (bytes ++ more) r

-- and as long as they are unfinished, they say nothing
abbrev pub WaitUnsaid : Type 0
WaitUnsaid = (bytes : List ℕ) (r : Result Request FrontFault) → Says bytes r → IsUnfinished bytes → ⊥

-- no bytes are unfinished
abbrev pub NothingWaits : Type 0
NothingWaits = IsUnfinished []

-- more bytes leave a bad head bad, one that is too long so, and what a head says
pub record HeadsStay : Type 0 where
  pub bad_head : (bytes more : List ℕ) → HasBadHead bytes → HasBadHead (bytes ++ more)
  pub long_head : (bytes more : List ℕ) → HasLongHead bytes → HasLongHead (bytes ++ more)
  pub head : (bytes more : List ℕ) (stated : Result ℕ FrontFault) → HasHead bytes stated → HasHead (bytes ++ more) stated

-- a fault of a reading says that they are unfinished, or that they are refused with it, memory aside
abbrev pub FaultsSay : Type 0
FaultsSay = (fault : FrontFault) (left : Option (List ℕ)) (bytes : List ℕ) → IsFault fault left bytes → (fault ≡ NoMemory) ⊎ (IsUnfinished bytes ⊎ IsRefused bytes fault)

-- a head within its limits has at most 126 fields, so the room for fields never decides
abbrev pub FieldsFit : Type 0
FieldsFit = (bytes : List ℕ) (head : RequestHead) (rest : List ℕ) → ReadsHead bytes head rest → length head.fields ≤ 126
