-- How a head is read on, and how a request is taken off.
use Rattle.std.specs.Prelude.{◌≡◌, ℕ, ◌<◌, List, [], ◌++◌, length, Option, Result, Ok, Err, ⊤}
use Rattle.std.specs.Io.KnownBytes.{IsAtEnd}
use Rattle.http_front.specs.declared.faults.FrontFault.{FrontFault}
use Rattle.http_front.specs.declared.faults.FrontFault.TheVariants.{Ended, Cut, BadHead, HeadTooLong, NoLength, BodyTooLong, ReadFault, NoMemory}
use Rattle.http_front.specs.declared.request.Request.{Request}
use Rattle.http_front.specs.Requests.{IsRequest}

-- why there is no further piece: the source ended, or a read failed
abbrev pub StopsHead : FrontFault → Option (List ℕ) → List ℕ → Type 0
StopsHead Ended left bytes = IsAtEnd left × (bytes ≡ [])
StopsHead Cut left bytes = IsAtEnd left × (0 < length bytes)
StopsHead BadHead left bytes = ⊥
StopsHead HeadTooLong left bytes = ⊥
StopsHead NoLength left bytes = ⊥
StopsHead BodyTooLong left bytes = ⊥
StopsHead ReadFault left bytes = ⊤
StopsHead NoMemory left bytes = ⊤

-- The front of the bytes is the request, and the rest is left.
pub record TakesFront (old new : List ℕ) (r : Request) : Type 0 where
  pub bytes : List ℕ
  pub parts : old ≡ bytes ++ new
  pub is : IsRequest bytes r

-- a request was taken, or memory ran out and nothing was
abbrev pub TakesBehind : List ℕ → List ℕ → Result Request FrontFault → Type 0
TakesBehind old new (Ok r) = TakesFront old new r
TakesBehind old new (Err fault) = (new ≡ old) × (fault ≡ NoMemory)
