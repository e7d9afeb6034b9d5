-- What a buffer holds after reads, and what was taken off it.
use Rattle.std.specs.Prelude.{◌≡◌, ℕ, ◌+◌, ◌<◌, ◌≤◌, ◌⊎◌, List, [], ◌++◌, length, Option, Result, Ok, Err, ⊤}
use Rattle.std.specs.Io.KnownBytes.{Consumes, IsAtEnd}
use Rattle.http_front.specs.declared.faults.FrontFault.{FrontFault}
use Rattle.http_front.specs.declared.faults.FrontFault.TheVariants.{Ended, Cut, BadHead, HeadTooLong, NoLength, BodyTooLong, ReadFault, NoMemory}
use Rattle.http_front.specs.declared.request.Request.{Request}
use Rattle.http_front.specs.Requests.{IsRequest, HasBadHead, HasLongHead, HasHead, IsUnfinished}

-- What was read stands behind what the buffer held.
pub record Extends (left now : Option (List ℕ)) (old new : List ℕ) : Type 0 where
  pub taken : List ℕ
  pub consumed : Consumes left now taken
  pub grown : new ≡ old ++ taken

-- the most bytes that one read takes
abbrev pub most_piece : ℕ
most_piece = 4096

-- The last piece was taken where the bytes were still unfinished.
pub record EndsInPiece (old taken : List ℕ) : Type 0 where
  pub earlier : List ℕ
  pub piece : List ℕ
  pub parts : taken ≡ earlier ++ piece
  pub small : length piece ≤ most_piece
  pub unfinished : IsUnfinished (old ++ earlier)

-- Nothing was taken once the bytes said what stands at their front, but for the rest of one piece.
abbrev pub ReadsNoFurther : List ℕ → List ℕ → Type 0
ReadsNoFurther old taken = (taken ≡ []) ⊎ EndsInPiece old taken

-- What was read stands behind what the buffer held, and no more was read than was needed.
pub record ReadsOn (left now : Option (List ℕ)) (old new : List ℕ) : Type 0 where
  pub taken : List ℕ
  pub consumed : Consumes left now taken
  pub grown : new ≡ old ++ taken
  pub ahead : ReadsNoFurther old taken

-- The last piece came where the bytes were unfinished: but for the rest of that piece, no more was read than it took to see what stands at their front.
pub record HasLastPiece (bytes : List ℕ) : Type 0 where
  pub front : List ℕ
  pub piece : List ℕ
  pub parts : bytes ≡ front ++ piece
  pub small : length piece ≤ most_piece
  pub unfinished : IsUnfinished front

-- A whole request was taken off the front of what the buffer held and what was read behind it.
pub record TakesRequest (left now : Option (List ℕ)) (old new : List ℕ) (r : Request) : Type 0 where
  pub bytes : List ℕ
  pub taken : List ℕ
  pub consumed : Consumes left now taken
  pub parts : old ++ taken ≡ bytes ++ new
  pub is : IsRequest bytes r
  pub ahead : ReadsNoFurther old taken

-- When each fault comes, by the bytes since the last request, and whether the source has ended.
abbrev pub IsFault : FrontFault → Option (List ℕ) → List ℕ → Type 0
IsFault Ended left bytes = IsAtEnd left × (bytes ≡ [])
IsFault Cut left bytes = IsAtEnd left × (0 < length bytes) × IsUnfinished bytes
IsFault BadHead left bytes = HasBadHead bytes
IsFault HeadTooLong left bytes = HasLongHead bytes
IsFault NoLength left bytes = HasHead bytes (Err NoLength)
IsFault BodyTooLong left bytes = HasHead bytes (Err BodyTooLong)
IsFault ReadFault left bytes = IsUnfinished bytes
IsFault NoMemory left bytes = ⊤

-- a piece was read, of no more bytes than one read takes, and of none only at the end
abbrev pub Fills : Option (List ℕ) → Option (List ℕ) → List ℕ → List ℕ → Result ℕ FrontFault → Type 0
Fills left now old new (Ok n) = Extends left now old new × (length new ≡ length old + n) × (n ≤ most_piece) × (n ≡ 0 → IsAtEnd now × (new ≡ old))
Fills left now old new (Err fault) = Extends left now old new × (new ≡ old)

-- the faults of a read
abbrev pub IsReadError : FrontFault → Type 0
IsReadError fault = (fault ≡ ReadFault) ⊎ (fault ≡ NoMemory)
