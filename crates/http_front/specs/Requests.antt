-- Which bytes are a request, and why others are none. Nothing here depends on the pieces in which the bytes came.
-- A request is a head and a body of the length that it states (RFC 9112, sections 2.1 and 6). The grammar of a head is that of
-- `httparse`, which also says that empty lines in front belong to it.
use Rattle.std.specs.Prelude.{◌≡◌, ℕ, ◌<◌, ◌≤◌, ◌⊎◌, List, ◌++◌, length, Result, Ok}
use Rattle.httparse.specs.Grammar.{RequestHead, print_request, ReadsRequest, NeverHasRequest}
use Rattle.http_front.specs.declared.faults.FrontFault.{FrontFault}
use Rattle.http_front.specs.declared.request.Request.{Request}
use Rattle.http_front.specs.Lines.{most_head, most_lines, line_feeds, AreLines}
use Rattle.http_front.specs.Fields.{body_length, asks_to_close}

-- The bytes are a head within its limits, and then rest.
pub record ReadsHead (bytes : List ℕ) (head : RequestHead) (rest : List ℕ) : Type 0 where
  pub reads : ReadsRequest bytes head rest
  pub short : length (print_request head) ≤ most_head
  pub few : line_feeds (print_request head) ≤ most_lines

-- The bytes are this request: a head, and behind it the body of the length that it states.
pub record IsRequest (bytes : List ℕ) (r : Request) : Type 0 where
  pub head : RequestHead
  pub reads : ReadsHead bytes head r.body
  pub method : r.method ≡ head.method
  pub target : r.target ≡ head.target
  pub close : r.close ≡ asks_to_close head
  pub stated : body_length head ≡ Ok (length r.body)

-- No head within its limits stands at the front.
abbrev pub HasNoHead : List ℕ → Type 0
HasNoHead bytes = (head : RequestHead) (rest : List ℕ) → ReadsHead bytes head rest → ⊥

-- Some whole lines at the front, within the limits of a head, have no continuation that is a head.
pub record HasBadHead (bytes : List ℕ) : Type 0 where
  pub front : List ℕ
  pub rest : List ℕ
  pub parts : bytes ≡ front ++ rest
  pub lines : AreLines front
  pub never : NeverHasRequest front

-- The limits are reached, and no head ended within them, nor is it a bad one.
pub record HasLongHead (bytes : List ℕ) : Type 0 where
  pub reached : (most_head ≤ length bytes) ⊎ (most_lines ≤ line_feeds bytes)
  pub none : HasNoHead bytes
  pub fine : HasBadHead bytes → ⊥

-- There is a head at the front, and what its fields say of the body is this.
pub record HasHead (bytes : List ℕ) (stated : Result ℕ FrontFault) : Type 0 where
  pub head : RequestHead
  pub rest : List ℕ
  pub reads : ReadsHead bytes head rest
  pub says : body_length head ≡ stated

-- The bytes do not yet say what stands there: the limits of a head are not reached and no head ended, nor is it a bad one; or there is a head,
-- and behind it less than its body.
pub data IsUnfinished (bytes : List ℕ) : Type 0 where
  in_head : length bytes < most_head → line_feeds bytes < most_lines → HasNoHead bytes → (HasBadHead bytes → ⊥) → IsUnfinished bytes
  in_body : (size : ℕ) → (h : HasHead bytes (Ok size)) → length h.rest < size → IsUnfinished bytes
