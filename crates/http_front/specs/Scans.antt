-- How far the bytes of a head were looked at, and what was found.
use Rattle.std.specs.Prelude.{◌≡◌, ℕ, ◌-◌, ◌<◌, ◌≤◌, ◌⊎◌, List, [], ◌++◌, length, take, drop, get_or, map, Result, Ok, Err}
use Rattle.std.specs.List.{AllByRecursion}
use Rattle.httparse.specs.Grammar.{RequestHead, print_request, ReadsRequest, HasNoRequest, NeverHasRequest}
use Rattle.httparse.specs.Spans.{IsWithin, IsHeaderWithin, span_bytes, header_bytes, name_and_value}
use Rattle.httparse.specs.declared.spans.HeaderSpan.{HeaderSpan}
use Rattle.httparse.specs.declared.spans.RequestSpans.{RequestSpans}
use Rattle.http_front.specs.declared.faults.FrontFault.{FrontFault}
use Rattle.http_front.specs.declared.faults.FrontFault.TheVariants.{Ended, Cut, BadHead, HeadTooLong, NoLength, BodyTooLong, ReadFault, NoMemory}
use Rattle.http_front.specs.declared.head.HeadRead.{HeadRead}
use Rattle.http_front.specs.declared.head.Parsed.{Parsed}
use Rattle.http_front.specs.declared.head.Parsed.TheVariants.{Head as AHead, Never, NotYet}
use Rattle.http_front.specs.declared.scan.Scan.{Scan}
use Rattle.http_front.specs.declared.look.Look.{Look}
use Rattle.http_front.specs.declared.look.Look.TheVariants.{Head, More}
use Rattle.http_front.specs.Lines.{most_head, most_lines, line_feeds}
use Rattle.http_front.specs.Fields.{body_length, asks_to_close}
use Rattle.http_front.specs.Requests.{HasBadHead, HasLongHead}

-- The parts of a head were found at the front of the bytes.
pub record IsHeadRead (bytes : List ℕ) (read : HeadRead) : Type 0 where
  pub head : RequestHead
  pub reads : ReadsRequest bytes head (drop read.len bytes)
  pub len : read.len ≡ length (print_request head)
  pub within : read.len ≤ length bytes
  pub method_within : IsWithin read.len read.method
  pub target_within : IsWithin read.len read.target
  pub method : span_bytes bytes read.method ≡ head.method
  pub target : span_bytes bytes read.target ≡ head.target
  pub close : read.close ≡ asks_to_close head
  pub stated : read.length ≡ body_length head

-- The spans cover the parts of a head that stands at the front of the bytes, and the headers its fields.
pub record HasSpans (bytes : List ℕ) (spans : RequestSpans) (headers : List HeaderSpan) : Type 0 where
  pub head : RequestHead
  pub reads : ReadsRequest bytes head (drop spans.len bytes)
  pub len : spans.len ≡ length (print_request head)
  pub within : spans.len ≤ length bytes
  pub method_within : IsWithin spans.len spans.method
  pub target_within : IsWithin spans.len spans.path
  pub headers_within : AllByRecursion (IsHeaderWithin (length bytes)) headers
  pub method : span_bytes bytes spans.method ≡ head.method
  pub target : span_bytes bytes spans.path ≡ head.target
  pub minor : spans.version ≡ head.minor
  pub fields : map (header_bytes bytes) headers ≡ map name_and_value head.fields

-- some bytes can follow that make the bytes a head
pub record MayBecomeHead (bytes : List ℕ) : Type 0 where
  pub more : List ℕ
  pub head : RequestHead
  pub reads : ReadsRequest (bytes ++ more) head []

-- what stands at the front of whole lines: a head, nothing that can become one, or no head yet
abbrev pub Parses : List ℕ → Parsed → Type 0
Parses bytes (AHead read) = IsHeadRead bytes read
Parses bytes Never = NeverHasRequest bytes
Parses bytes NotYet = HasNoRequest bytes × MayBecomeHead bytes

-- The first bytes were looked at: so many line feeds were found, and the last of them ends the lines.
pub record IsScanned (bytes : List ℕ) (s : Scan) : Type 0 where
  pub within : s.seen ≤ length bytes
  pub short : s.seen ≤ most_head
  pub few : s.feeds ≤ most_lines
  pub behind : s.lines ≤ s.seen
  pub counted : line_feeds (take s.seen bytes) ≡ s.feeds
  pub last : line_feeds (take s.lines bytes) ≡ s.feeds
  pub ends : 0 < s.lines → get_or bytes (s.lines - 1) 0 ≡ 10

-- Nothing is left to look at: the bytes end there, or a limit does.
abbrev pub IsDone : List ℕ → Scan → Type 0
IsDone bytes s = s.seen < length bytes → (s.seen ≡ most_head) ⊎ (s.feeds ≡ most_lines)

-- The lines are no head yet, where there are lines.
abbrev pub IsOpen : List ℕ → ℕ → Type 0
IsOpen bytes lines = 0 < lines → HasNoRequest (take lines bytes) × MayBecomeHead (take lines bytes)

-- All bytes were looked at, within the limits, and no head ended.
pub record IsWaiting (bytes : List ℕ) (s : Scan) : Type 0 where
  pub scanned : IsScanned bytes s
  pub all : s.seen ≡ length bytes
  pub unended : IsOpen bytes s.lines
  pub short : length bytes < most_head
  pub few : s.feeds < most_lines

-- a head within its limits
pub record IsFound (bytes : List ℕ) (read : HeadRead) : Type 0 where
  pub is : IsHeadRead bytes read
  pub short : read.len ≤ most_head
  pub few : line_feeds (print_request is.head) ≤ most_lines

-- what a look at the bytes finds
abbrev pub Looks : List ℕ → Result Look FrontFault → Type 0
Looks bytes (Ok (Head read)) = IsFound bytes read
Looks bytes (Ok (More s)) = IsWaiting bytes s
Looks bytes (Err BadHead) = HasBadHead bytes
Looks bytes (Err HeadTooLong) = HasLongHead bytes
Looks bytes (Err Ended) = ⊥
Looks bytes (Err Cut) = ⊥
Looks bytes (Err NoLength) = ⊥
Looks bytes (Err BodyTooLong) = ⊥
Looks bytes (Err ReadFault) = ⊥
Looks bytes (Err NoMemory) = ⊥
