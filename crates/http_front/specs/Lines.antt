-- Whole lines, and the limits of a head (RFC 9112, section 2.2, lets a line end in a line feed alone).
use Rattle.std.specs.Prelude.{◌≡◌, ℕ, ◌≤◌, ◌==◌, List, [], ◌∷◌, ◌++◌, length}
use Rattle.std.specs.List.{count_by}

-- the most bytes of a head
abbrev pub most_head : ℕ
most_head = 16384

-- the most line feeds of a head
abbrev pub most_lines : ℕ
most_lines = 128

-- how many line feeds there are
abbrev pub line_feeds : List ℕ → ℕ
line_feeds bytes = count_by (λ b. b == 10) bytes

-- The last byte is a line feed.
pub record EndsInFeed (bytes : List ℕ) : Type 0 where
  pub before : List ℕ
  pub ends : bytes ≡ before ++ 10 ∷ []

-- The bytes are whole lines, within the limits of a head.
pub record AreLines (bytes : List ℕ) : Type 0 where
  pub whole : EndsInFeed bytes
  pub short : length bytes ≤ most_head
  pub few : line_feeds bytes ≤ most_lines
