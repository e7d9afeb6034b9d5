-- The items of a target's query, as the URL Standard, section 5.1, reads a form.
use Rattle.std.specs.Prelude.{ℕ, ◌+◌, ◌==◌, List, [], ◌∷◌, drop, Option, None, Some, if◌then◌else◌}
use Rattle.std.specs.List.{position}
use Rattle.std.specs.Str.{bytes_eq}
use Rattle.std.specs.Str.Lossy.{utf8_lossy}
use Rattle.form_urlencoded.specs.Form.{decode, raw_pairs}

-- the bytes behind that place, or none
abbrev pub behind : List ℕ → Option ℕ → List ℕ
behind bytes None = []
behind bytes (Some at) = drop (at + 1) bytes

-- the query of a target, which its first question mark begins
abbrev pub query_of : List ℕ → List ℕ
query_of target = behind target (position (λ b. b == 63) target)

-- the text that a name or a value of a form stands for
abbrev pub text_of : List ℕ → List ℕ
text_of bytes = utf8_lossy (decode bytes)

-- the value of the first pair of that name
abbrev pub first_value : List ℕ → List (List ℕ × List ℕ) → Option (List ℕ)
first_value name [] = None
first_value name (pair ∷ pairs) = if bytes_eq (text_of pair.0) name then Some (text_of pair.1) else first_value name pairs

-- the value of the first item of that name in the query
abbrev pub item_of : List ℕ → List ℕ → Option (List ℕ)
item_of name target = first_value name (raw_pairs (query_of target))
