-- A field that was found by its name.
use Rattle.std.specs.Prelude.{◌≡◌, ℕ, ◌<◌, List, ◌∷◌, length, map}
use Rattle.std.specs.List.{AllByRecursion}
use Rattle.httparse.specs.Spans.{IsHeaderWithin, header_bytes}
use Rattle.httparse.specs.declared.spans.HeaderSpan.{HeaderSpan}
use Rattle.http_front.specs.declared.fields.Found.{Found}
use Rattle.http_front.specs.Fields.{values_of}

-- Its value is the first of the values of that name, and the others are those of the fields behind it.
pub record HasFound (bytes : List ℕ) (headers : List HeaderSpan) (name : List ℕ) (found : Found) : Type 0 where
  pub values : values_of name (map (header_bytes bytes) headers) ≡ found.value.now ∷ values_of name (map (header_bytes bytes) found.behind.now)
  pub within : AllByRecursion (IsHeaderWithin (length bytes)) found.behind.now
  pub shorter : length found.behind.now < length headers
