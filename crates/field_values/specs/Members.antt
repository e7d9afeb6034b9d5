-- The members of an object and the elements of an array.
use Rattle.std.specs.Prelude.{ℕ, Bool, false, if◌then◌else◌, List, [], ◌∷◌, Option, Some, None, is_some, unwrap_or, option_and_then}
use Rattle.serde_json.specs.Data.{Data, Items, no_items, item}
use Rattle.serde_json.specs.Find.{get, as_bool, as_null}

-- the object has the member; what is no object has none
abbrev pub has : List ℕ → Data → Bool
has name d = is_some (get name d)

abbrev pub unless_null : Data → Option Data
unless_null d = if is_some (as_null d) then None else Some d

-- the member, where it is there and not null
abbrev pub found : List ℕ → Data → Option Data
found name d = option_and_then unless_null (get name d)

abbrev pub is_true : Option Data → Bool
is_true None = false
is_true (Some d) = unwrap_or (as_bool d) false

-- the elements of an array as a list
abbrev pub elements : Items → List Data
elements no_items = []
elements (item d ds) = d ∷ elements ds
