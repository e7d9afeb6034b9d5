-- The lists of replies, and what is read of their text.
use Rattle.std.specs.Prelude.{◌≡◌, ◌≤◌, ℕ, List, Some}
use Rattle.serde_json.specs.Data.{Data, array, object, no_members, member, depth}
use Rattle.serde_json.specs.Read.{read, max_depth}
use Rattle.serde_json.specs.View.{items_of}
use Rattle.serde_json.specs.Written.{compact_text, IsInOrder}

-- an object with a list alone
abbrev pub list_data : List ℕ → List Data → Data
list_data name ds = object (member name (array (items_of ds)) no_members)

-- the text of the JSON has what it has, in order, and is read as it where it nests no deeper than what is read
pub record IsRead (d : Data) : Type 0 where
  pub in_order : IsInOrder (compact_text d) d
  pub reads : depth d ≤ max_depth → read (compact_text d) ≡ Some d
