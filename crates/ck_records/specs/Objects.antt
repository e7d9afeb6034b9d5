-- Objects some of whose members may be missing.
use Rattle.std.specs.Prelude.{ℕ, List, [], ◌∷◌, Option, None, Some}
use Rattle.serde_json.specs.Data.{Data, object, Members, no_members, member, put}

-- the members that are there
abbrev pub present : List (List ℕ × Option Data) → Members
present [] = no_members
present ((name, None) ∷ ms) = present ms
present ((name, Some d) ∷ ms) = member name d (present ms)

-- the object of the members that are there, in the order in which they are listed
abbrev pub object_of : List (List ℕ × Option Data) → Data
object_of ms = object (present ms)

-- with the member in its place by name, where it is there
abbrev pub put_some : List ℕ → Option Data → Members → Members
put_some name None ms = ms
put_some name (Some d) ms = put name d ms

-- with each of the members in its place by name, put from the last to the first
abbrev pub put_all : List (List ℕ × Option Data) → Members → Members
put_all [] ms = ms
put_all ((name, o) ∷ rows) ms = put_some name o (put_all rows ms)
