-- Names with their parents, and which of them stand at or above a name.
use Rattle.std.specs.Prelude.{◌≡◌, ℕ, zero, suc, Bool, List, [], ◌∷◌, find, length, Option, Some, option_and_then}
use Rattle.std.specs.Option.{option_map_or}
use Rattle.name_rules.specs.Names.{same, is_in}

-- a name and its parent, if it has one
abbrev pub Link : Type 0
Link = List ℕ × Option (List ℕ)

-- the parent of a name
abbrev pub parent_of : List Link → List ℕ → Option (List ℕ)
parent_of links x = option_and_then (λ (l : Link). l.1) (find (λ (l : Link). same x l.0) links)

-- a is x, or x has a parent p and a is at or above p
pub data IsAbove (links : List Link) (a : List ℕ) : List ℕ → Type 0 where
  here : (x : List ℕ) → a ≡ x → IsAbove links a x
  up : (x p : List ℕ) → parent_of links x ≡ Some p → IsAbove links a p → IsAbove links a x

-- the names that at most n steps upward pass, from x on
abbrev pub upward : ℕ → List Link → List ℕ → List (List ℕ)
upward zero links x = x ∷ []
upward (suc n) links x = x ∷ option_map_or (upward n links) (parent_of links x) []

-- all that is at or above x: as many steps as there are links are enough, since a longer way passes some name twice
abbrev pub all_above : List Link → List ℕ → List (List ℕ)
all_above links x = upward (length links) links x

abbrev pub is_above : List Link → List ℕ → List ℕ → Bool
is_above links a x = is_in (all_above links x) a
