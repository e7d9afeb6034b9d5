-- Histories of the locks, and how they grow.
use Rattle.std.specs.Prelude.{◌≡◌, ℕ, List, ◌∷◌, ◌++◌}

-- a list for each lock
abbrev pub Histories : Type 0 → Type 0
Histories E = ℕ → List E

-- old is the front of new
pub record IsFront {E : Type 0} (old new : List E) : Type 0 where
  pub more : List E
  pub grown : new ≡ old ++ more

-- each history is the front of what it has become
abbrev pub Grows : {E : Type 0} → Histories E → Histories E → Type 0
Grows old new = (lock : ℕ) → IsFront (old lock) (new lock)

-- each of the list is so after those before it
abbrev pub EachAfter : {X : Type 0} → (List X → X → Type 0) → List X → Type 0
EachAfter {X} IsSo xs = (before : List X) (x : X) (after : List X) → xs ≡ before ++ x ∷ after → IsSo before x
