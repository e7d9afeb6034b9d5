-- What a shelf holds: files by name.
use Rattle.std.specs.Prelude.{◌≡◌, ℕ, Bool, true, false, nat_eq, List, [], ◌∷◌, Option, None, Some, if◌then◌else◌}
use Rattle.std.specs.Cmp.Lexicographic.{pointwise}

-- names with bytes
abbrev pub Files : Type 0
Files = List (List ℕ × List ℕ)

-- the bytes of the first file of that name
abbrev pub file : Files → List ℕ → Option (List ℕ)
file [] name = None
file (f ∷ fs) name = if pointwise nat_eq f.0 name then Some f.1 else file fs name

-- a read answers whether there is such a file, and gives its bytes, or none
abbrev pub Reads : Option (List ℕ) → Bool → List ℕ → Type 0
Reads None found bytes = (found ≡ false) × (bytes ≡ [])
Reads (Some stored) found bytes = (found ≡ true) × (bytes ≡ stored)

-- the same, where the shelf tells its files, and else that there are no bytes of a missing file
abbrev pub ReadsFile : Option Files → List ℕ → Bool → List ℕ → Type 0
ReadsFile None name found bytes = found ≡ false → bytes ≡ []
ReadsFile (Some files) name found bytes = Reads (file files name) found bytes
