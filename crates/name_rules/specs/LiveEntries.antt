-- Entries of what changed, numbered from 1, and those that are live: of names or of zones.
use Rattle.std.specs.Prelude.{ℕ, suc, Bool, nat_lt, List, [], ◌∷◌, filter, if◌then◌else◌}
use Rattle.std.specs.List.{list_any}

pub record Entry (K : Type 0) : Type 0 where
  pub number : ℕ
  pub name : K

module _ {K : Type 0} (is_same : K → K → Bool) where
  -- of the names, numbered from n on, each that does not come again
  abbrev pub live_from : ℕ → List K → List (Entry K)
  live_from n [] = []
  live_from n (x ∷ xs) = if list_any (is_same x) xs then live_from (suc n) xs else record { number = n; name = x } ∷ live_from (suc n) xs

  -- the live entries above a number
  abbrev pub live_above : ℕ → List K → List (Entry K)
  live_above n names = filter (λ (e : Entry K). nat_lt n e.number) (live_from 1 names)
