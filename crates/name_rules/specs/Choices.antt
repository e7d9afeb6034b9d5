-- What a page lists of the live entries above a number.
use Rattle.std.specs.Prelude.{ℕ, Bool, nat_lt, List, [], ◌∷◌, map, take, length, if◌then◌else◌}
use Rattle.name_rules.specs.LiveEntries.{Entry, live_above}

-- what a page lists, the number from which the next one goes on, and whether live entries are left
pub record Choice (K : Type 0) : Type 0 where
  pub names : List K
  pub number : ℕ
  pub more : Bool

-- the number of the last entry that is listed, or n where none is
abbrev pub last_number : {K : Type 0} → ℕ → List (Entry K) → ℕ
last_number n [] = n
last_number n (e ∷ es) = last_number e.number es

-- of the live entries above n the first k; the number is the last listed entry's where some are left, and else that of all entries
abbrev pub choice_of : {K : Type 0} → List (Entry K) → ℕ → ℕ → ℕ → Choice K
choice_of {K} live count n k = record {
  names = map (λ (e : Entry K). e.name) (take k live);
  number = if nat_lt k (length live) then last_number n (take k live) else count;
  more = nat_lt k (length live);
}

-- the page above n with at most k of the names that have changed
abbrev pub choice : {K : Type 0} → (K → K → Bool) → List K → ℕ → ℕ → Choice K
choice is_same names n k = choice_of (live_above is_same n names) (length names) n k
