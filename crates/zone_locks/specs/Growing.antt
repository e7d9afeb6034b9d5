-- Lists that grow, and the items of a seat in them.
use Rattle.std.specs.Prelude.{◌≡◌, ℕ, List, [], ◌++◌, length, drop, nat_eq, nat_le, Option, Some, None, Bool, true, false}
use Rattle.std.specs.List.{filter, AllByRecursion}

-- the second list is the front of the first
abbrev pub StartsWith : {I : Type 0} → List I → List I → Type 0
StartsWith {I} whole front = (more : List I) × (whole ≡ front ++ more)

-- the items of a seat, in order
abbrev pub own : {I : Type 0} → (I → ℕ) → ℕ → List I → List I
own seat_of seat items = filter (λ item. nat_eq (seat_of item) seat) items

-- the items of the seat that a pass has, if it has one
abbrev pub own_of : {I : Type 0} → (I → ℕ) → Option ℕ → List I → List I
own_of seat_of None items = []
own_of seat_of (Some seat) items = own seat_of seat items

-- all items are of that seat
abbrev pub AreOf : {I : Type 0} → (I → ℕ) → ℕ → List I → Type 0
AreOf seat_of seat items = AllByRecursion (λ item. seat_of item ≡ seat) items

-- the list is the one before, and then items of that seat
abbrev pub GrownBy : {I : Type 0} → (I → ℕ) → ℕ → List I → List I → Type 0
GrownBy {I} seat_of seat before after = (added : List I) × (after ≡ before ++ added) × AreOf seat_of seat added

-- what the second list has after the first
abbrev pub after_front : {I : Type 0} → List I → List I → List I
after_front before after = drop (length before) after

abbrev pub second_if : {I : Type 0} → Bool → List I → List I → List I
second_if true xs ys = ys
second_if false xs ys = xs

-- the longer of two lists
abbrev pub longer : {I : Type 0} → List I → List I → List I
longer xs ys = second_if (nat_le (length xs) (length ys)) xs ys
