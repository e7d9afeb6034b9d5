-- Names, as their bytes: when two are the same, and lists of them.
use Rattle.std.specs.Prelude.{ℕ, Bool, true, false, nat_eq, List, [], ◌∷◌, ◌++◌, filter, if◌then◌else◌, Option, Some, None}
use Rattle.std.specs.List.{list_any}
use Rattle.std.specs.Cmp.Lexicographic.{pointwise}
use Rattle.ck_base.specs.Order.{is_before}

abbrev pub same : List ℕ → List ℕ → Bool
same x y = pointwise nat_eq x y

-- a name or none, both times the same
abbrev pub same_option : Option (List ℕ) → Option (List ℕ) → Bool
same_option None None = true
same_option None (Some y) = false
same_option (Some x) None = false
same_option (Some x) (Some y) = same x y

-- the name is among these
abbrev pub is_in : List (List ℕ) → List ℕ → Bool
is_in names x = list_any (same x) names

-- some name comes twice
abbrev pub has_twice : List (List ℕ) → Bool
has_twice [] = false
has_twice (x ∷ xs) = if is_in xs x then true else has_twice xs

-- the first of the names that stands before itself, or among the earlier ones
abbrev pub again_after : List (List ℕ) → List (List ℕ) → Option (List ℕ)
again_after earlier [] = None
again_after earlier (x ∷ xs) = if is_in earlier x then Some x else again_after (x ∷ earlier) xs

abbrev pub first_again : List (List ℕ) → Option (List ℕ)
first_again names = again_after [] names

-- each name once
abbrev pub distinct : List (List ℕ) → List (List ℕ)
distinct [] = []
distinct (x ∷ xs) = if is_in xs x then distinct xs else x ∷ distinct xs

-- the names with one more, in ascending order
abbrev pub with_name : List (List ℕ) → List ℕ → List (List ℕ)
with_name names x = filter (λ y. is_before y x) names ++ x ∷ filter (λ y. is_before x y) names

-- the names of both lists, in ascending order where the first one has them so
abbrev pub names_of_both : List (List ℕ) → List (List ℕ) → List (List ℕ)
names_of_both xs [] = xs
names_of_both xs (y ∷ ys) = names_of_both (with_name xs y) ys
