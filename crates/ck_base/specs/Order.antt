-- The order of names and of keys.
use Rattle.std.specs.Prelude.{ℕ, Bool, true, ◌&&◌, List, [], ◌∷◌}
use Rattle.std.specs.List.{list_all}
use Rattle.std.specs.Ordering.{nat_cmp, is_lt, ordering_then}
use Rattle.std.specs.Cmp.Lexicographic.{slice_cmp}
use Rattle.std.specs.declared.cmp.Ordering.{Ordering}
use Rattle.ck_base.specs.declared.key.ZoneKey.{ZoneKey}

-- x stands before y in the order of bytes
abbrev pub is_before : List ℕ → List ℕ → Bool
is_before x y = is_lt (slice_cmp nat_cmp x y)

-- each stands before all that follow, so no two are the same
abbrev pub are_ascending : List (List ℕ) → Bool
are_ascending [] = true
are_ascending (x ∷ xs) = list_all (is_before x) xs && are_ascending xs

-- keys go by the bytes of their owners, and then by those of their names
abbrev pub key_cmp : ZoneKey → ZoneKey → Ordering
key_cmp a b = ordering_then (slice_cmp nat_cmp a.owner b.owner) (slice_cmp nat_cmp a.zone b.zone)
