-- Fields in the order of their names, and those around a name.
use Rattle.std.specs.Prelude.{◌≡◌, ℕ, Bool, true, false, List, [], ◌∷◌, map, Option, None, Some}
use Rattle.std.specs.Option.{option_map_or}
use Rattle.ck_base.specs.Order.{is_before, are_ascending}
use Rattle.name_rules.specs.Names.{same}
use Rattle.record_model.specs.declared.value.Value.{Value}

-- their names ascend
abbrev pub AreFieldsInOrder : List (List ℕ × Value) → Type 0
AreFieldsInOrder fields = are_ascending (map (λ (field : List ℕ × Value). field.0) fields) ≡ true

abbrev pub stands_before : List ℕ → List ℕ × Value → Bool
stands_before x field = is_before field.0 x

abbrev pub stands_behind : List ℕ → List ℕ × Value → Bool
stands_behind x field = is_before x field.0

-- the first of the fields stands before the name
abbrev pub begins_before : List ℕ → List (List ℕ × Value) → Bool
begins_before x [] = false
begins_before x (field ∷ fields) = stands_before x field

-- the first of the fields has the name
abbrev pub begins_with : List ℕ → List (List ℕ × Value) → Bool
begins_with x [] = false
begins_with x (field ∷ fields) = same field.0 x

-- the first field, where it stands before the name, and what is left
abbrev pub IsNextBefore : List ℕ → List (List ℕ × Value) → Option (List ℕ × Value) → List (List ℕ × Value) → Type 0
IsNextBefore x fields None rest = (begins_before x fields ≡ false) × (rest ≡ fields)
IsNextBefore x fields (Some field) rest = (stands_before x field ≡ true) × (fields ≡ field ∷ rest)

-- the field that a wish gives, if it gives one
abbrev pub given : List ℕ × Option Value → List (List ℕ × Value)
given wish = option_map_or (λ v. (wish.0, v) ∷ []) wish.1 []
