-- The fields of a record after a put, without an order: those that no wish names, and those that wishes give.
use Rattle.std.specs.Prelude.{◌≡◌, ℕ, Bool, true, false, List, map, Option, if◌then◌else◌}
use Rattle.std.specs.List.{list_any}
use Rattle.std.specs.Option.{option_map_or}
use Rattle.ck_base.specs.Order.{are_ascending}
use Rattle.record_model.specs.declared.value.Value.{Value}
use Rattle.record_model.specs.RecordSizes.{size_of_field}
use Rattle.zone_model.specs.Names.{same}

-- their names ascend
abbrev pub AreInOrder : List (List ℕ × Option Value) → Type 0
AreInOrder wishes = are_ascending (map (λ (wish : List ℕ × Option Value). wish.0) wishes) ≡ true

-- one of the wishes names the field
abbrev pub is_wished : List (List ℕ × Option Value) → List ℕ → Bool
is_wished wishes x = list_any (λ (wish : List ℕ × Option Value). same x wish.0) wishes

-- what a field counts for that stays as it is, and what a wish counts for
abbrev pub kept_size : List (List ℕ × Option Value) → List ℕ × Value → ℕ
kept_size wishes field = if is_wished wishes field.0 then 0 else size_of_field field

abbrev pub given_size : List ℕ × Option Value → ℕ
given_size wish = option_map_or (λ v. size_of_field (wish.0, v)) wish.1 0

-- a field that stays passes the test, and one that a wish gives
abbrev pub is_kept_and : List (List ℕ × Option Value) → (List ℕ × Value → Bool) → List ℕ × Value → Bool
is_kept_and wishes test field = if is_wished wishes field.0 then false else test field

abbrev pub is_given_and : (List ℕ × Value → Bool) → List ℕ × Option Value → Bool
is_given_and test wish = option_map_or (λ v. test (wish.0, v)) wish.1 false
