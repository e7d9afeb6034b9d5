-- The order of values.
use Rattle.std.specs.Prelude.{ℕ, ℤ, pos, List, []}
use Rattle.std.specs.Ordering.{nat_cmp, int_cmp, ordering_then}
use Rattle.std.specs.Cmp.Lexicographic.{slice_cmp}
use Rattle.std.specs.declared.cmp.Ordering.{Ordering}
use Rattle.record_model.specs.declared.value.Action.{Action}
use Rattle.record_model.specs.declared.value.Value.{Value, fold-Value, out-Value}
use Rattle.record_model.specs.declared.value.Value.TheOpen.{Value-F}
use Rattle.record_model.specs.Shapes.{kind_place}

abbrev pub action_place : Action → ℕ
action_place Action.Plain = 0
action_place Action.DeleteSelf = 1
action_place Action.Validate = 2

-- ---- the parts of a value; one that it has not counts as zero or empty

-- the place of its variant
abbrev pub rank : {A : Type 0} → Value-F A → ℕ
rank (Value-F.Int64 n) = 0
rank (Value-F.Timestamp n) = 1
rank (Value-F.Text t) = 2
rank (Value-F.Bytes b) = 3
rank (Value-F.Reference r) = 4
rank (Value-F.List k vs) = 5

abbrev pub number_part : {A : Type 0} → Value-F A → ℤ
number_part (Value-F.Int64 n) = n
number_part (Value-F.Timestamp n) = n
number_part (Value-F.Text t) = pos 0
number_part (Value-F.Bytes b) = pos 0
number_part (Value-F.Reference r) = pos 0
number_part (Value-F.List k vs) = pos 0

-- its bytes, or the name that it refers to
abbrev pub bytes_part : {A : Type 0} → Value-F A → List ℕ
bytes_part (Value-F.Int64 n) = []
bytes_part (Value-F.Timestamp n) = []
bytes_part (Value-F.Text t) = t
bytes_part (Value-F.Bytes b) = b
bytes_part (Value-F.Reference r) = r.name
bytes_part (Value-F.List k vs) = []

-- the action of a reference, or the kind of a list
abbrev pub place_part : {A : Type 0} → Value-F A → ℕ
place_part (Value-F.Int64 n) = 0
place_part (Value-F.Timestamp n) = 0
place_part (Value-F.Text t) = 0
place_part (Value-F.Bytes b) = 0
place_part (Value-F.Reference r) = action_place r.action
place_part (Value-F.List k vs) = kind_place k

abbrev pub elements_part : {A : Type 0} → Value-F A → List A
elements_part (Value-F.Int64 n) = []
elements_part (Value-F.Timestamp n) = []
elements_part (Value-F.Text t) = []
elements_part (Value-F.Bytes b) = []
elements_part (Value-F.Reference r) = []
elements_part (Value-F.List k vs) = vs

-- ---- the order: by the first part that differs

abbrev pub parts_cmp : {A B : Type 0} → Value-F A → Value-F B → Ordering
parts_cmp x y =
    ordering_then (nat_cmp (rank x) (rank y))
    (ordering_then (int_cmp (number_part x) (number_part y))
    (ordering_then (slice_cmp nat_cmp (bytes_part x) (bytes_part y))
    (nat_cmp (place_part x) (place_part y))))

-- the elements come last, by the first that differs, a front before what goes on from it
abbrev pub level_cmp : Value-F (Value → Ordering) → Value-F Value → Ordering
level_cmp x y =
    ordering_then (parts_cmp x y) (slice_cmp (λ cmp w. cmp w) (elements_part x) (elements_part y))

abbrev pub value_cmp : Value → Value → Ordering
value_cmp = fold-Value (Value → Ordering) (λ x w. level_cmp x (out-Value w))
