-- The values that some JSON means: numbers of 64 bits, texts, bytes, references by names, and lists
-- of one of these kinds.
use Rattle.std.specs.Prelude.{◌≡◌, ◌<◌, ℕ, List, slice_index, IsUtf8, FitsSigned}
use Rattle.std.specs.Int.{w64}
use Rattle.std.specs.List.{AllByRecursion}
use Rattle.ck_base.specs.Names.{IsName}
use Rattle.record_model.specs.declared.value.Kind.{Kind}
use Rattle.record_model.specs.declared.value.Value.{Value, out-Value}
use Rattle.record_model.specs.declared.value.Value.TheOpen.{Value-F}
use Rattle.record_model.specs.declared.value.Shape.TheVariants.{Single}
use Rattle.record_model.specs.Shapes.{shape_step}

-- each is a number below 256
abbrev pub AreBytes : List ℕ → Type 0
AreBytes bytes = (i : ℕ) → slice_index bytes i < 256

-- a value that is no list, in its form
abbrev pub IsSingle : Value-F Value → Type 0
IsSingle (Value-F.Int64 n) = FitsSigned w64 n
IsSingle (Value-F.Timestamp n) = FitsSigned w64 n
IsSingle (Value-F.Text t) = IsUtf8 t
IsSingle (Value-F.Bytes b) = AreBytes b
IsSingle (Value-F.Reference r) = IsName r.name
IsSingle (Value-F.List k vs) = ⊥

-- an element of a list of the kind
abbrev pub IsElement : Kind → Value → Type 0
IsElement k v = (shape_step (out-Value v) ≡ Single k) × IsSingle (out-Value v)

abbrev pub IsMeantLevel : Value-F Value → Type 0
IsMeantLevel (Value-F.Int64 n) = IsSingle (Value-F.Int64 n)
IsMeantLevel (Value-F.Timestamp n) = IsSingle (Value-F.Timestamp n)
IsMeantLevel (Value-F.Text t) = IsSingle (Value-F.Text t)
IsMeantLevel (Value-F.Bytes b) = IsSingle (Value-F.Bytes b)
IsMeantLevel (Value-F.Reference r) = IsSingle (Value-F.Reference r)
IsMeantLevel (Value-F.List k vs) = AllByRecursion (IsElement k) vs

abbrev pub IsMeant : Value → Type 0
IsMeant v = IsMeantLevel (out-Value v)
