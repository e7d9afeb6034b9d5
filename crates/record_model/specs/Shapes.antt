-- The shapes of values: one value of a kind, or a list of such values.
use Rattle.std.specs.Prelude.{ℕ}
use Rattle.record_model.specs.declared.value.Kind.{Kind}
use Rattle.record_model.specs.declared.value.Value.{Value, fold-Value}
use Rattle.record_model.specs.declared.value.Value.TheOpen.{Value-F}
use Rattle.record_model.specs.declared.value.Shape.{Shape}
use Rattle.record_model.specs.declared.value.Shape.TheVariants.{Single, ListOf}

abbrev pub kind_place : Kind → ℕ
kind_place Kind.Int64 = 0
kind_place Kind.Timestamp = 1
kind_place Kind.Text = 2
kind_place Kind.Bytes = 3
kind_place Kind.Reference = 4

abbrev pub shape_step : {A : Type 0} → Value-F A → Shape
shape_step (Value-F.Int64 n) = Single Kind.Int64
shape_step (Value-F.Timestamp n) = Single Kind.Timestamp
shape_step (Value-F.Text t) = Single Kind.Text
shape_step (Value-F.Bytes b) = Single Kind.Bytes
shape_step (Value-F.Reference r) = Single Kind.Reference
shape_step (Value-F.List k vs) = ListOf k

abbrev pub shape_of : Value → Shape
shape_of = fold-Value Shape shape_step
