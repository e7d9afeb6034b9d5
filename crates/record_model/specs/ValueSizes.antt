-- The size of a value.
use Rattle.std.specs.Prelude.{ℕ, ◌+◌, length, sum_by}
use Rattle.record_model.specs.declared.value.Value.{Value, fold-Value}
use Rattle.record_model.specs.declared.value.Value.TheOpen.{Value-F}

-- one level, with the size of each element inside
abbrev pub size_step : Value-F ℕ → ℕ
size_step (Value-F.Int64 n) = 8
size_step (Value-F.Timestamp n) = 8
size_step (Value-F.Text t) = length t
size_step (Value-F.Bytes b) = length b
size_step (Value-F.Reference r) = length r.name + 8
size_step (Value-F.List k sizes) = sum_by (λ n. 8 + n) sizes

abbrev pub size : Value → ℕ
size = fold-Value ℕ size_step
