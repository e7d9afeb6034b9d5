-- The size of a record.
use Rattle.std.specs.Prelude.{ℕ, ◌+◌, List, length, sum_by}
use Rattle.record_model.specs.declared.value.Value.{Value}
use Rattle.record_model.specs.ValueSizes.{size}
use Rattle.record_model.specs.declared.records.Record.{Record}

abbrev pub size_of_field : List ℕ × Value → ℕ
size_of_field field = length field.0 + 8 + size field.1

abbrev pub size_of_record : Record → ℕ
size_of_record r = sum_by size_of_field r.fields
