use Rattle.std.proofs.Common.{◌≡◌, ◌-◌, ◌^◌, min, take}
use Rattle.std.specs.List.{sum_by}
use Rattle.record_model.specs.RecordSizes.{size_of_field}
use Rattle.record_model.proofs.record_sizes.fields_size.Given as goal

abbrev pub invariant-loop-field : goal.invariant-loop-field
invariant-loop-field l = l.total ≡ min (sum_by size_of_field (take l.field-index l.fields)) (2 ^ 64 - 1)
