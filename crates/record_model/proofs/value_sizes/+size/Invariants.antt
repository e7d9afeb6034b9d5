use Rattle.std.proofs.Common.{◌≡◌, ◌+◌, ◌-◌, ◌^◌, min, take}
use Rattle.std.specs.List.{sum_by}
use Rattle.record_model.specs.ValueSizes.{size}
use Rattle.record_model.proofs.value_sizes.+size.Given as goal

abbrev pub invariant-size_all-loop-item : goal.invariant-size_all-loop-item
invariant-size_all-loop-item l = l.total ≡ min (sum_by (λ v. 8 + size v) (take l.item-index l.items)) (2 ^ 64 - 1)
