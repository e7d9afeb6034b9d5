use Rattle.std.proofs.Common.{◌≡◌, take}
use Rattle.record_model.proofs.value_copies.+copy.Given as goal

abbrev pub invariant-copy_values-loop-value : goal.invariant-copy_values-loop-value
invariant-copy_values-loop-value l = l.copies.items ≡ take l.value-index l.values
