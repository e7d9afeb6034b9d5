use Rattle.std.proofs.Common.{◌≡◌, drop}
use Rattle.std.specs.Cmp.Lexicographic.{slice_cmp}
use Rattle.record_model.specs.ValueOrder.{value_cmp}
use Rattle.record_model.proofs.value_order.+order.Given as goal

abbrev pub invariant-compare_elements-loop-x : goal.invariant-compare_elements-loop-x
invariant-compare_elements-loop-x l = slice_cmp value_cmp l.a l.b ≡ slice_cmp value_cmp (drop l.x-index l.a) l.rest
