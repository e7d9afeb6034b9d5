use Rattle.std.proofs.Common.{◌≡◌, map, take}
use Rattle.wire_calls.specs.Asked.{asked_by}
use Rattle.wire_calls.proofs.asked.by_each.Given as goal

abbrev pub invariant-loop-op : goal.invariant-loop-op
invariant-loop-op l = l.list.items ≡ map asked_by (take l.op-index l.ops)
