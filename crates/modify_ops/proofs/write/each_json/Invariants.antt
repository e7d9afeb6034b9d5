use Rattle.std.proofs.Common.{◌≡◌, map, take}
use Rattle.serde_json.specs.View.{view}
use Rattle.modify_ops.specs.Writing.{op_data}
use Rattle.modify_ops.proofs.write.each_json.Given as goal

abbrev pub invariant-loop-op : goal.invariant-loop-op
invariant-loop-op l = map view l.list.items ≡ map op_data (take l.op-index l.ops)
