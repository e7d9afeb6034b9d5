use Rattle.std.proofs.Common.{◌≡◌, map, take}
use Rattle.wire_calls.specs.Asked.{asked_for}
use Rattle.wire_calls.proofs.asked.for_each.Given as goal

abbrev pub invariant-loop-name : goal.invariant-loop-name
invariant-loop-name l = l.list.items ≡ map asked_for (take l.name-index l.names)
