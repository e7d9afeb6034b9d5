use Rattle.std.proofs.Common.{◌≡◌, [], map, take}
use Rattle.std.specs.Vec.{vec_len}
use Rattle.zone_judging.specs.Asked.{named, grounds_in}
use Rattle.zone_judging.proofs.JudgeLemmas.{faults_after}
use Rattle.zone_judging.proofs.judging.faults_of.Given as goal

abbrev pub invariant-loop-op : goal.invariant-loop-op
invariant-loop-op g l = record {
  count : vec_len l.faults ≡ l.op-index;
  told : l.faults.items ≡ faults_after (grounds_in g.V.Sees.rows l.g) [] (map named (take l.op-index l.g.ops.now));
}
