use Rattle.std.proofs.Common.{◌≡◌, ◌*◌, ◌≤◌, take}
use Rattle.drawn_names.specs.Drawing.{words_drawn}
use Rattle.drawn_names.proofs.drawing.words_drawn.Given as goal

abbrev pub invariant-loop-op : goal.invariant-loop-op
invariant-loop-op l = record {
  count : l.count ≡ words_drawn (take l.op-index l.ops);
  few : l.count ≤ 2 * l.op-index;
}
