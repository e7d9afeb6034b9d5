use Rattle.std.proofs.Common.{◌≡◌, ◌++◌, length, drop}
use Rattle.std.specs.List.{AllByRecursion}
use Rattle.drawn_names.specs.Drawing.{words_drawn, names_of}
use Rattle.zone_model.specs.OpForms.{IsMeantOp}
use Rattle.drawn_names.proofs.naming.names_of.Given as goal

abbrev pub invariant-loop-op : goal.invariant-loop-op
invariant-loop-op l = record {
  meant : AllByRecursion IsMeantOp (drop l.op-index l.ops);
  words : length l.rest ≡ words_drawn (drop l.op-index l.ops);
  so_far : names_of l.ops l.words ≡ l.names.items ++ names_of (drop l.op-index l.ops) l.rest;
}
