use Rattle.std.proofs.Common.{rules}
use Rattle.std.proofs.Math.Seq.{take-add}
use Rattle.std.proofs.lemmas.List.{take_rest}
use Rattle.ck_devices.proofs.Streams.{appends_on}
use Rattle.ck_devices.proofs.writing.write_whole.Goals as goal

pub loop-done-preserved : goal.loop-done-preserved
loop-done-preserved g c = record {
  within = search rules;
  sent = rw take-add (appends_on _ _ _ _ _ c.loop-done.invariant.sent (rw take_rest at c.in_ok-done.ensures.bytes));
  kept = search rules;
}
