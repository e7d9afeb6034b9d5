use Rattle.std.proofs.Common.{◌≡◌, ◌≤◌, ◌-◌, length, take}
use Rattle.std.specs.Io.KnownBytes.{Appends}
use Rattle.ck_devices.proofs.writing.write_whole.Given as goal

abbrev pub invariant-loop-done : goal.invariant-loop-done
invariant-loop-done g l = record {
  within : l.done ≤ length l.bytes;
  sent : Appends (g.W.Sink.held l.fn.sink) (g.W.Sink.held l.sink) (take l.done l.bytes);
  kept : (g.W.Sink.failures l.sink).count ≡ (g.W.Sink.failures l.fn.sink).count;
}

abbrev pub decreases-loop-done : goal.decreases-loop-done
decreases-loop-done g l = length l.bytes - l.done
