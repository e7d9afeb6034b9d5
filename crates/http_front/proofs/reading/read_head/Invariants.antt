use Rattle.std.proofs.Common.{◌≡◌, ◌≤◌, ◌-◌, length}
use Rattle.http_front.specs.Reading.{ReadsOn}
use Rattle.http_front.specs.Scans.{IsScanned, IsOpen}
use Rattle.http_front.proofs.reading.read_head.Given as goal

abbrev pub invariant-loop-head : goal.invariant-loop-head
invariant-loop-head g l = record {
  reads : ReadsOn (g.S.Source.left l.fn.source) (g.S.Source.left l.source) l.fn.buffer l.buffer;
  kept : (g.S.Source.failures l.source).count ≡ (g.S.Source.failures l.fn.source).count;
  scanned : IsScanned l.buffer l.scan;
  unended : IsOpen l.buffer l.scan.lines;
}

abbrev pub decreases-loop-head : goal.decreases-loop-head
decreases-loop-head g l = 16384 - length l.buffer
