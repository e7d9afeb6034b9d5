use Rattle.std.proofs.Common.{◌≤◌, ◌-◌, length}
use Rattle.http_front.specs.Scans.{IsScanned}
use Rattle.http_front.proofs.scan.scan_on.Given as goal

abbrev pub invariant-loop-now : goal.invariant-loop-now
invariant-loop-now l = record {
  scanned : IsScanned l.bytes l.now;
  later : l.fn.scan.lines ≤ l.now.lines;
}

abbrev pub decreases-loop-now : goal.decreases-loop-now
decreases-loop-now l = length l.bytes - l.now.seen
