use Rattle.std.proofs.Common.{◌≡◌, ◌≤◌, ◌+◌, ◌-◌, length}
use Rattle.http_front.specs.Reading.{ReadsOn}
use Rattle.http_front.specs.Scans.{IsFound}
use Rattle.http_front.proofs.reading.read_body.Given as goal

abbrev pub invariant-loop-head : goal.invariant-loop-head
invariant-loop-head g l = record {
  reads : ReadsOn (g.S.Source.left l.fn.source) (g.S.Source.left l.source) l.fn.buffer l.buffer;
  found : IsFound l.buffer l.head;
  kept : (g.S.Source.failures l.source).count ≡ (g.S.Source.failures l.fn.source).count;
}

abbrev pub decreases-loop-head : goal.decreases-loop-head
decreases-loop-head g l = l.head.len + l.size - length l.buffer
