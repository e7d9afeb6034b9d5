use Rattle.std.proofs.Common.{sym, subst, arith, rules}
use Rattle.http_front.specs.Reading.{IsFault}
use Rattle.http_front.specs.Scans.{IsScanned, IsOpen, IsWaiting}
use Rattle.http_front.proofs.ReadingLemmas.{told_err, stopped, waiting, one_piece, reads_none, reads_on, scanned_more, open_more}
use Rattle.http_front.proofs.reading.read_head.Goals as goal

pub returns-in_err-fill_head-clause-fault : goal.returns-in_err-fill_head-clause-fault
returns-in_err-fill_head-clause-fault g c =
    let waits : IsWaiting c.loop-head.buffer c.in-More.more = search rules in
    told_err (λ fault. IsFault fault (g.S.Source.left c.fill_head.new.source) c.fill_head.new.buffer) _ c.in_err-fill_head.field-0.0 c.from_residual-in_err-fill_head.ensures.1
    (stopped _ c.loop-head.buffer _ c.in-More.more _ waits c.in_err-fill_head.ensures.same c.in_err-fill_head.ensures.stops)

pub returns-in_err-fill_head-clause-reads : goal.returns-in_err-fill_head-clause-reads
returns-in_err-fill_head-clause-reads g c = reads_none _ _ _ _ _ _ c.loop-head.invariant.reads c.fill_head.ensures.extends c.in_err-fill_head.ensures.same

pub loop-head-preserved : goal.loop-head-preserved
loop-head-preserved g c =
    let waits : IsWaiting c.loop-head.buffer c.in-More.more = search rules in
    let more = c.fill_head.ensures.extends in
    record {
      reads = reads_on _ _ _ _ _ _ c.loop-head.invariant.reads (one_piece _ _ c.loop-head.buffer c.fill_head.new.buffer (waiting c.loop-head.buffer c.in-More.more waits) more c.in_ok-fill_head.ensures.piece);
      kept = search rules;
      scanned = subst (λ l. IsScanned l c.in-More.more) (sym more.grown) (scanned_more c.loop-head.buffer more.taken c.in-More.more waits.scanned);
      unended = subst (λ l. IsOpen l c.in-More.more.lines) (sym more.grown)
          (open_more c.loop-head.buffer more.taken c.in-More.more.lines (omega (arith, waits.scanned.behind, waits.scanned.within)) waits.unended);
    }
