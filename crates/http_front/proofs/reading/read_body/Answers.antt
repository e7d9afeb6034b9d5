use Rattle.std.proofs.Common.{◌<◌, ◌+◌, ap, length, arith, rules}
use Rattle.http_front.specs.Reading.{IsFault}
use Rattle.http_front.proofs.ReadingLemmas.{told_err, found_on, unfinished_body, one_piece, reads_none, reads_on, body_cut, body_fails}
use Rattle.http_front.proofs.reading.read_body.Goals as goal

pub returns-in_err-fill-clause-reads : goal.returns-in_err-fill-clause-reads
returns-in_err-fill-clause-reads g c = reads_none _ _ _ _ _ _ c.loop-head.invariant.reads c.in_err-fill.ensures.more.0 c.in_err-fill.ensures.more.1

pub returns-in_err-fill-clause-fault : goal.returns-in_err-fill-clause-fault
returns-in_err-fill-clause-fault g c =
    let found = found_on _ _ _ _ c.args.head c.loop-head.invariant.found c.in_err-fill.ensures.more.0 in
    told_err (λ fault. IsFault fault (g.S.Source.left c.fill.new.source) c.fill.new.self) _ c.in_err-fill.field-0.0 c.from_residual.ensures.1
    (body_fails _ c.fill.new.self c.args.head c.args.size _ found c.requires.stated (omega (arith, ap length c.in_err-fill.ensures.more.1, ap length c.as_slice.ensures, c.loop-head-test.true)) c.in_err-fill.ensures.read)

pub returns-then-branch-eq0-clause-fault : goal.returns-then-branch-eq0-clause-fault
returns-then-branch-eq0-clause-fault g c =
    let ended = c.in_ok-fill.ensures.more.3 c.if-branch-eq0.true in
    let found = found_on _ _ _ _ c.args.head c.loop-head.invariant.found c.in_ok-fill.ensures.more.0 in
    body_cut _ c.fill.new.self c.args.head c.args.size found c.requires.stated (omega (arith, ap length ended.1, ap length c.as_slice.ensures, c.loop-head-test.true)) ended.0

pub returns-then-branch-eq0-clause-found : goal.returns-then-branch-eq0-clause-found
returns-then-branch-eq0-clause-found g c = found_on _ _ _ _ c.args.head c.loop-head.invariant.found c.in_ok-fill.ensures.more.0

pub loop-head-preserved : goal.loop-head-preserved
loop-head-preserved g c =
    let more = c.in_ok-fill.ensures.more in
    let less : length c.loop-head.buffer < c.args.head.len + c.args.size = omega (arith, ap length c.as_slice.ensures, c.loop-head-test.true) in
    record {
      reads = reads_on _ _ _ _ _ _ c.loop-head.invariant.reads
          (one_piece _ _ c.loop-head.buffer c.fill.new.self (unfinished_body c.loop-head.buffer c.args.head c.loop-head.invariant.found c.args.size c.requires.stated less) more.0 (omega (arith, more.1, more.2)));
      found = found_on _ _ _ _ c.args.head c.loop-head.invariant.found more.0;
      kept = search rules;
    }
