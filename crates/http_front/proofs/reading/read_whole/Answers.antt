use Rattle.std.proofs.Common.{rules}
use Rattle.http_front.specs.Reading.{IsFault}
use Rattle.http_front.proofs.ReadingLemmas.{told_err, sized_fault}
use Rattle.http_front.proofs.reading.read_whole.Goals as goal

pub returns-in_err-size-clause-fault : goal.returns-in_err-size-clause-fault
returns-in_err-size-clause-fault g c =
    told_err (λ fault. IsFault fault (g.S.Source.left c.read_head.new.source) c.read_head.new.buffer) _ c.in_err-size.field-0.0 c.from_residual-in_err-size.ensures.1
    (sized_fault _ c.read_head.new.buffer c.in_ok-head.head c.in_err-size.field-0.0 c.in_ok-head.ensures.head (search rules))
