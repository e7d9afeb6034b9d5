use Rattle.std.proofs.Common.{◌<◌, arith}
use Rattle.http_front.proofs.LookLemmas.{found_head, bad_head}
use Rattle.http_front.proofs.look.look_on.Goals as goal

pub returns-in-Head : goal.returns-in-Head
returns-in-Head c = found_head c.args.bytes.now c.scan_on-now.result c.in-Head.head c.scan_on-now.ensures.scanned c.in-Head.ensures

pub returns-in-Never : goal.returns-in-Never
returns-in-Never c =
    let later = c.scan_on-now.ensures.later in
    let other = c.if-now-scan.false in
    let some : 0 < c.scan_on-now.result.lines = omega arith in
    bad_head c.args.bytes.now c.scan_on-now.result c.scan_on-now.ensures.scanned some c.in-Never.ensures
