use Rattle.http_front.proofs.LookLemmas.{long_head}
use Rattle.http_front.proofs.look.wait_for_more.Goals as goal

pub returns-then-scan-eq-HEAD_LINES : goal.returns-then-scan-eq-HEAD_LINES
returns-then-scan-eq-HEAD_LINES c = long_head c.args.bytes.now c.args.scan c.requires.scanned c.requires.done c.requires.unended c.if-scan-eq-HEAD_LINES.either
