use Rattle.std.proofs.Common.{refl}
use Rattle.http_front.proofs.ParseLemmas.{not_too_many, may_become, has_spans}
use Rattle.http_front.proofs.head.parse_lines.Goals as goal

pub head_read-requires : goal.head_read-requires
head_read-requires c =
    has_spans c.args.lines.now _ _ (rw c.in-Ok-Complete.field-0-is at c.in-Ok-Complete.ensures.within) (rw c.in-Ok-Complete.field-0-is at c.in-Ok-Complete.ensures.complete)

pub returns-in-Ok-Partial : goal.returns-in-Ok-Partial
returns-in-Ok-Partial c = (
  rw c.in-Ok-Partial.field-0-is at c.in-Ok-Partial.ensures.partial,
  may_become c.args.lines.now c.requires.whole (rw c.in-Ok-Partial.field-0-is at c.in-Ok-Partial.ensures.unfinished),
)

pub returns-in-Err-TooManyHeaders : goal.returns-in-Err-TooManyHeaders
returns-in-Err-TooManyHeaders c =
    absurd (not_too_many c.args.lines.now c.requires.few (rw c.in-Err-TooManyHeaders.field-0-is at c.in-Err-TooManyHeaders.ensures.too_many refl))
