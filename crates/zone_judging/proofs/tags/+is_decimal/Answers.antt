use Rattle.std.proofs.Common.{rules, sym, ◌∙◌}
use Rattle.zone_judging.proofs.TagLemmas.{one_is, more_are, none_is}
use Rattle.zone_judging.proofs.tags.+is_decimal.Goals as goal

pub returns-in-None : goal.returns-in-None
returns-in-None t c = sym (none_is c.args.text.now c.args.number c.in-None.ensures.cases c.ranges.number.fits)

pub returns-then-number-lt10 : goal.returns-then-number-lt10
returns-then-number-lt10 t c = c.is_digit.ensures ∙ sym (one_is c.args.text.now c.in-Some.front.now c.in-Some.last.now c.args.number c.in-Some.ensures.cases.0 c.if-number-lt10.true)

pub returns-then-last-number : goal.returns-then-last-number
returns-then-last-number t c = let m = more_are c.args.text.now c.in-Some.front.now c.in-Some.last.now c.args.number c.in-Some.ensures.cases.0 c.if-number-lt10.false c.ranges.number.fits in search (rules, m)

pub returns-else-last-number : goal.returns-else-last-number
returns-else-last-number t c = let m = more_are c.args.text.now c.in-Some.front.now c.in-Some.last.now c.args.number c.in-Some.ensures.cases.0 c.if-number-lt10.false c.ranges.number.fits in search (rules, m)
