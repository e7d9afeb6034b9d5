use Rattle.std.proofs.Common.{arith}
use Rattle.http_front.proofs.LengthLemmas.{front_small, next_number}
use Rattle.http_front.proofs.fields.number_of.Goals as goal

pub overflow_mul-number : goal.overflow_mul-number
overflow_mul-number c =
    let small = front_small c.args.digits.now c.loop-digit.digit-index c.loop-digit-test.true c.requires.few c.requires.all in omega arith

pub overflow_add-number : goal.overflow_add-number
overflow_add-number c =
    let small = front_small c.args.digits.now c.loop-digit.digit-index c.loop-digit-test.true c.requires.few c.requires.all in omega arith

pub loop-digit-preserved : goal.loop-digit-preserved
loop-digit-preserved c =
    let next = next_number c.args.digits.now _ _ c.loop-digit-test.true c.requires.all c.loop-digit.invariant in
    let digit = c.from.ensures in cc
