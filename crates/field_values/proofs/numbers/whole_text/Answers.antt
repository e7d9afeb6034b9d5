use Rattle.std.proofs.Common.{◌≡◌, true, rules}
use Rattle.field_values.specs.Numbers.{is_number}
use Rattle.field_values.proofs.NumberLemmas.{past_range}
use Rattle.field_values.proofs.numbers.whole_text.Goals as goal

pub returns-in-Err : goal.returns-in-Err
returns-in-Err c =
    let number : is_number c.args.text.now ≡ true = search rules in
    past_range c.args.text.now c.in-Err.field-0 c.in-Err.ensures.value.0 number
