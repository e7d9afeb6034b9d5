use Rattle.std.proofs.Common.{◌≡◌, ◌∙◌, sym, Err, rules}
use Rattle.serde_json.specs.View.{view}
use Rattle.field_values.specs.Reading.{single_of}
use Rattle.field_values.proofs.ListLemmas.{first_error}
use Rattle.field_values.proofs.read.read_elements.Goals as goal

pub returns-in_err-value-clause-values : goal.returns-in_err-value-clause-values
returns-in_err-value-clause-values c = λ other.
    let fault = c.in_err-value.field-0.0 in
    let told : c.from_residual.result ≡ Err fault = search rules in
    let was : c.read_single.result ≡ Err fault = c.in_err-value.was in
    let failed = sym (c.read_single.ensures.value (λ memory. other (cc (told, was, memory)))) ∙ was in
    told ∙ first_error (single_of c.args.here.now c.args.caller.now c.args.kind) view c.loop-item.values.items c.args.items.now
    c.loop-item.item-index c.item-item.result fault c.loop-item-test.true c.item-item.is failed c.loop-item.invariant.so_far
