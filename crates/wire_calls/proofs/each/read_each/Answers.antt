use Rattle.std.proofs.Common.{◌≡◌, ◌∙◌, sym, Err, rules}
use Rattle.std.specs.Prelude.{ok_or}
use Rattle.serde_json.specs.View.{view}
use Rattle.field_values.proofs.ListLemmas.{first_error}
use Rattle.wire_calls.specs.declared.fault.BadCall.TheVariants.{BadKey}
use Rattle.wire_calls.proofs.each.read_each.Goals as goal

pub returns-in_err-one-clause-list : goal.returns-in_err-one-clause-list
returns-in_err-one-clause-list g c = λ other.
    let fault = c.in_err-one.field-0.0 in
    let told : c.from_residual.result ≡ Err fault = search rules in
    let was : c.read_one.result ≡ Err fault = c.in_err-one.was in
    let failed = sym (c.read_one.ensures.item (λ memory. other (cc (told, was, memory)))) ∙ was in
    told ∙ first_error (λ d. ok_or (g.E.Element.item_in c.args.element.now d) (BadKey c.args.key)) view c.loop-item.list.items c.args.items.now
    c.loop-item.item-index c.item-item.result fault c.loop-item-test.true c.item-item.is failed c.loop-item.invariant.so_far
