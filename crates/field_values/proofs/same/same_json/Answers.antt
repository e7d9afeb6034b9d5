use Rattle.std.proofs.Common.{string_bytes, sym, ◌∙◌}
use Rattle.std.proofs.lemmas.Slice.Eq.{bytes_eq-Decides}
use Rattle.serde_json.specs.View.{view}
use Rattle.field_values.proofs.SameLemmas.{IsTextOf, same_from_texts, texts_from_same}
use Rattle.field_values.proofs.same.same_json.Goals as goal

pub returns : goal.returns
returns c is =
    let s = string_bytes c.in_ok-one.one in
    let t = string_bytes c.in_ok-other.other in
    let of_one : IsTextOf s (view c.args.one.now) = record {
      exact = c.in_ok-one.ensures.text;
      order = c.in_ok-one.ensures.order;
      reads = c.in_ok-one.ensures.reads_back;
    } in
    let of_other : IsTextOf t (view c.args.other.now) = record {
      exact = c.in_ok-other.ensures.text;
      order = c.in_ok-other.ensures.order;
      reads = c.in_ok-other.ensures.reads_back;
    } in (
      (λ yes. same_from_texts s t _ _ of_one of_other is ((bytes_eq-Decides s t).0 (sym c.eq.ensures ∙ yes))),
      (λ same. c.eq.ensures ∙ (bytes_eq-Decides s t).1 (texts_from_same s t _ _ of_one of_other is same)),
    )
