use Rattle.std.proofs.Common.{◌≡◌, ℕ, Bool, List, ◌||◌, bytes_eq, take, sym, ap, ◌∙◌}
use Rattle.std.specs.List.{list_any}
use Rattle.std.proofs.lemmas.List.Folds.{list_any_more}
use Rattle.record_model.proofs.NameSetLemmas.{has_one_more}
use Rattle.record_model.proofs.cutting.name_set.Goals as goal

pub loop-key-preserved : goal.loop-key-preserved
loop-key-preserved c = λ x.
    let keys = c.args.keys.now in
    let i = c.loop-key.key-index in
    let is_name : List ℕ → Bool = λ key. bytes_eq key x in
    has_one_more c.loop-key.names c.insert.new.self c.as_str.result (take i keys) x c.in_ok-insert.ensures.keys (c.loop-key.invariant x)
    ∙ ap (λ key. list_any is_name (take i keys) || is_name key) (c.as_str.ensures ∙ c.key-item.is)
    ∙ sym (list_any_more is_name keys i c.key-item.result c.loop-key-test.true)
