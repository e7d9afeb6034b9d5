use Rattle.std.proofs.Common.{ap, sym, ◌∙◌}
use Rattle.std.specs.List.{list_any}
use Rattle.record_model.specs.declared.value.Value.{out-Value}
use Rattle.zone_model.specs.References.{single_references, references_in}
use Rattle.zone_commit.specs.Maps.{takes_along, element_takes_along}
use Rattle.zone_commit.proofs.LinkLemmas.{on_ok, any-flat, list_opened, relinked-same}
use Rattle.zone_commit.proofs.links.set_value.Goals as goal

pub returns-in-List : goal.returns-in-List
returns-in-List c =
    on_ok c.set_elements.result
    (relinked-same (λ x. list_any (element_takes_along x) c.as_slice.result.now) (λ x. list_any (λ q. takes_along q x) (references_in c.args.value.now)) c.args.there c.args.name.now c.args.links.now c.set_elements.new.links
    (λ x. ap (list_any (element_takes_along x)) c.as_slice.ensures ∙ any-flat (λ q. takes_along q x) (λ v. single_references (out-Value v)) c.in-List.items
    ∙ ap (list_any (λ q. takes_along q x)) (list_opened c.in-List.field-0 c.in-List.items) ∙ ap (λ v. list_any (λ q. takes_along q x) (references_in v)) (sym c.in-List.is)))
    c.set_elements.ensures
