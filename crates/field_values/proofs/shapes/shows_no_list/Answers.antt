use Rattle.std.proofs.Common.{◌∙◌, arith}
use Rattle.field_values.proofs.TypeLemmas.{shows_no_list-some}
use Rattle.field_values.proofs.shapes.shows_no_list.Goals as goal

pub returns-in_default : goal.returns-in_default
returns-in_default c = c.has_array.ensures ∙ shows_no_list-some c.args.items.now (omega arith)
