use Rattle.field_values.proofs.ExactLemmas.{fields_flat}
use Rattle.field_values.proofs.laws.fields_are_flat.Goals as goal

pub returns : goal.returns
returns c = fields_flat
