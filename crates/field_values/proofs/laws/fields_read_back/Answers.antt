use Rattle.field_values.proofs.ReadsBackLemmas.{reads_back}
use Rattle.field_values.proofs.laws.fields_read_back.Goals as goal

pub returns : goal.returns
returns c = reads_back
