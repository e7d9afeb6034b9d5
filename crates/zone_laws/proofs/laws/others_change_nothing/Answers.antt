use Rattle.zone_laws.proofs.LogLaws.{other_changes_nothing}
use Rattle.zone_laws.proofs.laws.others_change_nothing.Goals as goal

pub returns : goal.returns
returns c = other_changes_nothing
