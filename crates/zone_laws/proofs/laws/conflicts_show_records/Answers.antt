use Rattle.zone_laws.proofs.ConflictLaws.{conflicts_shown}
use Rattle.zone_laws.proofs.laws.conflicts_show_records.Goals as goal

pub returns : goal.returns
returns c = conflicts_shown
