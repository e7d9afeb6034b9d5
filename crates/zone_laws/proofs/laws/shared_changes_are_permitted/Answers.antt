use Rattle.zone_laws.proofs.SharedLaws.{changes_permitted}
use Rattle.zone_laws.proofs.laws.shared_changes_are_permitted.Goals as goal

pub returns : goal.returns
returns c = changes_permitted
