use Rattle.zone_laws.proofs.EntryLaws.{zone_entries_grow}
use Rattle.zone_laws.proofs.laws.zone_entries_grow.Goals as goal

pub returns : goal.returns
returns c = zone_entries_grow
