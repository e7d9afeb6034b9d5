use Rattle.zone_laws.proofs.WritableLaws.{writable_told}
use Rattle.zone_laws.proofs.laws.writable_is_told.Goals as goal

pub returns : goal.returns
returns c = writable_told
