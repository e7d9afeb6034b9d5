use Rattle.zone_laws.proofs.OnePutLaws.{puts_found}
use Rattle.zone_laws.proofs.laws.puts_are_found.Goals as goal

pub returns : goal.returns
returns c = puts_found
