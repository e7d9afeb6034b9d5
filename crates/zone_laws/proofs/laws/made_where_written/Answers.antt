use Rattle.zone_laws.proofs.MadeLaws.{made_where_written}
use Rattle.zone_laws.proofs.laws.made_where_written.Goals as goal

pub returns : goal.returns
returns c = made_where_written
