use Rattle.zone_laws.proofs.OrderLaws.{stays_in_order}
use Rattle.zone_laws.proofs.laws.records_stay_in_order.Goals as goal

pub returns : goal.returns
returns c = stays_in_order
