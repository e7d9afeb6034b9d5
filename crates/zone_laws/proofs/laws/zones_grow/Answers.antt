use Rattle.zone_laws.proofs.LogLaws.{zone-append, zone-snoc, puts-append, subscriptions-snoc}
use Rattle.zone_laws.proofs.laws.zones_grow.Goals as goal

pub returns : goal.returns
returns c = record { zone = zone-append; one = zone-snoc; puts = puts-append; subscriptions = subscriptions-snoc }
