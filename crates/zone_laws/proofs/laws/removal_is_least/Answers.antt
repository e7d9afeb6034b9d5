use Rattle.zone_laws.proofs.CascadeLaws.{removed-least, least-same}
use Rattle.zone_laws.proofs.laws.removal_is_least.Goals as goal

pub returns : goal.returns
returns c = record { least = removed-least; only = least-same }
