use Rattle.zone_laws.proofs.EffectLaws.{effects_in_order}
use Rattle.zone_laws.proofs.laws.effects_are_in_order.Goals as goal

pub returns : goal.returns
returns c = effects_in_order
