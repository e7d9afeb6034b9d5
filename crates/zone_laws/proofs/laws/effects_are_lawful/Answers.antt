use Rattle.zone_laws.proofs.LawfulLaws.{effects_lawful}
use Rattle.zone_laws.proofs.laws.effects_are_lawful.Goals as goal

pub returns : goal.returns
returns c = effects_lawful
