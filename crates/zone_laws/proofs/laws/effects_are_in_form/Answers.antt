use Rattle.zone_laws.proofs.StoredLaws.{effects_form}
use Rattle.zone_laws.proofs.laws.effects_are_in_form.Goals as goal

pub returns : goal.returns
returns c = effects_form
