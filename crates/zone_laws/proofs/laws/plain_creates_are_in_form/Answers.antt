use Rattle.zone_laws.proofs.PlainLaws.{creates_in_form}
use Rattle.zone_laws.proofs.laws.plain_creates_are_in_form.Goals as goal

pub returns : goal.returns
returns c = creates_in_form
