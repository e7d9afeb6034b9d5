use Rattle.zone_laws.proofs.TestLaws.{tests_decide}
use Rattle.zone_laws.proofs.laws.tests_decide.Goals as goal

pub returns : goal.returns
returns c = tests_decide
