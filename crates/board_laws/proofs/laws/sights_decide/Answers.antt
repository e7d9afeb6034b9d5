use Rattle.board_laws.proofs.SightLaws.{sights_decide_all}
use Rattle.board_laws.proofs.laws.sights_decide.Goals as goal

pub returns : goal.returns
returns c = sights_decide_all
