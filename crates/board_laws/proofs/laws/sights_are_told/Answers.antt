use Rattle.board_laws.proofs.SightLaws.{sights_told}
use Rattle.board_laws.proofs.laws.sights_are_told.Goals as goal

pub returns : goal.returns
returns c = sights_told
