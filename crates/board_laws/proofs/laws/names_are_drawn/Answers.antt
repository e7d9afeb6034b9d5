use Rattle.board_laws.proofs.NamedLaws.{names_drawn}
use Rattle.board_laws.proofs.laws.names_are_drawn.Goals as goal

pub returns : goal.returns
returns c = names_drawn
