use Rattle.board_laws.proofs.MadeLaws.{made_where_told}
use Rattle.board_laws.proofs.laws.made_where_told.Goals as goal

pub returns : goal.returns
returns c = made_where_told
