use Rattle.board_laws.proofs.OutcomeLaws.{answers_told}
use Rattle.board_laws.proofs.laws.answers_are_told.Goals as goal

pub returns : goal.returns
returns c = answers_told
