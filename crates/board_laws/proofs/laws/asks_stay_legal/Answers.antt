use Rattle.board_laws.proofs.LastingLaws.{asks_legal}
use Rattle.board_laws.proofs.laws.asks_stay_legal.Goals as goal

pub returns : goal.returns
returns c = asks_legal
