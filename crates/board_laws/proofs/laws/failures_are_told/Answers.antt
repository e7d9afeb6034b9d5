use Rattle.board_laws.proofs.CommitLaws.{failures_told}
use Rattle.board_laws.proofs.laws.failures_are_told.Goals as goal

pub returns : goal.returns
returns c = failures_told
