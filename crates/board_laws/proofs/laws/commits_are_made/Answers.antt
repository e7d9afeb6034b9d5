use Rattle.board_laws.proofs.CommitLaws.{commits_made}
use Rattle.board_laws.proofs.laws.commits_are_made.Goals as goal

pub returns : goal.returns
returns c = commits_made
