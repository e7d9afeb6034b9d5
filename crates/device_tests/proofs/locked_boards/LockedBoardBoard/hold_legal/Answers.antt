use Rattle.std.proofs.Common.{subst}
use Rattle.board_model.specs.Turns.{AreLegal}
use Rattle.device_tests.specs.LockedBoards.{at_lock}
use Rattle.device_tests.proofs.BoardLemmas.{only_legal}
use Rattle.device_tests.proofs.locked_boards.LockedBoardBoard.hold_legal.Goals as goal

pub returns : goal.returns
returns g c = subst (λ s. AreLegal (at_lock s).histories) c.self.view_is (only_legal (c.self.inside.pass, c.self.inside.turns.items) c.self.invariant.3)
