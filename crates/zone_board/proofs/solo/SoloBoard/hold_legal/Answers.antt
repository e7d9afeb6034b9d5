use Rattle.std.proofs.Common.{subst, arith}
use Rattle.board_model.specs.Turns.{AreLegal}
use Rattle.zone_board.specs.Stripes.{solo}
use Rattle.zone_board.proofs.StripeLemmas.{all_legal}
use Rattle.zone_board.proofs.solo.SoloBoard.hold_legal.Goals as goal

pub returns : goal.returns
returns c = subst (λ s. AreLegal (solo s).histories) c.self.view_is (all_legal c.self.inside.stripes (omega arith) c.self.invariant)
