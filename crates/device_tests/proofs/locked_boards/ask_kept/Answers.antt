use Rattle.std.proofs.Common.{◌≡◌, ◌==◌, true, false, sym, ◌∙◌, eq-eqb}
use Rattle.zone_board.specs.Stripes.{list_at}
use Rattle.device_tests.specs.LockedBoards.{looks_up}
use Rattle.device_tests.proofs.BoardLemmas.{false_true, asked_kept, failed_kept, grown_kept}
use Rattle.device_tests.proofs.locked_boards.ask_kept.Goals.{else-seat-ne0-via-then-seat-ne0+else-not-looks_up, else-seat-ne0-via-else-seat-ne0}
use Rattle.device_tests.proofs.locked_boards.ask_kept.Goals as goal

looks : (c : goal.After-ask) → (c.args.seat == 0) ≡ false → looks_up c.args.part.now ≡ true
looks c ne = elim c.else-seat-ne0.branch [ else-seat-ne0-via-then-seat-ne0+else-not-looks_up w ↦ sym w.looks_up.ensures ∙ w.if-not-looks_up.false | else-seat-ne0-via-else-seat-ne0 w ↦ absurd (false_true (sym ne ∙ eq-eqb c.args.seat 0 w.if-seat-ne0.false)) ]

pub returns-clause-grown : goal.returns-clause-grown
returns-clause-grown c = grown_kept c.args.seat (list_at c.args.board.now.0 13) (list_at c.ask.new.self.0 13) c.args.part.now c.ask.result
    (asked_kept c.args.seat c.args.board.now c.ask.new.self c.args.part.now c.ask.result (looks c) c.ask.ensures.asked) (failed_kept c.args.board.now c.ask.new.self c.ask.result c.ask.ensures.kept)

pub returns-clause-asked : goal.returns-clause-asked
returns-clause-asked c = asked_kept c.args.seat c.args.board.now c.ask.new.self c.args.part.now c.ask.result (looks c) c.ask.ensures.asked

pub returns-clause-failed : goal.returns-clause-failed
returns-clause-failed c = failed_kept c.args.board.now c.ask.new.self c.ask.result c.ask.ensures.kept
