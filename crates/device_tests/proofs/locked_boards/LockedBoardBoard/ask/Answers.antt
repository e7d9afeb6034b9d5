use Rattle.std.proofs.Common.{◌≡◌, ◌++◌, ◌∷◌, [], ◌∙◌, ap, subst, IfOk, IfErr, is_ok, if◌then◌else◌, arith}
use Rattle.board_model.specs.Turns.{IsAsked, MayHaveAsked}
use Rattle.device_tests.specs.LockedBoards.{AskedAt, SawAt, at_lock}
use Rattle.device_tests.proofs.BoardLemmas.{asked_in, seen_in}
use Rattle.device_tests.proofs.locked_boards.LockedBoardBoard.ask.Goals as goal

pub returns-in-Ok-clause-asked : goal.returns-in-Ok-clause-asked
returns-in-Ok-clause-asked g c =
    subst (λ s. IsAsked (at_lock s) (at_lock (c.ask_once-told.new.pass, c.push.new.self.items)) c.args.lock c.args.part.now c.in-Ok.answered) c.self.view_is
    (asked_in c.self.inside.pass c.ask_once-told.new.pass c.self.inside.turns.items c.push.new.self.items c.args.lock c.args.part.now c.in-Ok.answered
    (omega (arith, c.if-lock-ne-LOCK.false))
    (subst (λ r. c.push.new.self.items ≡ (if is_ok r then c.reserve.new.self.items ++ c.in-Ok.answered.len ∷ [] else c.reserve.new.self.items)) c.unwrap.ensures c.push.ensures.items
    ∙ ap (λ l. l ++ c.in-Ok.answered.len ∷ []) c.in_ok-reserve.ensures.items) c.ask_once-told.ensures.legal
    (subst (λ r. IfOk r (AskedAt c.self.inside.pass c.ask_once-told.new.pass c.args.part.now)) c.in-Ok.is c.ask_once-told.ensures.asked))

pub returns-in-Err-clause-failed : goal.returns-in-Err-clause-failed
returns-in-Err-clause-failed g c =
    subst (λ s. MayHaveAsked (at_lock s) (at_lock (c.ask_once-told.new.pass, c.reserve.new.self.items)) c.args.lock c.args.part.now) c.self.view_is
    (seen_in c.self.inside.pass c.ask_once-told.new.pass c.self.inside.turns.items c.reserve.new.self.items c.args.lock c.args.part.now
    (omega (arith, c.if-lock-ne-LOCK.false)) c.in_ok-reserve.ensures.items c.ask_once-told.ensures.legal
    (subst (λ r. IfErr r (λ _. SawAt c.self.inside.pass c.ask_once-told.new.pass)) c.in-Err.is c.ask_once-told.ensures.failed))
