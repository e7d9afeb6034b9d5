use Rattle.std.proofs.Common.{sym, subst, ap, ◌∙◌}
use Rattle.zone_locks.specs.Passes.{Known}
use Rattle.zone_model.specs.declared.events.Event.{Event}
use Rattle.zone_model.specs.Legal.{IsLegal}
use Rattle.device_tests.proofs.BoardLemmas.{asked_at, saw_at}
use Rattle.zone_board.specs.Stripes.{list_at}
use Rattle.device_tests.proofs.locked_boards.ask_once.Goals as goal

pub returns-clause-asked : goal.returns-clause-asked
returns-clause-asked g c = asked_at c.args.pass.now c.take-held.new.pass c.give.new.pass (list_at c.take-held.result.value.board.0 13) (list_at c.ask_kept-told.new.board.0 13) c.take-held.result.ticket c.take-held.result.seat c.take-held.result.count c.args.part.now c.ask_kept-told.result
    c.take-held.ensures.took c.give.ensures c.ask_kept-told.ensures.asked

pub returns-clause-failed : goal.returns-clause-failed
returns-clause-failed g c = saw_at c.args.pass.now c.take-held.new.pass c.give.new.pass (list_at c.take-held.result.value.board.0 13) (list_at c.ask_kept-told.new.board.0 13) c.take-held.result.ticket c.take-held.result.seat c.take-held.result.count c.ask_kept-told.result
    c.take-held.ensures.took c.give.ensures c.ask_kept-told.ensures.failed

pub returns-clause-legal : goal.returns-clause-legal
returns-clause-legal g c = subst (IsLegal 13) (sym (ap (λ (k : Known Event). k.seen) c.give.ensures)) (c.hold_legal.ensures 13)
