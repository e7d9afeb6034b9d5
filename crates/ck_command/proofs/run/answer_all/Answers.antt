use Rattle.std.proofs.Common.{sym, ap, Ok, Err}
use Rattle.talk_model.specs.declared.ends.TalkFaultKind.{TalkFaultKind}
use Rattle.ck_command.specs.declared.endings.Ending.TheVariants.{DeviceFault, OutOfMemory}
use Rattle.ck_command.specs.Endings.{ending_by}
use Rattle.ck_command.specs.Serving.{Streams}
use Rattle.ck_command.proofs.ServingLemmas.{served}
use Rattle.ck_command.proofs.run.answer_all.Goals as goal

pub returns-in-Ok : goal.returns-in-Ok
returns-in-Ok g c =
    let before : Streams = record { left = g.S.Source.left c.args.source.now; source_failures = g.S.Source.failures c.args.source.now; held = g.W.Sink.held c.args.sink.now; sink_failures = g.W.Sink.failures c.args.sink.now } in
    let after : Streams = record { left = g.S.Source.left c.converse.new.source; source_failures = g.S.Source.failures c.converse.new.source; held = g.W.Sink.held c.converse.new.sink; sink_failures = g.W.Sink.failures c.converse.new.sink } in
    served c.new-board.result c.new-board.ensures.events c.new-board.ensures.turns c.args.users.now _ before after c.converse.new.board c.in-Ok.talk.marks.items (Ok c.in-Ok.talk.end) c.ending_at.result c.in-Ok.ensures.converses
    c.ending_at.ensures

pub returns-in-ReadFault : goal.returns-in-ReadFault
returns-in-ReadFault g c =
    let before : Streams = record { left = g.S.Source.left c.args.source.now; source_failures = g.S.Source.failures c.args.source.now; held = g.W.Sink.held c.args.sink.now; sink_failures = g.W.Sink.failures c.args.sink.now } in
    let after : Streams = record { left = g.S.Source.left c.converse.new.source; source_failures = g.S.Source.failures c.converse.new.source; held = g.W.Sink.held c.converse.new.sink; sink_failures = g.W.Sink.failures c.converse.new.sink } in
    served c.new-board.result c.new-board.ensures.events c.new-board.ensures.turns c.args.users.now _ before after c.converse.new.board c.in-Err.fault.marks.items (Err c.in-Err.fault.at) DeviceFault c.in-Err.ensures.converses
    (sym (ap (λ (k : TalkFaultKind). ending_by (Err k)) c.in-ReadFault.is))

pub returns-in-WriteFault : goal.returns-in-WriteFault
returns-in-WriteFault g c =
    let before : Streams = record { left = g.S.Source.left c.args.source.now; source_failures = g.S.Source.failures c.args.source.now; held = g.W.Sink.held c.args.sink.now; sink_failures = g.W.Sink.failures c.args.sink.now } in
    let after : Streams = record { left = g.S.Source.left c.converse.new.source; source_failures = g.S.Source.failures c.converse.new.source; held = g.W.Sink.held c.converse.new.sink; sink_failures = g.W.Sink.failures c.converse.new.sink } in
    served c.new-board.result c.new-board.ensures.events c.new-board.ensures.turns c.args.users.now _ before after c.converse.new.board c.in-Err.fault.marks.items (Err c.in-Err.fault.at) DeviceFault c.in-Err.ensures.converses
    (sym (ap (λ (k : TalkFaultKind). ending_by (Err k)) c.in-WriteFault.is))

pub returns : goal.returns
returns g c =
    let before : Streams = record { left = g.S.Source.left c.args.source.now; source_failures = g.S.Source.failures c.args.source.now; held = g.W.Sink.held c.args.sink.now; sink_failures = g.W.Sink.failures c.args.sink.now } in
    let after : Streams = record { left = g.S.Source.left c.converse.new.source; source_failures = g.S.Source.failures c.converse.new.source; held = g.W.Sink.held c.converse.new.sink; sink_failures = g.W.Sink.failures c.converse.new.sink } in
    served c.new-board.result c.new-board.ensures.events c.new-board.ensures.turns c.args.users.now _ before after c.converse.new.board c.in-Err.fault.marks.items (Err c.in-Err.fault.at) OutOfMemory c.in-Err.ensures.converses
    (sym (ap (λ (k : TalkFaultKind). ending_by (Err k)) c.in-NoMemory.is))
