use Rattle.std.proofs.Common.{ℕ, true, false, List, [], length, map, sym, ap, subst, refl, ◌∙◌, arith}
use Rattle.talk_model.specs.declared.marks.Mark.{Mark}
use Rattle.talk_model.specs.declared.ends.End.TheVariants.{CloseAsked, NotBuilt, Spent}
use Rattle.talk_model.specs.Given.{given_of, Draws, GaveFor}
use Rattle.ck_server.specs.Conversations.{Standing}
use Rattle.ck_server.proofs.GivenLemmas.{gave_on}
use Rattle.ck_server.proofs.ServingLemmas.{gave_none}
use Rattle.ck_server.proofs.CauseLemmas.{kept_ok, cause_other, cause_on, read_ended, read_broke}
use Rattle.ck_server.proofs.OutcomeLemmas.{Goes, goes-start, with_both, spent_well, finished, broke, goes_on, closes, left_unbuilt, no_read, breaks_serving}
use Rattle.ck_server.proofs.CompleteLemmas.{ended_well, broke_off}
use Rattle.ck_server.proofs.conversation.converse.Goals as goal

pub loop-number-init : goal.loop-number-init
loop-number-init g c =
    let entry : Standing = (record { left = g.S.Source.left c.args.source.now; source_failures = g.S.Source.failures c.args.source.now; held = g.W.Sink.held c.args.sink.now; sink_failures = g.W.Sink.failures c.args.sink.now; board = g.B.Board.state c.args.board.now }) in
    record {
      goes = subst (λ (ms : List Mark). Goes c.args.users.now entry entry ms c.new-buffer.result) (sym c.new-marks.ensures.items)
          (subst (λ (b : List ℕ). Goes c.args.users.now entry entry [] b) (sym c.new-buffer.ensures) (goes-start c.args.users.now entry c.hold_legal.ensures));
      count = ap (λ (ms : List Mark). length ms) (sym c.new-marks.ensures.items);
      given = subst (λ (ms : List Mark). GaveFor g.C.Clock.gives (Draws g.R.Words.gives g.R.Words.fault_count) c.args.clock.now c.args.clock.now c.args.words.now c.args.words.now (map given_of ms)) (sym c.new-marks.ensures.items)
          (gave_none g.C.Clock.gives _ c.args.clock.now c.args.words.now);
      read = refl;
      written = refl;
    }

pub returns-in-Ok-finish : goal.returns-in-Ok-finish
returns-in-Ok-finish g c =
    let draws = Draws g.R.Words.gives g.R.Words.fault_count in
    let entry : Standing = (record { left = g.S.Source.left c.args.source.now; source_failures = g.S.Source.failures c.args.source.now; held = g.W.Sink.held c.args.sink.now; sink_failures = g.W.Sink.failures c.args.sink.now; board = g.B.Board.state c.args.board.now }) in
    let now : Standing = (record { left = g.S.Source.left c.loop-number.source; source_failures = g.S.Source.failures c.loop-number.source; held = g.W.Sink.held c.loop-number.sink; sink_failures = g.W.Sink.failures c.loop-number.sink; board = g.B.Board.state c.loop-number.board }) in
    let gave = GaveFor g.C.Clock.gives draws c.args.clock.now c.loop-number.clock c.args.words.now c.loop-number.words in
    record {
      converses = ended_well c.args.users.now gave entry (with_both now (g.S.Source.left c.read_request.new.source) (g.S.Source.failures c.read_request.new.source) (g.W.Sink.held c.finish.new.sink) (g.W.Sink.failures c.finish.new.sink)) c.loop-number.marks.items c.in-Ok-finish.end
          (finished c.args.users.now gave entry now c.loop-number.marks.items c.loop-number.buffer c.loop-number.invariant.goes c.loop-number.invariant.given (omega (arith, c.loop-number.invariant.count))
          (g.S.Source.left c.read_request.new.source) (g.S.Source.failures c.read_request.new.source) (g.W.Sink.held c.finish.new.sink) (g.W.Sink.failures c.finish.new.sink) c.read_request.new.buffer c.in-Err.ensures.kept c.in-Err.fault c.in-Ok-finish.end c.in-Err.ensures.fault c.in-Ok-finish.ensures.finishes)
          (read_ended c.in-Err.fault entry.source_failures _ _ c.loop-number.invariant.read c.in-Err.ensures.cause c.in-Ok-finish.end c.in-Ok-finish.ensures.finishes.0) (kept_ok _ _ _ _ c.in-Ok-finish.ensures.cause ∙ c.loop-number.invariant.written);
    }

pub returns-in-Err-finish : goal.returns-in-Err-finish
returns-in-Err-finish g c =
    let draws = Draws g.R.Words.gives g.R.Words.fault_count in
    let entry : Standing = (record { left = g.S.Source.left c.args.source.now; source_failures = g.S.Source.failures c.args.source.now; held = g.W.Sink.held c.args.sink.now; sink_failures = g.W.Sink.failures c.args.sink.now; board = g.B.Board.state c.args.board.now }) in
    let now : Standing = (record { left = g.S.Source.left c.loop-number.source; source_failures = g.S.Source.failures c.loop-number.source; held = g.W.Sink.held c.loop-number.sink; sink_failures = g.W.Sink.failures c.loop-number.sink; board = g.B.Board.state c.loop-number.board }) in
    let gave = GaveFor g.C.Clock.gives draws c.args.clock.now c.loop-number.clock c.args.words.now c.loop-number.words in
    record {
      converses = broke_off c.args.users.now gave entry (with_both now (g.S.Source.left c.read_request.new.source) (g.S.Source.failures c.read_request.new.source) (g.W.Sink.held c.finish.new.sink) (g.W.Sink.failures c.finish.new.sink)) c.loop-number.marks.items c.in-Err-finish.at
          (broke c.args.users.now gave entry now c.loop-number.marks.items c.loop-number.buffer c.loop-number.invariant.goes c.loop-number.invariant.given (omega (arith, c.loop-number.invariant.count))
          (g.S.Source.left c.read_request.new.source) (g.S.Source.failures c.read_request.new.source) (g.W.Sink.held c.finish.new.sink) (g.W.Sink.failures c.finish.new.sink) c.read_request.new.buffer c.in-Err.ensures.kept c.in-Err.fault c.in-Err-finish.at
          c.in-Err.ensures.fault c.in-Err-finish.ensures.finishes)
          (read_broke c.in-Err.fault entry.source_failures _ _ c.loop-number.invariant.read c.in-Err.ensures.cause c.in-Err-finish.at _ _ c.in-Err-finish.ensures.finishes)
          (cause_on _ c.in-Err-finish.at _ _ _ c.loop-number.invariant.written c.in-Err-finish.ensures.cause);
    }

pub returns-in-Ok-Answered-2 : goal.returns-in-Ok-Answered-2
returns-in-Ok-Answered-2 g c =
    let draws = Draws g.R.Words.gives g.R.Words.fault_count in
    let entry : Standing = (record { left = g.S.Source.left c.args.source.now; source_failures = g.S.Source.failures c.args.source.now; held = g.W.Sink.held c.args.sink.now; sink_failures = g.W.Sink.failures c.args.sink.now; board = g.B.Board.state c.args.board.now }) in
    let now : Standing = (record { left = g.S.Source.left c.loop-number.source; source_failures = g.S.Source.failures c.loop-number.source; held = g.W.Sink.held c.loop-number.sink; sink_failures = g.W.Sink.failures c.loop-number.sink; board = g.B.Board.state c.loop-number.board }) in
    let later : Standing = (record { left = g.S.Source.left c.read_request.new.source; source_failures = g.S.Source.failures c.read_request.new.source; held = g.W.Sink.held c.serve_request.new.sink; sink_failures = g.W.Sink.failures c.serve_request.new.sink; board = g.B.Board.state c.serve_request.new.board }) in
    let gave = GaveFor g.C.Clock.gives draws c.args.clock.now c.serve_request.new.clock c.args.words.now c.serve_request.new.words in
    record {
      converses = ended_well c.args.users.now gave entry later c.serve_request.new.marks.items CloseAsked
          (closes c.args.users.now entry now later c.loop-number.marks.items c.loop-number.buffer c.loop-number.invariant.goes c.loop-number.number c.loop-number.invariant.count (omega arith)
          (GaveFor g.C.Clock.gives draws c.loop-number.clock c.serve_request.new.clock c.loop-number.words c.serve_request.new.words) gave
          (λ more gave. gave_on g.C.Clock.gives draws c.args.clock.now c.loop-number.clock c.serve_request.new.clock c.args.words.now c.loop-number.words c.serve_request.new.words _ more c.loop-number.invariant.given gave)
          c.serve_request.new.marks.items c.read_request.new.buffer c.in-Ok.request c.in-Ok.ensures.request c.if-not-request.false (rw c.in-Ok-Answered.field-0-is at c.in-Ok-Answered.ensures.serves))
          (kept_ok _ _ _ _ c.in-Ok.ensures.cause ∙ c.loop-number.invariant.read) (kept_ok _ _ _ _ c.in-Ok-Answered.ensures.cause ∙ c.loop-number.invariant.written);
    }

pub returns-in-Ok-NotBuilt : goal.returns-in-Ok-NotBuilt
returns-in-Ok-NotBuilt g c =
    let draws = Draws g.R.Words.gives g.R.Words.fault_count in
    let entry : Standing = (record { left = g.S.Source.left c.args.source.now; source_failures = g.S.Source.failures c.args.source.now; held = g.W.Sink.held c.args.sink.now; sink_failures = g.W.Sink.failures c.args.sink.now; board = g.B.Board.state c.args.board.now }) in
    let now : Standing = (record { left = g.S.Source.left c.loop-number.source; source_failures = g.S.Source.failures c.loop-number.source; held = g.W.Sink.held c.loop-number.sink; sink_failures = g.W.Sink.failures c.loop-number.sink; board = g.B.Board.state c.loop-number.board }) in
    let later : Standing = (record { left = g.S.Source.left c.read_request.new.source; source_failures = g.S.Source.failures c.read_request.new.source; held = g.W.Sink.held c.serve_request.new.sink; sink_failures = g.W.Sink.failures c.serve_request.new.sink; board = g.B.Board.state c.serve_request.new.board }) in
    let gave = GaveFor g.C.Clock.gives draws c.args.clock.now c.serve_request.new.clock c.args.words.now c.serve_request.new.words in
    record {
      converses = ended_well c.args.users.now gave entry later c.serve_request.new.marks.items NotBuilt
          (left_unbuilt c.args.users.now entry now later c.loop-number.marks.items c.loop-number.buffer c.loop-number.invariant.goes c.loop-number.number c.loop-number.invariant.count (omega arith)
          (GaveFor g.C.Clock.gives draws c.loop-number.clock c.serve_request.new.clock c.loop-number.words c.serve_request.new.words) gave
          (λ more gave. gave_on g.C.Clock.gives draws c.args.clock.now c.loop-number.clock c.serve_request.new.clock c.args.words.now c.loop-number.words c.serve_request.new.words _ more c.loop-number.invariant.given gave)
          c.serve_request.new.marks.items c.read_request.new.buffer c.in-Ok.request c.in-Ok.ensures.request (rw c.in-Ok-NotBuilt.field-0-is at c.in-Ok-NotBuilt.ensures.serves))
          (kept_ok _ _ _ _ c.in-Ok.ensures.cause ∙ c.loop-number.invariant.read) (kept_ok _ _ _ _ c.in-Ok-NotBuilt.ensures.cause ∙ c.loop-number.invariant.written);
    }

pub returns-in-Err-serve_request : goal.returns-in-Err-serve_request
returns-in-Err-serve_request g c =
    let draws = Draws g.R.Words.gives g.R.Words.fault_count in
    let entry : Standing = (record { left = g.S.Source.left c.args.source.now; source_failures = g.S.Source.failures c.args.source.now; held = g.W.Sink.held c.args.sink.now; sink_failures = g.W.Sink.failures c.args.sink.now; board = g.B.Board.state c.args.board.now }) in
    let now : Standing = (record { left = g.S.Source.left c.loop-number.source; source_failures = g.S.Source.failures c.loop-number.source; held = g.W.Sink.held c.loop-number.sink; sink_failures = g.W.Sink.failures c.loop-number.sink; board = g.B.Board.state c.loop-number.board }) in
    let later : Standing = (record { left = g.S.Source.left c.read_request.new.source; source_failures = g.S.Source.failures c.read_request.new.source; held = g.W.Sink.held c.serve_request.new.sink; sink_failures = g.W.Sink.failures c.serve_request.new.sink; board = g.B.Board.state c.serve_request.new.board }) in
    let gave = GaveFor g.C.Clock.gives draws c.args.clock.now c.serve_request.new.clock c.args.words.now c.serve_request.new.words in
    record {
      converses = broke_off c.args.users.now gave entry later c.serve_request.new.marks.items c.in-Err-serve_request.at
          (breaks_serving c.args.users.now entry now later c.loop-number.marks.items c.loop-number.buffer c.loop-number.invariant.goes c.loop-number.number c.loop-number.invariant.count (omega arith)
          (GaveFor g.C.Clock.gives draws c.loop-number.clock c.serve_request.new.clock c.loop-number.words c.serve_request.new.words) gave
          (λ more gave. gave_on g.C.Clock.gives draws c.args.clock.now c.loop-number.clock c.serve_request.new.clock c.args.words.now c.loop-number.words c.serve_request.new.words _ more c.loop-number.invariant.given gave)
          c.serve_request.new.marks.items c.read_request.new.buffer c.in-Ok.request c.in-Ok.ensures.request c.in-Err-serve_request.at
          c.in-Err-serve_request.ensures.serves)
          (cause_other _ c.in-Err-serve_request.at _ _
          (no_read c.args.users.now entry now later c.loop-number.marks.items c.loop-number.buffer c.loop-number.invariant.goes c.loop-number.number c.loop-number.invariant.count (omega arith)
          (GaveFor g.C.Clock.gives draws c.loop-number.clock c.serve_request.new.clock c.loop-number.words c.serve_request.new.words) gave
          (λ more gave. gave_on g.C.Clock.gives draws c.args.clock.now c.loop-number.clock c.serve_request.new.clock c.args.words.now c.loop-number.words c.serve_request.new.words _ more c.loop-number.invariant.given gave)
          c.serve_request.new.marks.items c.read_request.new.buffer c.in-Ok.request c.in-Ok.ensures.request c.in-Err-serve_request.at c.in-Err-serve_request.ensures.serves)
          (kept_ok _ _ _ _ c.in-Ok.ensures.cause ∙ c.loop-number.invariant.read))
          (cause_on _ c.in-Err-serve_request.at _ _ _ c.loop-number.invariant.written c.in-Err-serve_request.ensures.cause);
    }

pub loop-number-preserved : goal.loop-number-preserved
loop-number-preserved g c =
    let draws = Draws g.R.Words.gives g.R.Words.fault_count in
    let entry : Standing = (record { left = g.S.Source.left c.args.source.now; source_failures = g.S.Source.failures c.args.source.now; held = g.W.Sink.held c.args.sink.now; sink_failures = g.W.Sink.failures c.args.sink.now; board = g.B.Board.state c.args.board.now }) in
    let now : Standing = (record { left = g.S.Source.left c.loop-number.source; source_failures = g.S.Source.failures c.loop-number.source; held = g.W.Sink.held c.loop-number.sink; sink_failures = g.W.Sink.failures c.loop-number.sink; board = g.B.Board.state c.loop-number.board }) in
    let later : Standing = (record { left = g.S.Source.left c.read_request.new.source; source_failures = g.S.Source.failures c.read_request.new.source; held = g.W.Sink.held c.serve_request.new.sink; sink_failures = g.W.Sink.failures c.serve_request.new.sink; board = g.B.Board.state c.serve_request.new.board }) in
    let gave = GaveFor g.C.Clock.gives draws c.args.clock.now c.serve_request.new.clock c.args.words.now c.serve_request.new.words in
    let serves = rw c.in-Ok-Answered.field-0-is at c.in-Ok-Answered.ensures.serves in
    let goes = goes_on c.args.users.now entry now later c.loop-number.marks.items c.loop-number.buffer c.loop-number.invariant.goes c.loop-number.number c.loop-number.invariant.count (omega arith)
    (GaveFor g.C.Clock.gives draws c.loop-number.clock c.serve_request.new.clock c.loop-number.words c.serve_request.new.words) gave
    (λ more gave. gave_on g.C.Clock.gives draws c.args.clock.now c.loop-number.clock c.serve_request.new.clock c.args.words.now c.loop-number.words c.serve_request.new.words _ more c.loop-number.invariant.given gave)
    c.serve_request.new.marks.items c.read_request.new.buffer c.in-Ok.request c.in-Ok.ensures.request c.if-not-request.true serves in
    record {
      goes = goes.0;
      count = sym goes.2;
      given = goes.1;
      read = kept_ok _ _ _ _ c.in-Ok.ensures.cause ∙ c.loop-number.invariant.read;
      written = kept_ok _ _ _ _ c.in-Ok-Answered.ensures.cause ∙ c.loop-number.invariant.written;
    }

pub returns : goal.returns
returns g c =
    let draws = Draws g.R.Words.gives g.R.Words.fault_count in
    let entry : Standing = (record { left = g.S.Source.left c.args.source.now; source_failures = g.S.Source.failures c.args.source.now; held = g.W.Sink.held c.args.sink.now; sink_failures = g.W.Sink.failures c.args.sink.now; board = g.B.Board.state c.args.board.now }) in
    let now : Standing = (record { left = g.S.Source.left c.loop-number.source; source_failures = g.S.Source.failures c.loop-number.source; held = g.W.Sink.held c.loop-number.sink; sink_failures = g.W.Sink.failures c.loop-number.sink; board = g.B.Board.state c.loop-number.board }) in
    let gave = GaveFor g.C.Clock.gives draws c.args.clock.now c.loop-number.clock c.args.words.now c.loop-number.words in
    record {
      converses = ended_well c.args.users.now gave entry now c.loop-number.marks.items Spent
          (spent_well c.args.users.now gave entry now c.loop-number.marks.items c.loop-number.buffer c.loop-number.invariant.goes c.loop-number.invariant.given (omega (arith, c.loop-number.invariant.count)))
          c.loop-number.invariant.read c.loop-number.invariant.written;
    }
