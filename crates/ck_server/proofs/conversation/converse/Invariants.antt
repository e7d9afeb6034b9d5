use Rattle.std.proofs.Common.{◌≡◌, length, map}
use Rattle.talk_model.specs.Given.{given_of, Draws, GaveFor}
use Rattle.ck_server.proofs.OutcomeLemmas.{Goes}
use Rattle.ck_server.proofs.conversation.converse.Given as goal

abbrev pub invariant-loop-number : goal.invariant-loop-number
invariant-loop-number g l = record {
  goes : Goes l.users
      (record { left = g.S.Source.left l.fn.source; source_failures = g.S.Source.failures l.fn.source; held = g.W.Sink.held l.fn.sink; sink_failures = g.W.Sink.failures l.fn.sink; board = g.B.Board.state l.fn.board })
      (record { left = g.S.Source.left l.source; source_failures = g.S.Source.failures l.source; held = g.W.Sink.held l.sink; sink_failures = g.W.Sink.failures l.sink; board = g.B.Board.state l.board })
      l.marks.items l.buffer;
  count : l.number ≡ length l.marks.items;
  given : GaveFor g.C.Clock.gives (Draws g.R.Words.gives g.R.Words.fault_count) l.fn.clock l.clock l.fn.words l.words (map given_of l.marks.items);
  read : (g.S.Source.failures l.source).count ≡ (g.S.Source.failures l.fn.source).count;
  written : (g.W.Sink.failures l.sink).count ≡ (g.W.Sink.failures l.fn.sink).count;
}
