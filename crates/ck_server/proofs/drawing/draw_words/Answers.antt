use Rattle.std.proofs.Common.{arith}
use Rattle.ck_server.proofs.DrawingLemmas.{word_drawn, draw_failed}
use Rattle.ck_server.proofs.drawing.draw_words.Goals as goal

pub loop-words-preserved : goal.loop-words-preserved
loop-words-preserved g c = record {
  gave = word_drawn g.R.Words.gives g.R.Words.fault_count c.args.words.now c.loop-words.words c.draw.new.self c.loop-words.drawn.items c.loop-words.invariant.gave
      c.push_reserved.new.self.items c.in-Ok.word c.push_reserved.ensures.items (c.in-Ok.ensures.gives, c.in-Ok.ensures.cause);
  few = omega arith;
  room = omega arith;
}

pub returns-in-Err-clause-drew : goal.returns-in-Err-clause-drew
returns-in-Err-clause-drew g c =
    draw_failed g.R.Words.gives g.R.Words.fault_count c.args.words.now c.loop-words.words c.draw.new.self c.loop-words.drawn.items c.loop-words.invariant.gave
    c.in-Err.field-0 (c.in-Err.ensures.gives, c.in-Err.ensures.cause)
