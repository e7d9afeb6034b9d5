use Rattle.std.proofs.Common.{◌≤◌, ◌-◌, true, vec_len, vec_capacity}
use Rattle.ck_devices.specs.Runs.{GivesInTurn}
use Rattle.talk_model.specs.Given.{draws_by, Draws}
use Rattle.ck_server.proofs.drawing.draw_words.Given as goal

abbrev pub invariant-loop-words : goal.invariant-loop-words
invariant-loop-words g l = record {
  gave : GivesInTurn (Draws g.R.Words.gives g.R.Words.fault_count) l.fn.words (draws_by l.drawn.items true) l.words;
  few : vec_len l.drawn ≤ l.count;
  room : l.count ≤ vec_capacity l.drawn;
}

abbrev pub decreases-loop-words : goal.decreases-loop-words
decreases-loop-words g l = l.count - vec_len l.drawn
