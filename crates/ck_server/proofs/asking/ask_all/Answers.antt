use Rattle.std.proofs.Common.{◌≡◌, [], ◌∷◌, ◌++◌, refl, ap, ◌∙◌, rules}
use Rattle.ck_server.specs.Answering.{at_of}
use Rattle.ck_server.specs.Marking.{step_from, AsksAll}
use Rattle.ck_server.proofs.MarkingLemmas.{by_error, none_asked, was_asking, was_asked}
use Rattle.ck_server.proofs.asking.ask_all.Goals as goal

pub returns-in_err-reserve : goal.returns-in_err-reserve
returns-in_err-reserve g c = record {
  asks =
      by_error _ (λ res. AsksAll (g.B.Board.state c.args.board.now) (g.B.Board.state c.args.board.now) c.reserve.new.self.items (step_from c.args.asking.now) res) c.from_residual.result (c.from_residual.ensures).1
      (λ e. none_asked (g.B.Board.state c.args.board.now) (g.B.Board.state c.args.board.now) c.args.asking.now e c.reserve.new.self.items (c.reserve.ensures.items ∙ c.requires.none) refl);
}

pub returns-in-Err-NoMemory : goal.returns-in-Err-NoMemory
returns-in-Err-NoMemory g c = record {
  asks =
      was_asking (g.B.Board.state c.args.board.now) (g.B.Board.state c.ask.new.self) c.args.asking.now c.reserve.new.self.items (c.reserve.ensures.items ∙ c.requires.none) c.in-Err-NoMemory.ensures.failed;
}

pub returns : goal.returns
returns g c =
    let at = at_of (record { lock = c.args.asking.now.lock; part = c.args.asking.now.part }) c.in-Ok.answered in
    let told : c.push.new.self.items ≡ c.reserve.new.self.items ++ at ∷ [] = search rules in
    record {
      asks = was_asked (g.B.Board.state c.args.board.now) (g.B.Board.state c.ask.new.self) c.args.asking.now c.in-Ok.answered c.push.new.self.items c.reply_from.result c.in-Ok.ensures.asked
          (told ∙ ap (λ l. l ++ at ∷ []) (c.reserve.ensures.items ∙ c.requires.none)) c.reply_from.ensures;
    }
