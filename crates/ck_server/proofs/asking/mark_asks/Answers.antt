use Rattle.std.proofs.Common.{◌≡◌, [], ◌∷◌, ◌++◌, true, refl, ap, ◌∙◌, rules}
use Rattle.talk_model.specs.declared.marks.Mark.{Mark}
use Rattle.ck_server.proofs.MarkingLemmas.{by_error, marks_told}
use Rattle.ck_server.proofs.asking.mark_asks.Goals as goal

pub returns : goal.returns
returns g c =
    let mark : Mark = record { request = c.args.arrival.number; moment = c.args.arrival.moment; words = c.args.words; drawn = true; asks = c.ask_all-told.new.asks } in
    let marked : c.push.new.self.items ≡ c.reserve.new.self.items ++ mark ∷ [] = search rules in
    marks_told _ _ _ _ _ _ _ c.ask_all-told.result c.ask_all-told.new.asks.items (record {
      mark = mark;
      marks = marked ∙ ap (λ l. l ++ mark ∷ []) c.reserve.ensures.items;
      request = refl;
      given = refl;
      asks = refl;
    }) c.ask_all-told.ensures.asks
