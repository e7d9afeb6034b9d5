use Rattle.std.proofs.Common.{◌≡◌, ◌<◌, ℕ, Bool, MatchBool, true, false, List, [], ◌∷◌, length, refl, ap, subst, ◌∙◌, arith}
use Rattle.ck_devices.specs.Runs.{GivesInTurn}
use Rattle.ck_devices.proofs.Streams.{appends-nil}
use Rattle.error_replies.specs.declared.errors.ServerError.TheVariants.{TryAgainLater}
use Rattle.talk_model.specs.declared.wants.Want.TheVariants.{Called}
use Rattle.talk_model.specs.Given.{Given, draws_by, Draws}
use Rattle.ck_server.specs.Answering.{Place, Serves}
use Rattle.ck_server.specs.Marking.{given_with, asking_of, GaveOne}
use Rattle.ck_server.proofs.ServingLemmas.{by_memory, given_up, known_undrawn, gave_undrawn, is_askable, unasked, unanswered, told_sent, told_broken, refusal_serves, undrawn_step}
use Rattle.ck_server.proofs.serving.serve_call.Goals as goal

pub mark_asks-requires : goal.mark_asks-requires
mark_asks-requires g c =
    let given : Given = given_with c.args.arrival.moment c.in_ok-drawn.drawn.words.items true in
    let many = subst (λ (b : Bool). MatchBool b (length c.in_ok-drawn.drawn.words.items ≡ c.words_of.result) (length c.in_ok-drawn.drawn.words.items < c.words_of.result)) c.if-drawn.true c.in_ok-drawn.ensures.many in
    is_askable c.args.call given c.in_ok-asking.asking c.requires (many ∙ c.words_of.ensures) (omega arith)
    (c.in_ok-asking.ensures ∙ ap (λ (ws : List (List ℕ)). asking_of c.args.call (given_with c.args.arrival.moment ws true)) c.as_slice.ensures.value)

pub returns-in_err-drawn-clause-serves : goal.returns-in_err-drawn-clause-serves
returns-in_err-drawn-clause-serves g c t r closes wants =
    let gave = GaveOne c.args.arrival.moment (Draws g.R.Words.gives g.R.Words.fault_count) c.args.words.now c.draw_words.new.words in
    let before : Place = record { held = g.W.Sink.held c.args.sink.now; board = g.B.Board.state c.args.board.now } in
    by_memory (λ res. Serves gave c.args.arrival.number before before c.args.marks.now.items c.args.marks.now.items t r res) c.from_residual.result (c.from_residual.ensures).1
    (given_up gave c.args.arrival.number before before c.args.marks.now.items c.args.marks.now.items t r (given_with c.args.arrival.moment [] true ∷ []) (omega arith)
    (known_undrawn t r c.args.close c.args.call c.args.arrival.moment closes wants) (gave_undrawn c.args.arrival.moment _ c.args.words.now c.draw_words.new.words c.in_err-drawn.ensures.none) refl refl (appends-nil before.held))

pub returns-in_err-asking-clause-serves : goal.returns-in_err-asking-clause-serves
returns-in_err-asking-clause-serves g c t r closes wants =
    let draws = Draws g.R.Words.gives g.R.Words.fault_count in
    let gave = GaveOne c.args.arrival.moment draws c.args.words.now c.draw_words.new.words in
    let given : Given = given_with c.args.arrival.moment c.in_ok-drawn.drawn.words.items true in
    let before : Place = record { held = g.W.Sink.held c.args.sink.now; board = g.B.Board.state c.args.board.now } in
    let drew = subst (λ (b : Bool). GivesInTurn draws c.args.words.now (draws_by c.in_ok-drawn.drawn.words.items b) c.draw_words.new.words) c.if-drawn.true c.in_ok-drawn.ensures.drew in
    let many = subst (λ (b : Bool). MatchBool b (length c.in_ok-drawn.drawn.words.items ≡ c.words_of.result) (length c.in_ok-drawn.drawn.words.items < c.words_of.result)) c.if-drawn.true c.in_ok-drawn.ensures.many in
    by_memory (λ res. Serves gave c.args.arrival.number before before c.args.marks.now.items c.args.marks.now.items t r res) c.from_residual-in_err-asking.result (c.from_residual-in_err-asking.ensures).1
    (unasked gave c.args.arrival.number before before c.args.marks.now.items c.args.marks.now.items c.args.close c.args.call given (given, refl, refl, drew) refl (many ∙ c.words_of.ensures) (asking_of c.args.call given) refl t r closes wants refl refl (appends-nil before.held))

pub returns-in_err-reply-clause-serves : goal.returns-in_err-reply-clause-serves
returns-in_err-reply-clause-serves g c t r closes wants =
    let draws = Draws g.R.Words.gives g.R.Words.fault_count in
    let gave = GaveOne c.args.arrival.moment draws c.args.words.now c.draw_words.new.words in
    let given : Given = given_with c.args.arrival.moment c.in_ok-drawn.drawn.words.items true in
    let before : Place = record { held = g.W.Sink.held c.args.sink.now; board = g.B.Board.state c.args.board.now } in
    let after : Place = record { held = g.W.Sink.held c.args.sink.now; board = g.B.Board.state c.mark_asks.new.board } in
    let drew = subst (λ (b : Bool). GivesInTurn draws c.args.words.now (draws_by c.in_ok-drawn.drawn.words.items b) c.draw_words.new.words) c.if-drawn.true c.in_ok-drawn.ensures.drew in
    let many = subst (λ (b : Bool). MatchBool b (length c.in_ok-drawn.drawn.words.items ≡ c.words_of.result) (length c.in_ok-drawn.drawn.words.items < c.words_of.result)) c.if-drawn.true c.in_ok-drawn.ensures.many in
    by_memory (λ res. Serves gave c.args.arrival.number before after c.args.marks.now.items c.mark_asks.new.marks.items t r res) c.from_residual-in_err-reply.result (c.from_residual-in_err-reply.ensures).1
    (unanswered gave c.args.arrival.number before after c.args.marks.now.items c.mark_asks.new.marks.items c.args.close c.args.call given (given, refl, refl, drew) refl (many ∙ c.words_of.ensures) c.in_ok-asking.asking (c.in_ok-asking.ensures ∙ ap (λ (ws : List (List ℕ)). asking_of c.args.call (given_with c.args.arrival.moment ws true)) c.as_slice.ensures.value) t r closes wants
    _ c.in_err-reply.ensures (appends-nil before.held))

pub returns-then-drawn-clause-serves : goal.returns-then-drawn-clause-serves
returns-then-drawn-clause-serves g c t r closes wants =
    let draws = Draws g.R.Words.gives g.R.Words.fault_count in
    let gave = GaveOne c.args.arrival.moment draws c.args.words.now c.draw_words.new.words in
    let given : Given = given_with c.args.arrival.moment c.in_ok-drawn.drawn.words.items true in
    let before : Place = record { held = g.W.Sink.held c.args.sink.now; board = g.B.Board.state c.args.board.now } in
    let after : Place = record { held = g.W.Sink.held c.send_reply.new.sink; board = g.B.Board.state c.mark_asks.new.board } in
    let drew = subst (λ (b : Bool). GivesInTurn draws c.args.words.now (draws_by c.in_ok-drawn.drawn.words.items b) c.draw_words.new.words) c.if-drawn.true c.in_ok-drawn.ensures.drew in
    let many = subst (λ (b : Bool). MatchBool b (length c.in_ok-drawn.drawn.words.items ≡ c.words_of.result) (length c.in_ok-drawn.drawn.words.items < c.words_of.result)) c.if-drawn.true c.in_ok-drawn.ensures.many in
    told_broken gave c.args.arrival.number before after c.args.marks.now.items c.mark_asks.new.marks.items c.args.close c.args.call given (given, refl, refl, drew) refl (many ∙ c.words_of.ensures) c.in_ok-asking.asking (c.in_ok-asking.ensures ∙ ap (λ (ws : List (List ℕ)). asking_of c.args.call (given_with c.args.arrival.moment ws true)) c.as_slice.ensures.value) t r closes wants
    c.in_ok-reply.reply c.in_ok-reply.ensures (Unit {0}) c.in-Err.at c.in-Err.ensures.sends

pub returns-in-Ok-clause-serves : goal.returns-in-Ok-clause-serves
returns-in-Ok-clause-serves g c t r closes wants =
    let draws = Draws g.R.Words.gives g.R.Words.fault_count in
    let gave = GaveOne c.args.arrival.moment draws c.args.words.now c.draw_words.new.words in
    let given : Given = given_with c.args.arrival.moment c.in_ok-drawn.drawn.words.items true in
    let before : Place = record { held = g.W.Sink.held c.args.sink.now; board = g.B.Board.state c.args.board.now } in
    let after : Place = record { held = g.W.Sink.held c.send_reply.new.sink; board = g.B.Board.state c.mark_asks.new.board } in
    let drew = subst (λ (b : Bool). GivesInTurn draws c.args.words.now (draws_by c.in_ok-drawn.drawn.words.items b) c.draw_words.new.words) c.if-drawn.true c.in_ok-drawn.ensures.drew in
    let many = subst (λ (b : Bool). MatchBool b (length c.in_ok-drawn.drawn.words.items ≡ c.words_of.result) (length c.in_ok-drawn.drawn.words.items < c.words_of.result)) c.if-drawn.true c.in_ok-drawn.ensures.many in
    told_sent gave c.args.arrival.number before after c.args.marks.now.items c.mark_asks.new.marks.items c.args.close c.args.call given (given, refl, refl, drew) refl (many ∙ c.words_of.ensures) c.in_ok-asking.asking (c.in_ok-asking.ensures ∙ ap (λ (ws : List (List ℕ)). asking_of c.args.call (given_with c.args.arrival.moment ws true)) c.as_slice.ensures.value) t r closes wants
    c.in_ok-reply.reply c.in_ok-reply.ensures c.in-Ok.ensures.sends

pub returns-clause-serves : goal.returns-clause-serves
returns-clause-serves g c t r closes wants =
    let draws = Draws g.R.Words.gives g.R.Words.fault_count in
    let gave = GaveOne c.args.arrival.moment draws c.args.words.now c.draw_words.new.words in
    let given : Given = given_with c.args.arrival.moment c.in_ok-drawn.drawn.words.items c.in_ok-drawn.drawn.drawn in
    let many = subst (λ (n : ℕ). MatchBool c.in_ok-drawn.drawn.drawn (length c.in_ok-drawn.drawn.words.items ≡ n) (length c.in_ok-drawn.drawn.words.items < n)) c.words_of.ensures c.in_ok-drawn.ensures.many in
    refusal_serves gave c.args.arrival.number (g.W.Sink.held c.args.sink.now) (g.W.Sink.held c.refuse_request.new.sink) (g.B.Board.state c.args.board.now)
    c.args.marks.now.items c.refuse_request.new.marks.items c.args.close TryAgainLater (Called c.args.call) given (given, refl, refl, c.in_ok-drawn.ensures.drew) (undrawn_step c.args.call given c.if-drawn.false)
    many c.refuse_request.result c.refuse_request.ensures.refuses t r closes wants
