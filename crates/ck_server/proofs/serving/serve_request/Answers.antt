use Rattle.std.proofs.Common.{◌≡◌, ◌<◌, ℕ, Bool, MatchBool, [], ◌∷◌, List, length, refl, sym, ap, subst, ◌∙◌, arith, Some}
use Rattle.ck_devices.specs.Runs.{GivesInTurn}
use Rattle.talk_model.specs.declared.wants.Want.TheVariants.{Refused}
use Rattle.talk_model.specs.Requests.{want_of}
use Rattle.talk_model.specs.Given.{Given, draws_by, Draws, GaveFor}
use Rattle.ck_devices.proofs.Streams.{appends-nil}
use Rattle.ck_server.specs.Answering.{Place, Serves}
use Rattle.ck_server.specs.Marking.{given_with, GaveOne}
use Rattle.ck_server.proofs.ServingLemmas.{by_memory, given_up, gave_for, gave_none, serves_by, refusal_serves}
use Rattle.ck_server.proofs.serving.serve_request.Goals as goal

pub returns-in_err-want-clause-serves : goal.returns-in_err-want-clause-serves
returns-in_err-want-clause-serves g c =
    let draws = Draws g.R.Words.gives g.R.Words.fault_count in
    let gave = GaveFor g.C.Clock.gives draws c.args.clock.now c.args.clock.now c.args.words.now c.args.words.now in
    let before : Place = record { held = g.W.Sink.held c.args.sink.now; board = g.B.Board.state c.args.board.now } in
    by_memory (λ res. Serves gave c.args.number before before c.args.marks.now.items c.args.marks.now.items c.args.users.now c.args.request.now res) c.from_residual.result (c.from_residual.ensures).1
    (given_up gave c.args.number before before c.args.marks.now.items c.args.marks.now.items c.args.users.now c.args.request.now
    [] (omega arith) tt (gave_none g.C.Clock.gives draws c.args.clock.now c.args.words.now) refl refl (appends-nil before.held))

pub returns-in-Refused-clause-serves : goal.returns-in-Refused-clause-serves
returns-in-Refused-clause-serves g c =
    let draws = Draws g.R.Words.gives g.R.Words.fault_count in
    let gave = GaveFor g.C.Clock.gives draws c.args.clock.now c.now.new.self c.args.words.now c.args.words.now in
    let drawn = c.nothing_drawn-drawn.result in
    let none = c.nothing_drawn-drawn.ensures in
    let given : Given = given_with c.now.result drawn.words.items drawn.drawn in
    let nothing : GivesInTurn draws c.args.words.now (draws_by drawn.words.items drawn.drawn) c.args.words.now =
    subst (λ (l : List (List ℕ)). GivesInTurn draws c.args.words.now (draws_by l drawn.drawn) c.args.words.now) (sym none.words)
    (subst (λ (b : Bool). GivesInTurn draws c.args.words.now (draws_by [] b) c.args.words.now) (sym none.drawn) refl) in
    let few : MatchBool drawn.drawn (length drawn.words.items ≡ 0) (length drawn.words.items < 0) = subst (λ (b : Bool). MatchBool b (length drawn.words.items ≡ 0) (length drawn.words.items < 0)) (sym none.drawn) (ap length none.words) in
    let wants : want_of c.args.users.now c.args.request.now ≡ Some (Refused c.in-Refused.error) = sym c.in_ok-want.ensures.want ∙ (c.in-Some.is ∙ ap (λ w. Some w) c.in-Refused.is) in
    refusal_serves gave c.args.number (g.W.Sink.held c.args.sink.now) (g.W.Sink.held c.refuse_request.new.sink) (g.B.Board.state c.args.board.now)
    c.args.marks.now.items c.refuse_request.new.marks.items c.args.request.now.close c.in-Refused.error (Refused c.in-Refused.error) given
    (gave_for g.C.Clock.gives draws c.args.clock.now c.now.new.self c.args.words.now c.args.words.now c.now.result c.now.ensures (given ∷ []) (given, refl, refl, nothing)) refl few c.refuse_request.result
    c.refuse_request.ensures.refuses c.args.users.now c.args.request.now refl wants

pub returns-in-Called-clause-serves : goal.returns-in-Called-clause-serves
returns-in-Called-clause-serves g c =
    let draws = Draws g.R.Words.gives g.R.Words.fault_count in
    let wants = sym c.in_ok-want.ensures.want ∙ (c.in-Some.is ∙ ap (λ w. Some w) c.in-Called.is) in
    serves_by (GaveOne c.now.result draws c.args.words.now c.serve_call.new.words) (GaveFor g.C.Clock.gives draws c.args.clock.now c.now.new.self c.args.words.now c.serve_call.new.words) c.args.number
    (record { held = g.W.Sink.held c.args.sink.now; board = g.B.Board.state c.args.board.now })
    (record { held = g.W.Sink.held c.serve_call.new.sink; board = g.B.Board.state c.serve_call.new.board }) c.args.marks.now.items c.serve_call.new.marks.items c.args.users.now c.args.request.now
    (λ given one. gave_for g.C.Clock.gives draws c.args.clock.now c.now.new.self c.args.words.now c.serve_call.new.words c.now.result c.now.ensures given one) c.serve_call.result
    (c.serve_call.ensures.serves c.args.users.now c.args.request.now refl wants)
