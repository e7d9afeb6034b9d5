use Rattle.std.proofs.Common.{◌≡◌, sym, refl, ◌∙◌, Some, None, inl, inr}
use Rattle.ck_command.specs.Arguments.{RunArguments, asked_of}
use Rattle.ck_command.specs.Serving.{Streams}
use Rattle.ck_command.proofs.ServingLemmas.{serves_fixed, untouched}
use Rattle.ck_command.proofs.run.run.Goals as goal

pub returns-in-Some-moment : goal.returns-in-Some-moment
returns-in-Some-moment g c =
    let asked : RunArguments = record { users = c.in-Some.asked.users.now; moment = Some c.in-Some-moment.moment } in
    let asked_is : asked_of c.args.args.now ≡ Some asked = sym c.in-Some.ensures ∙ (λ i. Some (record { users = c.in-Some.asked.users.now; moment = c.in-Some-moment.is i })) in
    rw asked_is (inr (record {
      shelf = (c.load_users.ensures.kept, c.in-Ok.ensures.counted);
      table = c.in-Ok.users;
      table_is = c.in-Ok.ensures.table;
      serves = serves_fixed g.C.Clock.gives _ c.args.clock.now _ _ c.in-Some-moment.moment _ _ _ c.in-Ok.users _ _ c.answer_all.result refl c.answer_all.ensures;
    }))

pub returns : goal.returns
returns g c =
    let asked : RunArguments = record { users = c.in-Some.asked.users.now; moment = None } in
    let asked_is : asked_of c.args.args.now ≡ Some asked = sym c.in-Some.ensures ∙ (λ i. Some (record { users = c.in-Some.asked.users.now; moment = c.in-None.is i })) in
    rw asked_is (inr (record { shelf = (c.load_users.ensures.kept, c.in-Ok.ensures.counted); table = c.in-Ok.users; table_is = c.in-Ok.ensures.table; serves = c.answer_all-in-None.ensures }))

pub returns-in-Err : goal.returns-in-Err
returns-in-Err g c =
    let asked : RunArguments = record { users = c.in-Some.asked.users.now; moment = c.in-Some.asked.moment } in
    let asked_is : asked_of c.args.args.now ≡ Some asked = sym c.in-Some.ensures in
    rw asked_is (inl (record { untouched = untouched g.C.Clock.gives _ c.args.clock.now c.args.words.now _; files = c.load_users.ensures.kept; may = c.in-Err.ensures.refused }))
