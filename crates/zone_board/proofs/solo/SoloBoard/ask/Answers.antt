use Rattle.std.proofs.Common.{◌≡◌, ◌<◌, length, set, IfOk, IfErr, OnErr, subst, arith}
use Rattle.std.specs.List.{AllByRecursion}
use Rattle.zone_model.specs.Events.{log_of}
use Rattle.plain_creates.specs.OnePuts.{IsOnePut}
use Rattle.board_model.specs.Turns.{AreLegal, IsAsked, MayHaveAsked}
use Rattle.zone_board.specs.Stripes.{events_in, turns_in, list_at, solo}
use Rattle.zone_board.specs.declared.stripe.Stripe.{Stripe}
use Rattle.zone_board.specs.Kept.{IsKept}
use Rattle.zone_board.proofs.StripeLemmas.{list_at-get_or, stays_kept, all_kept, legal_on, asked, failed, unchanged}
use Rattle.zone_board.proofs.solo.SoloBoard.ask.Goals as goal

pub ask_counted-requires-clause-puts : goal.ask_counted-requires-clause-puts
ask_counted-requires-clause-puts c =
    subst (λ es. AllByRecursion IsOnePut (log_of es)) (list_at-get_or (λ (s : Stripe). s.events.items) c.self.inside.stripes c.args.lock c.index-self-lock.result (omega arith)) (c.self.invariant c.args.lock c.requires.lock).puts

pub invariant_of-self : goal.invariant_of-self
invariant_of-self c =
    let vs = c.self.inside.stripes in
    let within : c.args.lock < length vs = omega arith in
    let kept : IsKept c.args.lock c.ask_counted.new.stripe.events.items = stays_kept vs c.args.lock c.index-self-lock.result c.ask_counted.new.stripe within (c.self.invariant c.args.lock c.requires.lock) c.ask_counted.ensures.kept in
    all_kept vs c.args.lock c.ask_counted.new.stripe within c.self.invariant kept

pub returns-clause-asked : goal.returns-clause-asked
returns-clause-asked c =
    let vs = c.self.inside.stripes in
    let new = c.ask_counted.new.stripe in
    let within : c.args.lock < length vs = omega arith in
    let kept : IsKept c.args.lock new.events.items = stays_kept vs c.args.lock c.index-self-lock.result new within (c.self.invariant c.args.lock c.requires.lock) c.ask_counted.ensures.kept in
    let legal : AreLegal (list_at (events_in (set vs c.args.lock new))) = legal_on vs c.args.lock new (omega arith) within c.self.invariant kept in
    subst (λ s. IfOk c.ask_counted.result (IsAsked (solo s) (solo (events_in (set vs c.args.lock new), turns_in (set vs c.args.lock new))) c.args.lock c.args.part.now)) c.self.view_is
    (asked vs c.args.lock c.index-self-lock.result new within c.args.part.now c.ask_counted.result legal
    c.ask_counted.ensures.made c.ask_counted.ensures.len c.ask_counted.ensures.counted c.ask_counted.ensures.event c.ask_counted.ensures.answer)

pub returns-clause-failed : goal.returns-clause-failed
returns-clause-failed c =
    let vs = c.self.inside.stripes in
    let new = c.ask_counted.new.stripe in
    let within : c.args.lock < length vs = omega arith in
    subst (λ s. IfErr c.ask_counted.result (λ _. MayHaveAsked (solo s) (solo (events_in (set vs c.args.lock new), turns_in (set vs c.args.lock new))) c.args.lock c.args.part.now)) c.self.view_is
    (failed vs c.args.lock c.index-self-lock.result new within c.args.part.now c.ask_counted.result
    (unchanged vs c.args.lock c.index-self-lock.result new within c.ask_counted.result c.ask_counted.ensures.err c.ask_counted.ensures.uncounted))

pub returns-clause-kept : goal.returns-clause-kept
returns-clause-kept c =
    let vs = c.self.inside.stripes in
    let new = c.ask_counted.new.stripe in
    let within : c.args.lock < length vs = omega arith in
    subst (λ s. OnErr c.ask_counted.result (solo (events_in (set vs c.args.lock new), turns_in (set vs c.args.lock new)) ≡ solo s)) c.self.view_is
    (unchanged vs c.args.lock c.index-self-lock.result new within c.ask_counted.result c.ask_counted.ensures.err c.ask_counted.ensures.uncounted)
