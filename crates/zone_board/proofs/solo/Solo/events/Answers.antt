use Rattle.std.proofs.Common.{sym, ◌∙◌, subst, arith}
use Rattle.zone_model.specs.Legal.{IsLegal}
use Rattle.zone_board.specs.declared.stripe.Stripe.{Stripe}
use Rattle.zone_board.proofs.StripeLemmas.{list_at-get_or}
use Rattle.zone_board.proofs.solo.Solo.events.Goals as goal

pub returns-clause-legal : goal.returns-clause-legal
returns-clause-legal c =
    let same = list_at-get_or (λ (s : Stripe). s.events.items) c.self.inside.stripes c.args.lock c.index-self-lock.result (omega arith) ∙ sym c.as_slice.ensures.value in
    subst (IsLegal c.args.lock) same (c.self.invariant c.args.lock c.requires).legal
