use Rattle.std.proofs.Common.{sym, ap, ◌∙◌, option_map, Bor}
use Rattle.share_records.specs.declared.participant.Participant.{Participant}
use Rattle.share_records.specs.ShareLists.{kept_as}
use Rattle.zone_puts.proofs.participants.kept_as.Goals as goal

pub returns-in_ok-kept-in-Public : goal.returns-in_ok-kept-in-Public
returns-in_ok-kept-in-Public c =
    let old = option_map (λ (p : Bor Participant). p.now) c.args.old in
    c.in_ok-kept-in-Public.ensures c.args.wanted.now ∙ sym (ap (λ k. kept_as k c.args.wanted.now old) c.in-Public.is)
