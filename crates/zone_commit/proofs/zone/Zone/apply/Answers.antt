use Rattle.std.proofs.Common.{ap, sym, subst}
use Rattle.zone_records.specs.Told.{Told, MayBeNext, Follows}
use Rattle.zone_records.proofs.ToldLemmas.{left-next}
use Rattle.zone_commit.specs.Kept.{Kept, told_by}
use Rattle.zone_commit.proofs.KeptLemmas.{acted}
use Rattle.zone_commit.proofs.zone.Zone.apply.Goals as goal

pub invariant_of-self-2 : goal.invariant_of-self-2
invariant_of-self-2 c = λ _.
    let old = c.self.inside.contents in
    let new = c.act_on.new.contents in
    let may = subst (λ (t : Told). MayBeNext t c.args.commit.now) (sym (ap (λ (k : Kept). k.told) c.self.view_is)) c.requires.next in
    let follows = acted c.self.inside.key c.args.commit.now old.here new.here old.records.rows new.records.rows old.counts new.counts old.subscriptions.items new.subscriptions.items
    c.in_ok-act_on.ensures.zone c.in_ok-act_on.ensures.subscriptions c.in_ok-act_on.ensures.counts in
    record { linked = c.in_ok-act_on.ensures.linked; left = left-next _ _ c.args.commit.now may follows }

pub returns-clause-follows : goal.returns-clause-follows
returns-clause-follows c =
    let old = c.self.inside.contents in
    let new = c.act_on.new.contents in
    subst (λ (t : Told). Follows t c.args.commit.now (told_by c.self.inside.key new.here new.records.rows new.counts new.subscriptions.items)) (ap (λ (k : Kept). k.told) c.self.view_is)
    (acted c.self.inside.key c.args.commit.now old.here new.here old.records.rows new.records.rows old.counts new.counts old.subscriptions.items new.subscriptions.items
    c.in_ok-act_on.ensures.zone c.in_ok-act_on.ensures.subscriptions c.in_ok-act_on.ensures.counts)
