use Rattle.std.proofs.Common.{◌≡◌, false, ap, ◌∙◌}
use Rattle.ck_base.specs.declared.scope.Scope.TheVariants.{Private}
use Rattle.zone_model.specs.Records.{record_at}
use Rattle.zone_model.specs.Views.{view_of_zone}
use Rattle.zone_commit.specs.Kept.{Kept, zone_by}
use Rattle.zone_commit.proofs.RowLemmas.{found-row}
use Rattle.zone_commit.proofs.KeptLemmas.{seen-by_owner, not-another}
use Rattle.zone_commit.proofs.zone.Zone.lookup.Goals as goal

pub returns : goal.returns
returns c =
    let zone = c.self.inside in
    let live : zone.spent ≡ false = ap (λ (k : Kept). k.spent) c.self.view_is ∙ c.requires in
    c.get.ensures.value ∙ found-row zone.contents.records.rows c.args.name.now (c.self.invariant live).linked.rows
    ∙ seen-by_owner (zone_by zone.contents.here zone.contents.records.rows) c.args.user.now zone.key c.args.name.now
    (not-another c.ne.result c.as_bytes.result.now c.as_bytes-2.result.now c.args.user.now zone.key.owner c.ne.ensures c.if-ne.false c.as_bytes.ensures.bytes c.as_bytes-2.ensures.bytes) c.if-not-self.false
    ∙ ap (λ (k : Kept). record_at (view_of_zone k.told.zone c.args.user.now Private k.told.key).rows c.args.name.now) c.self.view_is
