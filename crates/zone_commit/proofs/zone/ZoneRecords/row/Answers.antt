use Rattle.std.proofs.Common.{◌≡◌, false, ap, ◌∙◌}
use Rattle.zone_model.specs.Records.{record_at}
use Rattle.zone_commit.specs.Kept.{Kept}
use Rattle.zone_commit.proofs.RowLemmas.{found-row}
use Rattle.zone_commit.proofs.zone.ZoneRecords.row.Goals as goal

pub returns : goal.returns
returns c =
    let live : c.self.inside.spent ≡ false = ap (λ (k : Kept). k.spent) c.self.view_is ∙ c.requires in
    c.get.ensures.value ∙ found-row c.self.inside.contents.records.rows c.args.name.now (c.self.invariant live).linked.rows ∙ ap (λ (k : Kept). record_at k.told.zone.rows c.args.name.now) c.self.view_is
