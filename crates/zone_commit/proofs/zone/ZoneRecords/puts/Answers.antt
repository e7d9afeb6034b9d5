use Rattle.std.proofs.Common.{ap, sym, ◌∙◌}
use Rattle.zone_records.specs.Told.{puts_told}
use Rattle.zone_commit.specs.Kept.{Kept}
use Rattle.zone_commit.proofs.KeptLemmas.{count-told}
use Rattle.zone_commit.proofs.zone.ZoneRecords.puts.Goals as goal

pub returns : goal.returns
returns c = c.count_at.ensures ∙ sym (count-told c.self.inside.contents.counts c.args.name.now) ∙ ap (λ (k : Kept). puts_told k.told c.args.name.now) c.self.view_is
