use Rattle.zone_laws.proofs.AncestryLaws.{is_ancestor_from, is_ancestor_gives}
use Rattle.zone_laws.proofs.laws.ancestors_are_found.Goals as goal

pub returns : goal.returns
returns c = record { found = is_ancestor_from; others = is_ancestor_gives }
