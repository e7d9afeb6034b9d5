use Rattle.http_front.proofs.RouteLemmas.{spelled_routed, routed_spelled}
use Rattle.http_front.proofs.laws.routes_are_spelled_paths.Goals as goal

pub returns-clause-routed : goal.returns-clause-routed
returns-clause-routed c method target r = spelled_routed method target r

pub returns-clause-spelled : goal.returns-clause-spelled
returns-clause-spelled c method target r = routed_spelled method target r
