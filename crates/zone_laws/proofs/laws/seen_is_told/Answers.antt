use Rattle.zone_laws.proofs.FollowLaws.{seen_is_told}
use Rattle.zone_laws.proofs.laws.seen_is_told.Goals as goal

pub returns : goal.returns
returns c = seen_is_told
