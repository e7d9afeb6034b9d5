use Rattle.zone_laws.proofs.FollowLaws.{pages_hold}
use Rattle.zone_laws.proofs.laws.pages_hold.Goals as goal

pub returns : goal.returns
returns c = pages_hold
