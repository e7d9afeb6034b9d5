use Rattle.zone_laws.proofs.FollowLaws.{feeds_tell_all}
use Rattle.zone_laws.proofs.laws.feeds_tell_all.Goals as goal

pub returns : goal.returns
returns c = feeds_tell_all
