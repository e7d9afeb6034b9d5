use Rattle.zone_laws.proofs.FeedLaws.{feeds_lose_nothing}
use Rattle.zone_laws.proofs.laws.feeds_lose_nothing.Goals as goal

pub returns : goal.returns
returns c = feeds_lose_nothing
