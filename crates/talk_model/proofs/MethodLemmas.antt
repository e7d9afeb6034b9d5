-- The methods of operations.
use Rattle.std.proofs.Common.{refl}
use Rattle.ck_base.specs.declared.route.Operation.TheVariants.{RecordsModify, RecordsLookup, RecordsQuery, RecordsResolve, RecordsAccept, ZonesList}
use Rattle.ck_base.specs.declared.route.Operation.TheVariants.{ZonesLookup, ZonesModify, ChangesZone, ChangesDatabase, SubscriptionsList}
use Rattle.ck_base.specs.declared.route.Operation.TheVariants.{SubscriptionsLookup, SubscriptionsModify, SubscriptionsNotices}
use Rattle.talk_model.specs.Methods.{PostsHaveBodies}

pub posts_have_bodies : PostsHaveBodies
posts_have_bodies RecordsModify = refl
posts_have_bodies RecordsLookup = refl
posts_have_bodies RecordsQuery = refl
posts_have_bodies RecordsResolve = refl
posts_have_bodies RecordsAccept = refl
posts_have_bodies ZonesList = refl
posts_have_bodies ZonesLookup = refl
posts_have_bodies ZonesModify = refl
posts_have_bodies ChangesZone = refl
posts_have_bodies ChangesDatabase = refl
posts_have_bodies SubscriptionsList = refl
posts_have_bodies SubscriptionsLookup = refl
posts_have_bodies SubscriptionsModify = refl
posts_have_bodies SubscriptionsNotices = refl
