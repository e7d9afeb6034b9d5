-- Which operations are built.
use Rattle.std.specs.Prelude.{Bool, Option, None, Some, is_some}
use Rattle.ck_base.specs.declared.route.Operation.{Operation}
use Rattle.ck_base.specs.declared.route.Operation.TheVariants.{RecordsModify, RecordsLookup, RecordsQuery, RecordsResolve, RecordsAccept}
use Rattle.ck_base.specs.declared.route.Operation.TheVariants.{ZonesList, ZonesLookup, ZonesModify, ChangesZone, ChangesDatabase}
use Rattle.ck_base.specs.declared.route.Operation.TheVariants.{SubscriptionsList, SubscriptionsLookup, SubscriptionsModify, SubscriptionsNotices}
use Rattle.wire_calls.specs.declared.built.CallKind.{CallKind}
use Rattle.wire_calls.specs.declared.built.CallKind.TheVariants.{ModifyRecords, LookupRecords}

-- the kind of call that an operation is, where it is built
abbrev pub kind_of : Operation → Option CallKind
kind_of RecordsModify = Some ModifyRecords
kind_of RecordsLookup = Some LookupRecords
kind_of RecordsQuery = None
kind_of RecordsResolve = None
kind_of RecordsAccept = None
kind_of ZonesList = None
kind_of ZonesLookup = None
kind_of ZonesModify = None
kind_of ChangesZone = None
kind_of ChangesDatabase = None
kind_of SubscriptionsList = None
kind_of SubscriptionsLookup = None
kind_of SubscriptionsModify = None
kind_of SubscriptionsNotices = None

abbrev pub is_built_operation : Operation → Bool
is_built_operation operation = is_some (kind_of operation)
