-- What a request asks for, by its method and its target: "Composing Web Service Requests" in the CloudKit Web Services Reference, over
-- the path and the query of RFC 3986, section 3.
use Rattle.std.specs.Prelude.{◌≡◌, ℕ, ◌+◌, ◌<◌, Bool, true, false, not, ◌&&◌, ◌||◌, ◌==◌, List, ◌∷◌, ◌++◌, length, take, drop, codes, Option, None}
use Rattle.std.specs.Prelude.{Some, Result, Ok, Err, if◌then◌else◌, option_map, option_and_then}
use Rattle.std.specs.List.{position, list_any}
use Rattle.std.specs.Str.{bytes_eq, is_utf8}
use Rattle.ck_base.specs.declared.route.Database.{Database}
use Rattle.ck_base.specs.declared.route.Database.TheVariants.{Private, Shared, Public}
use Rattle.ck_base.specs.declared.route.Operation.{Operation}
use Rattle.ck_base.specs.declared.route.Operation.TheVariants.{RecordsModify, RecordsLookup, RecordsQuery, RecordsResolve, RecordsAccept, ZonesList}
use Rattle.ck_base.specs.declared.route.Operation.TheVariants.{ZonesLookup, ZonesModify, ChangesZone, ChangesDatabase, SubscriptionsList}
use Rattle.ck_base.specs.declared.route.Operation.TheVariants.{SubscriptionsLookup, SubscriptionsModify, SubscriptionsNotices}
use Rattle.ck_base.specs.declared.route.Route.{Route}
pub use Rattle.http_front.specs.Environments.{is_environment}
use Rattle.http_front.specs.declared.route.RouteFault.{RouteFault}
use Rattle.http_front.specs.declared.route.RouteFault.TheVariants.{NoRoute}

-- the bytes before that place, or all of them
abbrev pub before : List ℕ → Option ℕ → List ℕ
before bytes None = bytes
before bytes (Some at) = take at bytes

-- the path of a target, which its first question mark ends
abbrev pub path_of : List ℕ → List ℕ
path_of target = before target (position (λ b. b == 63) target)

-- what stands before the first slash, and behind it
abbrev pub cut : List ℕ → Option (List ℕ × List ℕ)
cut bytes = option_map (λ at. (take at bytes, drop (at + 1) bytes)) (position (λ b. b == 47) bytes)

-- the segments of a path behind its first two words
pub record Segments : Type 0 where
  pub container : List ℕ
  pub environment : List ℕ
  pub database : List ℕ
  pub group : List ℕ
  pub name : List ℕ

-- the database that a segment names
abbrev pub database_of : List ℕ → Option Database
database_of word =
    if bytes_eq word (codes "private") then Some Private
    else (if bytes_eq word (codes "shared") then Some Shared
    else (if bytes_eq word (codes "public") then Some Public else None))

abbrev pub records_call : List ℕ → Option Operation
records_call name =
    if bytes_eq name (codes "modify") then Some RecordsModify
    else (if bytes_eq name (codes "lookup") then Some RecordsLookup
    else (if bytes_eq name (codes "query") then Some RecordsQuery
    else (if bytes_eq name (codes "resolve") then Some RecordsResolve
    else (if bytes_eq name (codes "accept") then Some RecordsAccept else None))))

abbrev pub zones_call : List ℕ → Option Operation
zones_call name =
    if bytes_eq name (codes "list") then Some ZonesList
    else (if bytes_eq name (codes "lookup") then Some ZonesLookup
    else (if bytes_eq name (codes "modify") then Some ZonesModify else None))

abbrev pub changes_call : List ℕ → Option Operation
changes_call name =
    if bytes_eq name (codes "zone") then Some ChangesZone
    else (if bytes_eq name (codes "database") then Some ChangesDatabase else None)

abbrev pub subscriptions_call : List ℕ → Option Operation
subscriptions_call name =
    if bytes_eq name (codes "list") then Some SubscriptionsList
    else (if bytes_eq name (codes "lookup") then Some SubscriptionsLookup
    else (if bytes_eq name (codes "modify") then Some SubscriptionsModify
    else (if bytes_eq name (codes "notices") then Some SubscriptionsNotices else None)))

-- the operation that the last two segments name
abbrev pub operation_of : List ℕ → List ℕ → Option Operation
operation_of group name =
    if bytes_eq group (codes "records") then records_call name
    else (if bytes_eq group (codes "zones") then zones_call name
    else (if bytes_eq group (codes "changes") then changes_call name
    else (if bytes_eq group (codes "subscriptions") then subscriptions_call name else None)))

-- an operation that only reads a whole list takes no body
abbrev pub is_list : Operation → Bool
is_list RecordsModify = false
is_list RecordsLookup = false
is_list RecordsQuery = false
is_list RecordsResolve = false
is_list RecordsAccept = false
is_list ZonesList = true
is_list ZonesLookup = false
is_list ZonesModify = false
is_list ChangesZone = false
is_list ChangesDatabase = false
is_list SubscriptionsList = true
is_list SubscriptionsLookup = false
is_list SubscriptionsModify = false
is_list SubscriptionsNotices = false

-- an operation on share links
abbrev pub is_on_links : Operation → Bool
is_on_links RecordsModify = false
is_on_links RecordsLookup = false
is_on_links RecordsQuery = false
is_on_links RecordsResolve = true
is_on_links RecordsAccept = true
is_on_links ZonesList = false
is_on_links ZonesLookup = false
is_on_links ZonesModify = false
is_on_links ChangesZone = false
is_on_links ChangesDatabase = false
is_on_links SubscriptionsList = false
is_on_links SubscriptionsLookup = false
is_on_links SubscriptionsModify = false
is_on_links SubscriptionsNotices = false

abbrev pub is_public : Database → Bool
is_public Private = false
is_public Shared = false
is_public Public = true

-- the method of an operation
abbrev pub method_of : Operation → List ℕ
method_of operation = if is_list operation then codes "GET" else codes "POST"

-- the operation has this method, and in the public database share links alone are served
abbrev pub is_served : List ℕ → Database → Operation → Bool
is_served method database operation = bytes_eq method (method_of operation) && (not (is_public database) || is_on_links operation)

-- the route of a database and an operation, where there are both and the operation is served there
abbrev pub served : List ℕ → Option Database → Option Operation → Result Route RouteFault
served method None operation = Err NoRoute
served method (Some database) None = Err NoRoute
served method (Some database) (Some operation) =
    if is_served method database operation then Ok (record { database = database; operation = operation }) else Err NoRoute

-- the route of these segments: a container, an environment, a database and an operation
abbrev pub route_by : List ℕ → Option Segments → Result Route RouteFault
route_by method None = Err NoRoute
route_by method (Some s) =
    if not ((length s.container == 0)) && is_environment s.environment
    then served method (database_of s.database) (operation_of s.group s.name) else Err NoRoute

-- the segments behind the first two words, as the slashes part them
abbrev pub segments_behind : List ℕ → Option Segments
segments_behind bytes =
    option_and_then (λ c. option_and_then (λ e. option_and_then (λ d. option_map
    (λ g. record { container = c.0; environment = e.0; database = d.0; group = g.0; name = g.1 })
    (cut d.1)) (cut e.1)) (cut c.1)) (cut bytes)

-- the segments of a path that is UTF-8 and begins with the service's two words
abbrev pub segments_of : List ℕ → Option Segments
segments_of path =
    if is_utf8 path && bytes_eq (take 12 path) (codes "/database/1/") then segments_behind (drop 12 path) else None

-- the route of a request
abbrev pub route_of : List ℕ → List ℕ → Result Route RouteFault
route_of method target = route_by method (segments_of (path_of target))

-- the segment that names a database
abbrev pub database_word : Database → List ℕ
database_word Private = codes "private"
database_word Shared = codes "shared"
database_word Public = codes "public"

-- the two segments that name an operation
abbrev pub group_word : Operation → List ℕ
group_word RecordsModify = codes "records"
group_word RecordsLookup = codes "records"
group_word RecordsQuery = codes "records"
group_word RecordsResolve = codes "records"
group_word RecordsAccept = codes "records"
group_word ZonesList = codes "zones"
group_word ZonesLookup = codes "zones"
group_word ZonesModify = codes "zones"
group_word ChangesZone = codes "changes"
group_word ChangesDatabase = codes "changes"
group_word SubscriptionsList = codes "subscriptions"
group_word SubscriptionsLookup = codes "subscriptions"
group_word SubscriptionsModify = codes "subscriptions"
group_word SubscriptionsNotices = codes "subscriptions"

abbrev pub name_word : Operation → List ℕ
name_word RecordsModify = codes "modify"
name_word RecordsLookup = codes "lookup"
name_word RecordsQuery = codes "query"
name_word RecordsResolve = codes "resolve"
name_word RecordsAccept = codes "accept"
name_word ZonesList = codes "list"
name_word ZonesLookup = codes "lookup"
name_word ZonesModify = codes "modify"
name_word ChangesZone = codes "zone"
name_word ChangesDatabase = codes "database"
name_word SubscriptionsList = codes "list"
name_word SubscriptionsLookup = codes "lookup"
name_word SubscriptionsModify = codes "modify"
name_word SubscriptionsNotices = codes "notices"

-- the path of a route, in a container and an environment
abbrev pub route_path : List ℕ → List ℕ → Route → List ℕ
route_path container environment r =
    codes "/database/1/" ++ (container ++ 47 ∷ (environment ++ 47 ∷ (database_word r.database ++ 47 ∷ (group_word r.operation ++ 47 ∷ name_word r.operation))))

-- there is a slash
abbrev pub has_slash : List ℕ → Bool
has_slash bytes = list_any (λ b. b == 47) bytes

-- The path is UTF-8 and that of the route, in some container and environment, and the route is served under that method.
pub record IsRouted (method path : List ℕ) (r : Route) : Type 0 where
  pub text : is_utf8 path ≡ true
  pub container : List ℕ
  pub environment : List ℕ
  pub spelled : path ≡ route_path container environment r
  pub some : 0 < length container
  pub whole : has_slash container ≡ false
  pub known : is_environment environment ≡ true
  pub serves : is_served method r.database r.operation ≡ true

-- such a path has its route
abbrev pub SpelledAreRouted : Type 0
SpelledAreRouted = (method target : List ℕ) (r : Route) → IsRouted method (path_of target) r → route_of method target ≡ Ok r

-- and each route is that of such a path
abbrev pub RoutedAreSpelled : Type 0
RoutedAreSpelled = (method target : List ℕ) (r : Route) → route_of method target ≡ Ok r → IsRouted method (path_of target) r
