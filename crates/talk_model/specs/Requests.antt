-- What is wanted of a request, and by whom.
use Rattle.std.specs.Prelude.{◌≡◌, ℕ, Bool, true, false, ◌&&◌, List, Option, None, Some, option_map, Result, Ok, Err, if◌then◌else◌}
use Rattle.std.specs.List.{list_all}
use Rattle.std.specs.Result.{result_map_both, result_flatten}
use Rattle.std.specs.Str.{is_utf8}
use Rattle.serde_json.specs.Data.{Data}
use Rattle.serde_json.specs.Read.{read}
use Rattle.ck_base.specs.KnownNames.{is_own_default}
use Rattle.ck_base.specs.declared.route.Database.{Database}
use Rattle.ck_base.specs.declared.route.Database.TheVariants.{Private, Shared, Public}
use Rattle.ck_base.specs.declared.route.Route.{Route}
use Rattle.plain_creates.specs.PlainCreates.{is_plain_create}
use Rattle.error_replies.specs.declared.errors.ServerError.{ServerError}
use Rattle.error_replies.specs.declared.errors.ServerError.TheVariants.{BadRequest, AuthenticationFailed, AuthenticationRequired}
use Rattle.wire_calls.specs.declared.call.Call.{Call}
use Rattle.wire_calls.specs.declared.call.Call.TheVariants.{Modify, Lookup}
use Rattle.wire_calls.specs.declared.fault.BadCall.{BadCall}
use Rattle.wire_calls.specs.declared.fault.BadCall.TheVariants.{NotBuilt}
use Rattle.wire_calls.specs.Built.{is_built_operation}
use Rattle.wire_calls.specs.Calls.{call_of}
use Rattle.talk_model.specs.declared.wants.Sender.{Sender}
use Rattle.talk_model.specs.declared.wants.Want.{Want}
use Rattle.talk_model.specs.declared.wants.Want.TheVariants.{Refused, Called}
use Rattle.http_front.specs.declared.request.Request.{Request}
use Rattle.http_front.specs.declared.route.RouteFault.{RouteFault}
use Rattle.http_front.specs.declared.caller.CallerFault.{CallerFault}
use Rattle.http_front.specs.declared.caller.CallerFault.TheVariants.{Failed, Required, NoMemory}
use Rattle.http_front.specs.Users.{Table}
use Rattle.http_front.specs.Routes.{route_of}
use Rattle.http_front.specs.Callers.{caller_of}
use Rattle.http_front.specs.Requests.{IsRequest}
use Rattle.http_front.specs.Laws.{HasRequest}

-- what is wanted, and whether the connection is to be closed behind the reply
pub record Meaning : Type 0 where
  pub close : Bool
  pub want : Want

-- ---- the refusals ahead of the body

-- why a target has no caller; no target has none for want of memory
abbrev pub error_of_caller : CallerFault → ServerError
error_of_caller Failed = AuthenticationFailed
error_of_caller Required = AuthenticationRequired
error_of_caller NoMemory = AuthenticationFailed

abbrev pub sender_with : Route → Result (List ℕ) CallerFault → Result Sender ServerError
sender_with route caller = result_map_both (λ (user : List ℕ). record { route = route; user = user }) error_of_caller caller

-- the route comes before the tokens
abbrev pub sender_in : Table → Request → Result Sender ServerError
sender_in t r =
    result_flatten (result_map_both (λ (route : Route). sender_with route (caller_of t r.target)) (λ (fault : RouteFault). BadRequest) (route_of r.method r.target))

-- ---- what is built

abbrev pub is_private : Database → Bool
is_private Private = true
is_private Shared = false
is_private Public = false

-- operations of the private database that are built
abbrev pub is_built_route : Route → Bool
is_built_route route = is_private route.database && is_built_operation route.operation

-- calls of the caller's default zone in the private database, and of those that modify creates of records that go with no other
abbrev pub is_built : Call → Bool
is_built (Modify c) = is_private c.database && (is_own_default c.caller c.zone && list_all is_plain_create c.ops)
is_built (Lookup c) = is_private c.database && is_own_default c.caller c.zone

-- ---- the body

-- the JSON that bytes are (RFC 8259), as `serde_json` reads it, if they are any
abbrev pub json_of : List ℕ → Option Data
json_of bytes = if is_utf8 bytes then read bytes else None

abbrev pub want_of_call : Result Call BadCall → Option Want
want_of_call (Err NotBuilt) = None
want_of_call (Err fault) = Some (Refused BadRequest)
want_of_call (Ok call) = if is_built call then Some (Called call) else None

abbrev pub want_by : Result Sender ServerError → Option Data → Option Want
want_by (Err error) json = Some (Refused error)
want_by (Ok caller) json = if is_built_route caller.route then want_of_call (call_of caller.route caller.user json) else None

-- what is wanted of a request, or nothing where its form is not built
abbrev pub want_of : Table → Request → Option Want
want_of t r = want_by (sender_in t r) (json_of r.body)

-- what is wanted of it, and whether it asks to close
abbrev pub meaning_of : Table → Request → Option Meaning
meaning_of t r = option_map (λ (want : Want). record { close = r.close; want = want }) (want_of t r)

-- The bytes are a whole request, of which this is wanted.
abbrev pub Wants : Table → List ℕ → Meaning → Type 0
Wants t bytes wanted = (request : Request) × IsRequest bytes request × (meaning_of t request ≡ Some wanted)

-- A request stands at the front of the bytes, of which this is wanted, or whose form is not built.
abbrev pub HasInFront : Table → List ℕ → Option Meaning → Type 0
HasInFront t bytes wanted = (request : Request) × HasRequest bytes request × (meaning_of t request ≡ wanted)
