-- Which call the bytes of a body mean.
use Rattle.std.specs.Prelude.{◌≡◌, ℕ, List, true, is_some, Ok}
use Rattle.serde_json.specs.Data.{Data}
use Rattle.serde_json.specs.Find.{as_object}
use Rattle.ck_base.specs.declared.route.Route.{Route}
use Rattle.wire_calls.specs.declared.call.Call.{Call}
use Rattle.wire_calls.specs.Calls.{has_body, IsBody, by_operation}

-- The body is a JSON object, and has the members of the call of the route's operation that the caller makes. Other members are not
-- looked at. Any body of a GET is read as the empty object.
pub record Means (route : Route) (caller body : List ℕ) (call : Call) : Type 0 where
  pub json : Data
  pub is_body : IsBody (has_body route.operation) body json
  pub is_object : is_some (as_object json) ≡ true
  pub members : by_operation route.database caller route.operation json ≡ Ok call
