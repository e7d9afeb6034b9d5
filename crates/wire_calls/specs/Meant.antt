-- The calls that some body means, and reading what was written.
use Rattle.std.specs.Prelude.{◌≡◌, ◌≤◌, ℕ, List, length, Some, IfSome, Ok}
use Rattle.std.specs.List.{AllByRecursion}
use Rattle.ck_base.specs.Names.{IsName}
use Rattle.ck_base.specs.declared.route.Operation.TheVariants.{RecordsModify, RecordsLookup}
use Rattle.ck_base.specs.declared.route.Route.{Route}
use Rattle.field_values.specs.ZoneIds.{IsMeantZone}
use Rattle.zone_model.specs.Limits.{most_items}
use Rattle.zone_model.specs.OpForms.{AreMeantOps}
use Rattle.wire_calls.specs.declared.call.ModifyCall.{ModifyCall}
use Rattle.wire_calls.specs.declared.call.LookupCall.{LookupCall}
use Rattle.wire_calls.specs.declared.call.Call.{Call}
use Rattle.wire_calls.specs.declared.call.Call.TheVariants.{Modify, Lookup}
use Rattle.wire_calls.specs.Calls.{call_of}
use Rattle.wire_calls.specs.CallWriting.{call_data}

-- at most 200 names
abbrev pub AreNames : List (List ℕ) → Type 0
AreNames names = AllByRecursion IsName names × (length names ≤ most_items)

pub record IsMeantModify (c : ModifyCall) : Type 0 where
  pub zone : IsMeantZone c.caller c.zone
  pub ops : AreMeantOps c.ops

pub record IsMeantLookup (c : LookupCall) : Type 0 where
  pub zone : IsMeantZone c.caller c.zone
  pub keys : IfSome c.desired_keys AreNames
  pub names : AreNames c.names

abbrev pub IsMeantCall : Call → Type 0
IsMeantCall (Modify c) = IsMeantModify c
IsMeantCall (Lookup c) = IsMeantLookup c

-- the route of the call, and who makes it
abbrev pub route_of : Call → Route
route_of (Modify c) = record { database = c.database; operation = RecordsModify }
route_of (Lookup c) = record { database = c.database; operation = RecordsLookup }

abbrev pub caller_of : Call → List ℕ
caller_of (Modify c) = c.caller
caller_of (Lookup c) = c.caller

-- the JSON of a call that some body means is read as the call
abbrev pub CallsReadBack : Type 0
CallsReadBack = (c : Call) → IsMeantCall c → call_of (route_of c) (caller_of c) (Some (call_data c)) ≡ Ok c
