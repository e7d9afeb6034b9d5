-- Which call the body of a request means, or the first fault.
use Rattle.std.specs.Prelude.{◌≡◌, ℕ, Bool, true, false, if◌then◌else◌, List, codes, Option, None, Some, is_some, IsUtf8, ok_or, Result, Ok, Err}
use Rattle.std.specs.Result.{result_ok}
use Rattle.serde_json.specs.Data.{Data, object, no_members}
use Rattle.serde_json.specs.Find.{as_object}
use Rattle.serde_json.specs.Read.{read}
use Rattle.ck_base.specs.declared.key.ZoneKey.{ZoneKey}
use Rattle.ck_base.specs.declared.route.Database.{Database}
use Rattle.ck_base.specs.declared.route.Operation.{Operation}
use Rattle.ck_base.specs.declared.route.Operation.TheVariants.{ZonesList, SubscriptionsList}
use Rattle.ck_base.specs.declared.route.Route.{Route}
use Rattle.field_values.specs.Members.{found}
use Rattle.field_values.specs.Results.{result_map}
use Rattle.ck_records.specs.Sequence.{◌>>=◌}
use Rattle.zone_model.specs.declared.operations.Op.{Op}
use Rattle.zone_model.specs.GivenNames.{named_again}
use Rattle.modify_ops.specs.Reading.{list_of}
use Rattle.wire_calls.specs.declared.call.ModifyCall.{ModifyCall}
use Rattle.wire_calls.specs.declared.call.LookupCall.{LookupCall}
use Rattle.wire_calls.specs.declared.call.Call.{Call}
use Rattle.wire_calls.specs.declared.call.Call.TheVariants.{Modify, Lookup}
use Rattle.wire_calls.specs.declared.fault.CallKey.TheVariants.{Atomic, NumbersAsStrings, Operations}
use Rattle.wire_calls.specs.declared.fault.BadCall.{BadCall}
use Rattle.wire_calls.specs.declared.fault.BadCall.TheVariants.{NotJson, BadKey, Twice, NotBuilt}
use Rattle.wire_calls.specs.declared.built.CallKind.{CallKind}
use Rattle.wire_calls.specs.declared.built.CallKind.TheVariants.{ModifyRecords, LookupRecords}
use Rattle.wire_calls.specs.Built.{kind_of, is_built_operation}
use Rattle.wire_calls.specs.Zones.{zone_at}
use Rattle.wire_calls.specs.declared.limits.CallList.TheVariants.{Operations as OperationList, DesiredKeys as KeyList, Records as RecordList}
use Rattle.wire_calls.specs.Members.{flag_at}
use Rattle.wire_calls.specs.Limits.{limited, limited_if}
use Rattle.wire_calls.specs.Listings.{keys_at, records_at}

-- a list of operations, each of which is one
abbrev pub ops_at : ZoneKey → List ℕ → Option Data → Result (List Op) BadCall
ops_at here caller None = Err (BadKey Operations)
ops_at here caller (Some d) = ok_or (result_ok (list_of here caller d)) (BadKey Operations)

-- the operations, unless a name comes again
abbrev pub unless_again : List Op → Option (List ℕ) → Result (List Op) BadCall
unless_again ops None = Ok ops
unless_again ops (Some name) = Err (Twice name)

-- at most 200, of which none names a record or a root again
abbrev pub checked : List Op → Result (List Op) BadCall
checked ops = limited OperationList ops (unless_again ops (named_again ops))

module _ (database : Database) (caller : List ℕ) where
  abbrev pub modify_of : Data → Result ModifyCall BadCall
  modify_of d = do
    zone ← zone_at caller (found (codes "zoneID") d)
    atomic ← flag_at Atomic true (found (codes "atomic") d)
    numbers ← flag_at NumbersAsStrings false (found (codes "numbersAsStrings") d)
    given ← ops_at zone caller (found (codes "operations") d)
    ops ← checked given
    Ok (record { caller = caller; database = database; zone = zone; atomic = atomic; numbers_as_strings = numbers; ops = ops })

  abbrev pub lookup_of : Data → Result LookupCall BadCall
  lookup_of d = do
    zone ← zone_at caller (found (codes "zoneID") d)
    numbers ← flag_at NumbersAsStrings false (found (codes "numbersAsStrings") d)
    keys ← keys_at (found (codes "desiredKeys") d)
    names ← records_at (found (codes "records") d)
    limited_if KeyList keys (limited RecordList names
        (Ok (record { caller = caller; database = database; zone = zone; numbers_as_strings = numbers; desired_keys = keys; names = names })))

  -- the call of a kind that an object is
  abbrev pub call_as : CallKind → Data → Result Call BadCall
  call_as ModifyRecords d = result_map Modify (modify_of d)
  call_as LookupRecords d = result_map Lookup (lookup_of d)

  abbrev pub call_by : Option CallKind → Data → Result Call BadCall
  call_by None d = Err NotBuilt
  call_by (Some kind) d = call_as kind d

  -- the call that an object is
  abbrev pub by_operation : Operation → Data → Result Call BadCall
  by_operation operation d = call_by (kind_of operation) d

-- what is wrong with a body that is no object
abbrev pub no_call : Operation → BadCall
no_call operation = if is_built_operation operation then NotJson else NotBuilt

-- the object, if the JSON of a body is one
abbrev pub object_in : Option Data → Option Data
object_in None = None
object_in (Some d) = if is_some (as_object d) then Some d else None

abbrev pub of_object : Route → List ℕ → Option Data → Result Call BadCall
of_object route caller None = Err (no_call route.operation)
of_object route caller (Some d) = by_operation route.database caller route.operation d

-- operations whose method is POST; the others list all that there is, by GET
abbrev pub has_body : Operation → Bool
has_body ZonesList = false
has_body SubscriptionsList = false
has_body _ = true

-- the object that a body means: for a GET, whatever its body is, the empty one
abbrev pub object_for : Bool → Option Data → Option Data
object_for true json = object_in json
object_for false json = Some (object no_members)

-- an object with the members of the route's operation; other members are not looked at
abbrev pub call_of : Route → List ℕ → Option Data → Result Call BadCall
call_of route caller json = of_object route caller (object_for (has_body route.operation) json)

-- The bytes are JSON, as `serde_json` reads it (RFC 8259).
pub record IsJson (bytes : List ℕ) (d : Data) : Type 0 where
  pub text : IsUtf8 bytes
  pub reads : read bytes ≡ Some d

-- the JSON that a body is read as: its own, or for a GET the empty object
abbrev pub IsBody : Bool → List ℕ → Data → Type 0
IsBody true body d = IsJson body d
IsBody false body d = d ≡ object no_members
