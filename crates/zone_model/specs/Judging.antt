-- The judgement of a request.
use Rattle.std.specs.Prelude.{Bool, List, [], map, Option, Some, if◌then◌else◌, unwrap_or, is_some}
use Rattle.std.specs.List.{list_any, zip}
use Rattle.record_model.specs.declared.view.View.{View}
use Rattle.zone_model.specs.declared.operations.Past.{Past}
use Rattle.zone_model.specs.declared.outcomes.OpFault.{OpFault}
use Rattle.zone_model.specs.declared.outcomes.OpFault.TheVariants.{Atomic}
use Rattle.zone_model.specs.Views.{fronts}
use Rattle.zone_model.specs.Requests.{Caller, NamedOp, is_deletion, names_put}
use Rattle.zone_model.specs.Grounds.{Grounds, grounds_of}
use Rattle.zone_model.specs.PutChecks.{fault_of_put}
use Rattle.zone_model.specs.DeletionChecks.{fault_of_deletion}

-- the first check that fails for an operation, if one does, where these come before it in the request
abbrev pub fault_behind : Grounds → List NamedOp → NamedOp → Option OpFault
fault_behind g before op =
    if is_deletion op.kind then fault_of_deletion g op
    else fault_of_put g op (names_put before)

-- that of each operation, by those before it
abbrev pub faults_of : Grounds → List NamedOp → List (Option OpFault)
faults_of g ops = map (λ (x : List NamedOp × NamedOp). fault_behind g x.0 x.1) (zip (fronts ops) ops)

abbrev pub has_fault : List (Option OpFault) → Bool
has_fault faults = list_any is_some faults

-- where one operation has a fault, each without one is refused with it
abbrev pub together : List (Option OpFault) → List (Option OpFault)
together faults = if has_fault faults then map (λ o. Some (unwrap_or o Atomic)) faults else faults

-- what each operation of a request that is judged as one is refused with, if it is
abbrev pub judgement : View → List Past → List NamedOp → Caller → List (Option OpFault)
judgement view pasts ops caller = together (faults_of (grounds_of caller pasts view.rows ops) ops)
