-- References in JSON: an object with recordName, and perhaps action and zoneID.
-- They are those of "Reference Dictionary" in the CloudKit Web Services Reference.
use Rattle.std.specs.Prelude.{ℕ, Bool, true, false, ◌&&◌, if◌then◌else◌, List, [], ◌∷◌, codes, bytes_eq, find, Option, Some, None, option_and_then, Result, Ok, Err}
use Rattle.serde_json.specs.Data.{Data}
use Rattle.serde_json.specs.Find.{as_str}
use Rattle.ck_base.specs.declared.key.ZoneKey.{ZoneKey}
use Rattle.ck_base.specs.KnownNames.{default_owner}
use Rattle.ck_base.specs.Reading.{name_of}
use Rattle.std.specs.Option.{option_map_or}
use Rattle.std.specs.Result.{result_ok}
use Rattle.record_model.specs.declared.value.Action.{Action}
use Rattle.record_model.specs.declared.value.RefTo.{RefTo}
use Rattle.field_values.specs.declared.fault.FieldFault.{FieldFault}
use Rattle.field_values.specs.declared.fault.FieldFault.TheVariants.{WrongValue}
use Rattle.field_values.specs.Members.{found}

abbrev pub action_name : Action → List ℕ
action_name Action.Plain = codes "NONE"
action_name Action.DeleteSelf = codes "DELETE_SELF"
action_name Action.Validate = codes "VALIDATE"

-- the action that has the name
abbrev pub action_named : List ℕ → Option Action
action_named name =
    find (λ action. bytes_eq (action_name action) name) (Action.Plain ∷ Action.DeleteSelf ∷ Action.Validate ∷ [])

-- without an action it is NONE
abbrev pub action_in : Option Data → Option Action
action_in None = Some Action.Plain
action_in (Some d) = option_and_then action_named (as_str d)

-- a text that is a name of a record
abbrev pub name_in : Option Data → Option (List ℕ)
name_in None = None
name_in (Some d) = option_and_then (λ s. result_ok (name_of s)) (as_str d)

-- it is the text
abbrev pub is_text : List ℕ → Option Data → Bool
is_text s None = false
is_text s (Some d) = option_map_or (λ t. bytes_eq t s) (as_str d) false

-- the owner of a zone ID: without one, or as `__defaultOwner__`, it is the caller
abbrev pub is_owner : List ℕ → List ℕ → Option Data → Bool
is_owner owner caller None = bytes_eq caller owner
is_owner owner caller (Some d) =
    if is_text default_owner (Some d) then bytes_eq caller owner else is_text owner (Some d)

-- the zone ID of this zone, or none
abbrev pub is_here : ZoneKey → List ℕ → Option Data → Bool
is_here here caller None = true
is_here here caller (Some id) =
    is_text here.zone (found (codes "zoneName") id)
    && is_owner here.owner caller (found (codes "ownerRecordName") id)

-- the name and the action, if both are there
abbrev pub ref_of : Option (List ℕ) → Option Action → Result RefTo FieldFault
ref_of None action = Err WrongValue
ref_of (Some name) None = Err WrongValue
ref_of (Some name) (Some action) = Ok (record { name = name; action = action })

-- a reference within this zone
abbrev pub reference_of : ZoneKey → List ℕ → Data → Result RefTo FieldFault
reference_of here caller d =
    if is_here here caller (found (codes "zoneID") d)
    then ref_of (name_in (found (codes "recordName") d)) (action_in (found (codes "action") d))
    else Err WrongValue
