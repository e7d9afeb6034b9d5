-- Which participants a list of them in a request wants.
-- Their form is this project's own.
use Rattle.std.specs.Prelude.{ℕ, Bool, true, false, if◌then◌else◌, List, codes, Option, None, Some, option_and_then, ok_or, Result, Ok, Err}
use Rattle.serde_json.specs.Data.{Data, Items}
use Rattle.serde_json.specs.Find.{as_str, as_array}
use Rattle.field_values.specs.Members.{found, elements}
use Rattle.field_values.specs.References.{name_in}
use Rattle.field_values.specs.Results.{result_map}
use Rattle.share_records.specs.declared.permission.Permission.{Permission}
use Rattle.share_records.specs.declared.participant.PartKind.{PartKind}
use Rattle.share_records.specs.declared.participant.Wanted.{Wanted}
use Rattle.record_model.specs.DraftForms.{may_have}
use Rattle.ck_records.specs.declared.spellings.EntryType.{EntryType}
use Rattle.ck_records.specs.declared.spellings.EntryType.TheVariants.{Owner, Listed}
use Rattle.ck_records.specs.declared.fault.RecordFault.{RecordFault}
use Rattle.ck_records.specs.declared.fault.RecordFault.TheVariants.{BadKey}
use Rattle.ck_records.specs.declared.fault.RecordKey.TheVariants.{Participants}
use Rattle.ck_records.specs.Spellings.{permission_named, type_named}
use Rattle.ck_records.specs.Sequence.{each_found}

-- whom an entry is for, a user of the owner's choice where it has no type
abbrev pub type_in : Option Data → Option EntryType
type_in None = Some (Listed PartKind.Member)
type_in (Some d) = option_and_then type_named (as_str d)

-- without a permission it is READ_ONLY
abbrev pub permission_in : Option Data → Option Permission
permission_in None = Some Permission.ReadOnly
permission_in (Some d) = option_and_then permission_named (as_str d)

-- the JSON of the user's name
abbrev pub user_data : Data → Option Data
user_data d = option_and_then (found (codes "userRecordName")) (found (codes "userIdentity") d)

-- the participant of these, if they are all there and go together
abbrev pub wanted_of : PartKind → Option (List ℕ) → Option Permission → Option Wanted
wanted_of kind None permission = None
wanted_of kind (Some user) None = None
wanted_of kind (Some user) (Some permission) =
    if may_have kind permission then Some (record { user = user; kind = kind; permission = permission }) else None

-- an entry for the owner wants nothing, and no more of it is looked at
abbrev pub entry_as : Data → Option EntryType → Result (Option Wanted) RecordFault
entry_as d None = Err (BadKey Participants)
entry_as d (Some Owner) = Ok None
entry_as d (Some (Listed kind)) =
    result_map Some (ok_or (wanted_of kind (name_in (user_data d)) (permission_in (found (codes "permission") d))) (BadKey Participants))

abbrev pub entry_of : Data → Result (Option Wanted) RecordFault
entry_of d = entry_as d (type_in (found (codes "type") d))

-- the participants that entries want
abbrev pub entries_of : List Data → Result (List Wanted) RecordFault
entries_of = each_found entry_of

abbrev pub list_in : Option Items → Result (List Wanted) RecordFault
list_in None = Err (BadKey Participants)
list_in (Some ds) = entries_of (elements ds)

-- the list, if there is one
abbrev pub participants_at : Option Data → Result (Option (List Wanted)) RecordFault
participants_at None = Ok None
participants_at (Some d) = result_map Some (list_in (as_array d))
