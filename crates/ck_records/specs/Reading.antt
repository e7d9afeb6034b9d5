-- Which draft the JSON of a record in a request means, or the first fault.
-- It is the one of "Record Dictionary" in the CloudKit Web Services Reference; the meaning of parent, share and forRecord, and the
-- participants, are this project's own.
use Rattle.std.specs.Prelude.{ℕ, Bool, if◌then◌else◌, List, codes, Option, None, Some, is_some, option_map, option_and_then, ok_or, Result, Ok, Err}
use Rattle.serde_json.specs.Data.{Data}
use Rattle.serde_json.specs.Find.{get, as_str, as_object}
use Rattle.ck_base.specs.declared.key.ZoneKey.{ZoneKey}
use Rattle.record_model.specs.declared.value.Value.{Value}
use Rattle.field_values.specs.Members.{unless_null, found}
use Rattle.field_values.specs.References.{name_in}
use Rattle.field_values.specs.Results.{result_map}
use Rattle.share_records.specs.declared.permission.Permission.{Permission}
use Rattle.share_records.specs.declared.participant.Wanted.{Wanted}
use Rattle.record_model.specs.declared.draft.ParentWish.{ParentWish}
use Rattle.record_model.specs.declared.draft.ParentWish.TheVariants.{Absent, Null, To}
use Rattle.record_model.specs.declared.draft.ForRoot.{ForRoot}
use Rattle.record_model.specs.declared.draft.Draft.{Draft}
use Rattle.ck_records.specs.declared.fault.RecordKey.{RecordKey}
use Rattle.ck_records.specs.declared.fault.RecordKey.TheVariants.{RecordName, RecordType, RecordChangeTag, Parent, ForRecord, PublicPermission}
use Rattle.ck_records.specs.declared.fault.RecordFault.{RecordFault}
use Rattle.ck_records.specs.declared.fault.RecordFault.TheVariants.{NotARecord, BadKey}
use Rattle.ck_records.specs.Spellings.{permission_named}
use Rattle.ck_records.specs.Participants.{participants_at}
use Rattle.ck_records.specs.DraftFields.{fields_at}
use Rattle.ck_records.specs.Sequence.{◌>>=◌}

-- ---- the members, one by one; each is absent where it is null, but for the parent

-- a text that is a name
abbrev pub name_at : RecordKey → Option Data → Result (Option (List ℕ)) RecordFault
name_at key None = Ok None
name_at key (Some d) = result_map Some (ok_or (name_in (Some d)) (BadKey key))

-- any text
abbrev pub tag_at : Option Data → Result (Option (List ℕ)) RecordFault
tag_at None = Ok None
tag_at (Some d) = result_map Some (ok_or (as_str d) (BadKey RecordChangeTag))

-- an object with recordName
abbrev pub parent_of : Option Data → Result ParentWish RecordFault
parent_of None = Ok Null
parent_of (Some d) = result_map To (ok_or (name_in (found (codes "recordName") d)) (BadKey Parent))

-- null says that there is no parent
abbrev pub parent_at : Option Data → Result ParentWish RecordFault
parent_at None = Ok Absent
parent_at (Some d) = parent_of (unless_null d)

-- any text, or none
abbrev pub tag_in : Option Data → Option (Option (List ℕ))
tag_in None = Some None
tag_in (Some d) = option_map Some (as_str d)

abbrev pub root_of : Option (List ℕ) → Option (Option (List ℕ)) → Option ForRoot
root_of None tag = None
root_of (Some name) None = None
root_of (Some name) (Some tag) = Some (record { name = name; tag = tag })

-- an object with recordName, and perhaps recordChangeTag
abbrev pub root_at : Option Data → Result (Option ForRoot) RecordFault
root_at None = Ok None
root_at (Some d) =
    result_map Some (ok_or (root_of (name_in (found (codes "recordName") d)) (tag_in (found (codes "recordChangeTag") d))) (BadKey ForRecord))

-- the name of a permission
abbrev pub public_at : Option Data → Result (Option Permission) RecordFault
public_at None = Ok None
public_at (Some d) = result_map Some (ok_or (option_and_then permission_named (as_str d)) (BadKey PublicPermission))

-- ---- the record

-- the draft of these members, or the first fault among them
abbrev pub draft_from : Result (Option (List ℕ)) RecordFault → Result (Option (List ℕ)) RecordFault → Result (Option (List ℕ)) RecordFault
    → Result ParentWish RecordFault → Result (Option ForRoot) RecordFault → Result (Option Permission) RecordFault
    → Result (Option (List Wanted)) RecordFault → Result (List (List ℕ × Option Value)) RecordFault → Result Draft RecordFault
draft_from name_read type_read tag_read parent_read root_read public_read participants_read fields_read = do
  name ← name_read
  rtype ← type_read
  tag ← tag_read
  parent ← parent_read
  for_root ← root_read
  public ← public_read
  participants ← participants_read
  fields ← fields_read
  Ok (record { name = name; rtype = rtype; tag = tag; parent = parent; fields = fields; for_root = for_root; public = public; participants = participants })

abbrev pub is_object : Data → Bool
is_object d = is_some (as_object d)

-- an object with these members, of which each may be absent, as the caller writes it into the zone; other members are not looked at
abbrev pub draft_of : ZoneKey → List ℕ → Data → Result Draft RecordFault
draft_of here caller d =
    if is_object d then
    draft_from (name_at RecordName (found (codes "recordName") d)) (name_at RecordType (found (codes "recordType") d))
    (tag_at (found (codes "recordChangeTag") d)) (parent_at (get (codes "parent") d)) (root_at (found (codes "forRecord") d))
    (public_at (found (codes "publicPermission") d)) (participants_at (found (codes "participants") d)) (fields_at here caller (found (codes "fields") d))
    else Err NotARecord
