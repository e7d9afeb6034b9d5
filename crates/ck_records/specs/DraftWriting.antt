-- The JSON of a draft.
-- It is the one of "Record Dictionary" in the CloudKit Web Services Reference; the meaning of parent, share and forRecord, and the
-- participants, are this project's own.
use Rattle.std.specs.Prelude.{ℕ, ◌==◌, false, if◌then◌else◌, List, [], ◌∷◌, ◌++◌, length, map, fold, codes, Option, None, Some, option_map}
use Rattle.serde_json.specs.Data.{Data, null, string, array, object, Members, no_members, member, put}
use Rattle.serde_json.specs.View.{items_of}
use Rattle.record_model.specs.declared.value.Value.{Value}
use Rattle.field_values.specs.Writing.{field_data}
use Rattle.share_records.specs.declared.permission.Permission.{Permission}
use Rattle.share_records.specs.declared.participant.Wanted.{Wanted}
use Rattle.record_model.specs.declared.draft.ParentWish.{ParentWish}
use Rattle.record_model.specs.declared.draft.ParentWish.TheVariants.{Absent, Null, To}
use Rattle.record_model.specs.declared.draft.ForRoot.{ForRoot}
use Rattle.record_model.specs.declared.draft.Draft.{Draft}
use Rattle.ck_records.specs.Objects.{object_of}
use Rattle.ck_records.specs.Spellings.{permission_name, kind_name}
use Rattle.ck_records.specs.Writing.{named_data, wanted_members}

-- a value, or null for a field that is to go
abbrev pub wish_data : Option Value → Data
wish_data None = object (member (codes "value") null no_members)
wish_data (Some v) = field_data false v

-- the fields as members, each in its place by name
abbrev pub wishes_members : List (List ℕ × Option Value) → Members
wishes_members wishes = fold (λ ms wish. put wish.0 (wish_data wish.1) ms) no_members wishes

-- without fields there is no such member
abbrev pub wishes_data : List (List ℕ × Option Value) → Option Data
wishes_data wishes = if length wishes == 0 then None else Some (object (wishes_members wishes))

abbrev pub parent_data : ParentWish → Option Data
parent_data Absent = None
parent_data Null = Some null
parent_data (To name) = Some (named_data name)

abbrev pub root_data : ForRoot → Data
root_data root = object_of ((codes "recordChangeTag", option_map string root.tag) ∷ (codes "recordName", Some (string root.name)) ∷ [])

abbrev pub wanted_data : Wanted → Data
wanted_data w = object_of (wanted_members w.permission (kind_name w.kind) w.user)

abbrev pub wanted_list_data : List Wanted → Data
wanted_list_data ws = array (items_of (map wanted_data ws))

abbrev pub public_data : Permission → Data
public_data p = string (permission_name p)

-- the members that are given, in ascending order of their names, in two rows
abbrev pub first_members : Draft → List (List ℕ × Option Data)
first_members d =
    (codes "fields", wishes_data d.fields)
    ∷ (codes "forRecord", option_map root_data d.for_root)
    ∷ (codes "parent", parent_data d.parent)
    ∷ (codes "participants", option_map wanted_list_data d.participants)
    ∷ []

abbrev pub last_members : Draft → List (List ℕ × Option Data)
last_members d =
    (codes "publicPermission", option_map public_data d.public)
    ∷ (codes "recordChangeTag", option_map string d.tag)
    ∷ (codes "recordName", option_map string d.name)
    ∷ (codes "recordType", option_map string d.rtype)
    ∷ []

abbrev pub draft_members : Draft → List (List ℕ × Option Data)
draft_members d = first_members d ++ last_members d

abbrev pub draft_data : Draft → Data
draft_data d = object_of (draft_members d)
