-- The JSON of a record in a reply.
-- It is the one of "Record Dictionary" in the CloudKit Web Services Reference; the meaning of parent, share and forRecord, and the
-- participants, are this project's own.
use Rattle.std.specs.Prelude.{ℕ, Bool, true, List, [], ◌∷◌, ◌++◌, map, fold, codes, decimal, Option, None, Some, option_map}
use Rattle.serde_json.specs.Data.{Data, unsigned, number, string, array, object, Members, no_members, member, put}
use Rattle.serde_json.specs.View.{items_of}
use Rattle.record_model.specs.declared.value.Value.{Value}
use Rattle.field_values.specs.Writing.{field_data}
use Rattle.share_records.specs.declared.permission.Permission.{Permission}
use Rattle.share_records.specs.declared.participant.PartKind.{PartKind}
use Rattle.share_records.specs.declared.participant.Participant.{Participant}
use Rattle.share_records.specs.declared.share.Share.{Share as ShareOf}
use Rattle.record_model.specs.declared.records.Stamp.{Stamp}
use Rattle.record_model.specs.declared.records.Record.{Record}
use Rattle.record_model.specs.RecordForms.{share_in}
use Rattle.ck_records.specs.Objects.{object_of}
use Rattle.ck_records.specs.Spellings.{permission_name, kind_name, status_name}

-- when and by whom a record was written
abbrev pub stamp_data : Stamp → Data
stamp_data s = object (member (codes "timestamp") (number (unsigned s.moment)) (member (codes "userRecordName") (string s.user) no_members))

-- an object with the name of another record
abbrev pub named_data : List ℕ → Data
named_data name = object (member (codes "recordName") (string name) no_members)

-- the fields as members, each in its place by name
abbrev pub fields_members : Bool → List (List ℕ × Value) → Members
fields_members as_text fields = fold (λ ms field. put field.0 (field_data as_text field.1) ms) no_members fields

-- ---- participants

abbrev pub user_named : List ℕ → Data
user_named user = object (member (codes "userRecordName") (string user) no_members)

-- whom an entry is for, its type given by name, and what they may do
abbrev pub wanted_members : Permission → List ℕ → List ℕ → List (List ℕ × Option Data)
wanted_members permission type user =
    (codes "permission", Some (string (permission_name permission)))
    ∷ (codes "type", Some (string type))
    ∷ (codes "userIdentity", Some (user_named user))
    ∷ []

-- an entry
abbrev pub entry_data : Bool → Permission → List ℕ → List ℕ → Data
entry_data accepted permission type user = object_of ((codes "acceptanceStatus", Some (string (status_name accepted))) ∷ wanted_members permission type user)

abbrev pub owner_data : List ℕ → Data
owner_data owner = entry_data true Permission.ReadWrite (codes "OWNER") owner

-- what is shown of a permission: who accepted an open share has what everyone has
abbrev pub permission_shown : PartKind → Permission → Permission → Permission
permission_shown PartKind.Member given public = given
permission_shown PartKind.Public given public = public

abbrev pub participant_data : Permission → Participant → Data
participant_data public p = entry_data p.accepted (permission_shown p.kind p.permission public) (kind_name p.kind) p.user

-- the owner first, then the others as they stand
abbrev pub participants_data : List ℕ → ShareOf → Data
participants_data owner s = array (items_of (owner_data owner ∷ map (participant_data s.public) s.participants))

-- ---- the record

-- the members in ascending order of their names, in three rows; those of a share stand for a share alone
abbrev pub first_members : Bool → Record → List (List ℕ × Option Data)
first_members as_text r =
    (codes "created", Some (stamp_data r.created))
    ∷ (codes "fields", Some (object (fields_members as_text r.fields)))
    ∷ (codes "forRecord", option_map (λ (s : ShareOf). named_data s.root) (share_in r.body))
    ∷ (codes "modified", Some (stamp_data r.modified))
    ∷ []

abbrev pub middle_members : List ℕ → Record → List (List ℕ × Option Data)
middle_members owner r =
    (codes "parent", option_map named_data r.parent)
    ∷ (codes "participants", option_map (participants_data owner) (share_in r.body))
    ∷ (codes "publicPermission", option_map (λ (s : ShareOf). string (permission_name s.public)) (share_in r.body))
    ∷ (codes "recordChangeTag", Some (string (decimal r.tag)))
    ∷ []

abbrev pub last_members : Record → List (List ℕ × Option Data)
last_members r =
    (codes "recordName", Some (string r.name))
    ∷ (codes "recordType", Some (string r.rtype))
    ∷ (codes "share", option_map named_data r.share)
    ∷ (codes "shortGUID", option_map (λ (s : ShareOf). string s.guid) (share_in r.body))
    ∷ []

abbrev pub record_members : List ℕ → Bool → Record → List (List ℕ × Option Data)
record_members owner as_text r = first_members as_text r ++ middle_members owner r ++ last_members r

abbrev pub record_data : List ℕ → Bool → Record → Data
record_data owner as_text r = object_of (record_members owner as_text r)
