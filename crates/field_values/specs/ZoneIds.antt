-- Zone IDs in JSON, as "Zone ID Dictionary" of the CloudKit Web Services Reference has them; the member for the owner is this
-- project's own.
use Rattle.std.specs.Prelude.{◌≡◌, ℕ, if◌then◌else◌, List, codes, bytes_eq, Option, None, Some, option_map}
use Rattle.serde_json.specs.Data.{Data, string, object, no_members, member}
use Rattle.ck_base.specs.Names.{IsName}
use Rattle.ck_base.specs.declared.key.ZoneKey.{ZoneKey}
use Rattle.ck_base.specs.KnownNames.{default_owner}
use Rattle.field_values.specs.Members.{found}
use Rattle.field_values.specs.References.{name_in}

-- the name of an owner; one of them stands for the caller
abbrev pub owner_of : List ℕ → List ℕ → List ℕ
owner_of caller name = if bytes_eq name default_owner then caller else name

-- without an owner it is the caller's
abbrev pub owner_in : List ℕ → Option Data → Option (List ℕ)
owner_in caller None = Some caller
owner_in caller (Some d) = option_map (owner_of caller) (name_in (Some d))

-- the key of both, if they are there
abbrev pub key_of : Option (List ℕ) → Option (List ℕ) → Option ZoneKey
key_of None name = None
key_of (Some owner) None = None
key_of (Some owner) (Some name) = Some (record { owner = owner; zone = name })

-- an object with zoneName, and perhaps ownerRecordName
abbrev pub zone_in : List ℕ → Data → Option ZoneKey
zone_in caller d = key_of (owner_in caller (found (codes "ownerRecordName") d)) (name_in (found (codes "zoneName") d))

abbrev pub zone_data : ZoneKey → Data
zone_data key = object (member (codes "ownerRecordName") (string key.owner) (member (codes "zoneName") (string key.zone) no_members))

-- a name that stands for itself, where the caller gives it
abbrev pub IsMeantOwner : List ℕ → List ℕ → Type 0
IsMeantOwner caller name = IsName name × (owner_of caller name ≡ name)

-- a key that some zone ID of the caller means
pub record IsMeantZone (caller : List ℕ) (key : ZoneKey) : Type 0 where
  pub owner : IsMeantOwner caller key.owner
  pub zone : IsName key.zone
