-- Lists in calls: of names, of texts, of zones, and of what is to be done with zones.
use Rattle.std.specs.Prelude.{ℕ, if◌then◌else◌, List, bytes_eq, codes, Option, None, Some, IfSome, IsUtf8, option_and_then, option_map, ok_or, Result, Ok, Err}
use Rattle.std.specs.Result.{result_ok}
use Rattle.serde_json.specs.Data.{Data, Items}
use Rattle.serde_json.specs.Find.{as_array, as_str}
use Rattle.ck_base.specs.Names.{IsName}
use Rattle.ck_base.specs.declared.key.ZoneKey.{ZoneKey}
use Rattle.field_values.specs.Members.{found, elements}
use Rattle.field_values.specs.References.{name_in}
use Rattle.field_values.specs.Results.{result_map, each_or_first_error}
use Rattle.field_values.specs.ZoneIds.{zone_in, IsMeantZone}
use Rattle.wire_calls.specs.declared.lists.Listed.{Listed}
use Rattle.wire_calls.specs.declared.lists.Listed.TheVariants.{FieldNames, RecordsByName, SubscriptionsById}
use Rattle.wire_calls.specs.declared.zone_lists.ZoneOp.{ZoneOp}
use Rattle.wire_calls.specs.declared.zone_lists.ZoneOp.TheVariants.{Make, Remove}
use Rattle.wire_calls.specs.declared.zone_lists.ChangedZone.{ChangedZone}
use Rattle.wire_calls.specs.declared.fault.CallKey.{CallKey}
use Rattle.wire_calls.specs.declared.fault.CallKey.TheVariants.{Operations, DesiredKeys, Records, ShortGuids, Zones, Subscriptions, SyncToken}
use Rattle.wire_calls.specs.declared.fault.BadCall.{BadCall}
use Rattle.wire_calls.specs.declared.fault.BadCall.TheVariants.{BadKey}
use Rattle.wire_calls.specs.Members.{text_at, limit_at, IsPageLimit}

-- what the elements of a list are, each of which has to be one; what is no list is wrong too
abbrev pub each_in : {A : Type 0} → CallKey → (Data → Option A) → Option Items → Result (List A) BadCall
each_in key one None = Err (BadKey key)
each_in key one (Some ds) = each_or_first_error (λ d. ok_or (one d) (BadKey key)) (elements ds)

-- ---- names and texts

-- the name that an element of a list has: a text, or a member of an object
abbrev pub listed_name : Listed → Data → Option (List ℕ)
listed_name FieldNames d = name_in (Some d)
listed_name RecordsByName d = name_in (found (codes "recordName") d)
listed_name SubscriptionsById d = name_in (found (codes "subscriptionID") d)

-- names of fields, if there is a list of them
abbrev pub keys_at : Option Data → Result (Option (List (List ℕ))) BadCall
keys_at None = Ok None
keys_at (Some d) = result_map Some (each_in DesiredKeys (listed_name FieldNames) (as_array d))

-- the names of records
abbrev pub records_at : Option Data → Result (List (List ℕ)) BadCall
records_at o = each_in Records (listed_name RecordsByName) (option_and_then as_array o)

-- the IDs of subscriptions
abbrev pub subscriptions_at : Option Data → Result (List (List ℕ)) BadCall
subscriptions_at o = each_in Subscriptions (listed_name SubscriptionsById) (option_and_then as_array o)

-- the text of a short GUID, whatever it is
abbrev pub guid_in : Data → Option (List ℕ)
guid_in d = option_and_then as_str (found (codes "value") d)

abbrev pub guids_at : Option Data → Result (List (List ℕ)) BadCall
guids_at o = each_in ShortGuids guid_in (option_and_then as_array o)

-- ---- zones

-- what an operation of this type does with a zone
abbrev pub zone_op_as : List ℕ → ZoneKey → Option ZoneOp
zone_op_as kind key =
    if bytes_eq kind (codes "create") then Some (Make key)
    else (if bytes_eq kind (codes "delete") then Some (Remove key) else None)

abbrev pub zone_op_of : Option (List ℕ) → Option ZoneKey → Option ZoneOp
zone_op_of None o = None
zone_op_of (Some kind) None = None
zone_op_of (Some kind) (Some key) = zone_op_as kind key

module _ (caller : List ℕ) where
  -- an element is a zone ID, or has one
  abbrev pub zone_told : Data → Option Data → Option ZoneKey
  zone_told d None = zone_in caller d
  zone_told d (Some id) = zone_in caller id

  abbrev pub zone_listed : Data → Option ZoneKey
  zone_listed d = zone_told d (found (codes "zoneID") d)

  abbrev pub zones_at : Option Data → Result (List ZoneKey) BadCall
  zones_at o = each_in Zones zone_listed (option_and_then as_array o)

  -- the zone ID that an object has
  abbrev pub zone_of_member : Data → Option ZoneKey
  zone_of_member d = option_and_then (zone_in caller) (found (codes "zoneID") d)

  -- the zone of an operation
  abbrev pub zone_worked : Data → Option ZoneKey
  zone_worked d = option_and_then zone_of_member (found (codes "zone") d)

  -- an object with operationType, and a zone with a zone ID
  abbrev pub zone_op_in : Data → Option ZoneOp
  zone_op_in d = zone_op_of (option_and_then as_str (found (codes "operationType") d)) (zone_worked d)

  abbrev pub zone_ops_at : Option Data → Result (List ZoneOp) BadCall
  zone_ops_at o = each_in Operations zone_op_in (option_and_then as_array o)

  -- the zone, if it is there, with a token and a limit, if these are well where they are given
  abbrev pub changed_of : Option ZoneKey → Option (Option (List ℕ)) → Option (Option ℕ) → Option ChangedZone
  changed_of None token limit = None
  changed_of (Some key) None limit = None
  changed_of (Some key) (Some token) None = None
  changed_of (Some key) (Some token) (Some limit) = Some (record { zone = key; sync_token = token; limit = limit })

  -- an object with a zone ID, and perhaps syncToken and resultsLimit
  abbrev pub changed_in : Data → Option ChangedZone
  changed_in d =
      changed_of (zone_of_member d) (result_ok (text_at SyncToken (found (codes "syncToken") d)))
      (result_ok (limit_at (found (codes "resultsLimit") d)))

  abbrev pub changed_zones_at : Option Data → Result (List ChangedZone) BadCall
  changed_zones_at o = each_in Zones changed_in (option_and_then as_array o)

-- ---- what some list of the caller means

abbrev pub IsMeantZoneOp : List ℕ → ZoneOp → Type 0
IsMeantZoneOp caller (Make key) = IsMeantZone caller key
IsMeantZoneOp caller (Remove key) = IsMeantZone caller key

-- the token is a text, and the limit one of a page
pub record IsMeantChanged (caller : List ℕ) (c : ChangedZone) : Type 0 where
  pub zone : IsMeantZone caller c.zone
  pub token : IfSome c.sync_token IsUtf8
  pub limit : IfSome c.limit IsPageLimit
