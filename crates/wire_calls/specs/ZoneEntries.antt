-- The entries of lists of zones in replies.
use Rattle.std.specs.Prelude.{◌≡◌, ◌≢◌, ℕ, Bool, true, false, not, ◌&&◌, List, map, codes}
use Rattle.serde_json.specs.Data.{Data, boolean, object, no_members, member}
use Rattle.ck_base.specs.declared.key.ZoneKey.{ZoneKey}
use Rattle.field_values.specs.Exact.{IsExact}
use Rattle.field_values.specs.ZoneIds.{zone_data, IsMeantZone}
use Rattle.error_replies.specs.declared.errors.ServerError.TheVariants.{Conflict}
use Rattle.zone_model.specs.Names.{same_key, is_default}
use Rattle.wire_calls.specs.declared.thing.Thing.TheVariants.{Zone}
use Rattle.wire_calls.specs.declared.zone_entries.AskedZone.{AskedZone}
use Rattle.wire_calls.specs.declared.zone_entries.ZoneEntry.{ZoneEntry}
use Rattle.wire_calls.specs.declared.zone_entries.ZoneEntry.TheVariants.{There, Gone, Failed}
use Rattle.wire_calls.specs.declared.zone_lists.ZoneOp.{ZoneOp}
use Rattle.wire_calls.specs.declared.zone_lists.ZoneOp.TheVariants.{Make, Remove}
use Rattle.wire_calls.specs.Lists.{list_data}
use Rattle.wire_calls.specs.Things.{gone_of, failed_of}

abbrev pub zones_key : List ℕ
zones_key = codes "zones"

-- a zone that is there; requests to a default zone are not done as one
abbrev pub there_data : ZoneKey → Data
there_data key = object (member (codes "atomic") (boolean (not (is_default key))) (member (codes "zoneID") (zone_data key) no_members))

abbrev pub zone_entry_data : ZoneEntry → Data
zone_entry_data (There key) = there_data key
zone_entry_data (Gone key) = gone_of Zone (zone_data key)
zone_entry_data (Failed error key) = failed_of Zone error (zone_data key)

-- the zone is one that a zone ID of the caller means, and no error is a conflict
abbrev pub IsZoneEntry : List ℕ → ZoneEntry → Type 0
IsZoneEntry caller (There key) = IsMeantZone caller key
IsZoneEntry caller (Gone key) = IsMeantZone caller key
IsZoneEntry caller (Failed error key) = IsMeantZone caller key × (error ≢ Conflict)

-- it is about the zone that is asked for, and one that is no error says deleted just where the zone is to go
abbrev pub answers_zone : AskedZone → ZoneEntry → Bool
answers_zone a (There key) = not a.deletes && same_key key a.zone
answers_zone a (Gone key) = a.deletes && same_key key a.zone
answers_zone a (Failed error key) = same_key key a.zone

-- the entry has its form, and is one that is asked for
pub record IsZoneAsked (caller : List ℕ) (a : AskedZone) (e : ZoneEntry) : Type 0 where
  pub form : IsZoneEntry caller e
  pub asked : answers_zone a e ≡ true

-- what an operation asks of the entry of its reply
abbrev pub asked_by_op : ZoneOp → AskedZone
asked_by_op (Make key) = record { zone = key; deletes = false }
asked_by_op (Remove key) = record { zone = key; deletes = true }

-- ---- laws

abbrev pub zones_data : List ZoneEntry → Data
zones_data es = list_data zones_key (map zone_entry_data es)

-- no JSON is that of two lists of zones
abbrev pub ZoneListsAreOne : Type 0
ZoneListsAreOne = (es fs : List ZoneEntry) → zones_data es ≡ zones_data fs → es ≡ fs

-- the JSON of a list of zones has no float, and nests no deeper than what is read
abbrev pub ZoneListsAreExact : Type 0
ZoneListsAreExact = (es : List ZoneEntry) → IsExact (zones_data es)
