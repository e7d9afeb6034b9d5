-- The JSON of calls. What a body means by default is left out.
use Rattle.std.specs.Prelude.{ℕ, Bool, true, false, if◌then◌else◌, List, [], ◌∷◌, map, codes, Option, None, Some, option_map}
use Rattle.serde_json.specs.Data.{Data, boolean, string, array}
use Rattle.serde_json.specs.View.{items_of}
use Rattle.ck_base.specs.declared.key.ZoneKey.{ZoneKey}
use Rattle.ck_base.specs.KnownNames.{is_own_default}
use Rattle.field_values.specs.ZoneIds.{zone_data}
use Rattle.ck_records.specs.Objects.{object_of}
use Rattle.ck_records.specs.Writing.{named_data}
use Rattle.modify_ops.specs.Writing.{ops_data}
use Rattle.wire_calls.specs.declared.call.ModifyCall.{ModifyCall}
use Rattle.wire_calls.specs.declared.call.LookupCall.{LookupCall}
use Rattle.wire_calls.specs.declared.call.Call.{Call}
use Rattle.wire_calls.specs.declared.call.Call.TheVariants.{Modify, Lookup}

-- a truth value that is not the default
abbrev pub flag_data : Bool → Bool → Option Data
flag_data true true = None
flag_data true false = Some (boolean false)
flag_data false true = Some (boolean true)
flag_data false false = None

-- the ID of a zone other than the caller's default zone
abbrev pub zone_given : List ℕ → ZoneKey → Option Data
zone_given caller key = if is_own_default caller key then None else Some (zone_data key)

abbrev pub names_data : List (List ℕ) → Data
names_data names = array (items_of (map string names))

abbrev pub records_data : List (List ℕ) → Data
records_data names = array (items_of (map named_data names))

abbrev pub modify_data : ModifyCall → Data
modify_data c = object_of
    ((codes "atomic", flag_data true c.atomic)
    ∷ (codes "numbersAsStrings", flag_data false c.numbers_as_strings)
    ∷ (codes "operations", Some (ops_data c.ops))
    ∷ (codes "zoneID", zone_given c.caller c.zone)
    ∷ [])

abbrev pub lookup_data : LookupCall → Data
lookup_data c = object_of
    ((codes "desiredKeys", option_map names_data c.desired_keys)
    ∷ (codes "numbersAsStrings", flag_data false c.numbers_as_strings)
    ∷ (codes "records", Some (records_data c.names))
    ∷ (codes "zoneID", zone_given c.caller c.zone)
    ∷ [])

abbrev pub call_data : Call → Data
call_data (Modify c) = modify_data c
call_data (Lookup c) = lookup_data c
