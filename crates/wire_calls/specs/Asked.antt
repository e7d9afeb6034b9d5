-- What a call asks of each entry of its reply.
use Rattle.std.specs.Prelude.{ℕ, Bool, true, false, not, ◌&&◌, List, map, bytes_eq, Option, None, Some}
use Rattle.ck_base.specs.declared.key.ZoneKey.{ZoneKey}
use Rattle.zone_model.specs.declared.operations.Op.{Op}
use Rattle.zone_model.specs.Requests.{is_deletion}
use Rattle.wire_calls.specs.declared.asked.Asked.{Asked}
use Rattle.wire_calls.specs.declared.call.Call.{Call}
use Rattle.wire_calls.specs.declared.call.Call.TheVariants.{Modify, Lookup}
use Rattle.wire_calls.specs.declared.reply.RecordEntry.{RecordEntry}
use Rattle.wire_calls.specs.declared.reply.RecordEntry.TheVariants.{There, Gone, Failed, Conflict as InConflict}

-- the name that an operation gives, if it gives one, and whether it is a deletion
abbrev pub asked_by : Op → Asked
asked_by op = record { name = op.draft.name; deletes = is_deletion op.kind }

abbrev pub asked_for : List ℕ → Asked
asked_for name = record { name = Some name; deletes = false }

-- in order, for each operation, or for each name
abbrev pub asked_of : Call → List Asked
asked_of (Modify c) = map asked_by c.ops
asked_of (Lookup c) = map asked_for c.names

-- the zone of a call, and whether its reply writes whole numbers as texts
abbrev pub zone_of : Call → ZoneKey
zone_of (Modify c) = c.zone
zone_of (Lookup c) = c.zone

abbrev pub as_text_of : Call → Bool
as_text_of (Modify c) = c.numbers_as_strings
as_text_of (Lookup c) = c.numbers_as_strings

-- the name, if one is asked for
abbrev pub has_name : Option (List ℕ) → List ℕ → Bool
has_name None name = true
has_name (Some given) name = bytes_eq name given

-- an entry has the name that is asked for, and one that is no error says deleted just where the record is to go
abbrev pub answers : Asked → RecordEntry → Bool
answers a (There r) = not a.deletes && has_name a.name r.name
answers a (Gone name) = a.deletes && has_name a.name name
answers a (Failed error name) = has_name a.name name
answers a (InConflict name server) = has_name a.name name
