-- What single entries of replies are found to be, whatever is asked for. Private calls go by these definitions, and no promise of a
-- public call stands on them.
use Rattle.std.specs.Prelude.{◌≡◌, ◌≢◌, ◌≤◌, ℕ, Bool, true, false, List, ◌∷◌, [], map, codes, bytes_eq, find, Option, None, Some, option_and_then}
use Rattle.std.specs.List.{AllZip}
use Rattle.serde_json.specs.Data.{Data, null, boolean, number, string, array, object, no_members, member, depth}
use Rattle.serde_json.specs.Find.{as_str}
use Rattle.serde_json.specs.Written.{has_float}
use Rattle.ck_base.specs.Names.{IsName}
use Rattle.ck_base.specs.declared.key.ZoneKey.{ZoneKey}
use Rattle.field_values.specs.Members.{found, unless_null}
use Rattle.field_values.specs.References.{name_in}
use Rattle.field_values.specs.ZoneIds.{IsMeantZone}
use Rattle.record_model.specs.declared.records.Record.{Record}
use Rattle.record_model.specs.RecordForms.{IsStored}
use Rattle.ck_records.specs.Writing.{record_data}
use Rattle.error_replies.specs.declared.errors.ServerError.{ServerError}
use Rattle.error_replies.specs.declared.errors.ServerError.TheVariants.{AccessDenied, AtomicError, AuthenticationFailed, AuthenticationRequired}
use Rattle.error_replies.specs.declared.errors.ServerError.TheVariants.{BadRequest, Conflict, Exists, NotFound, TryAgainLater}
use Rattle.error_replies.specs.declared.errors.ServerError.TheVariants.{ValidatingReferenceError, ZoneNotFound}
use Rattle.error_replies.specs.Errors.{code_of}
use Rattle.wire_calls.specs.declared.asked.Asked.{Asked}
use Rattle.wire_calls.specs.declared.reply.RecordEntry.{RecordEntry}
use Rattle.wire_calls.specs.declared.reply.RecordEntry.TheVariants.{There, Gone, Failed, Conflict as InConflict}
use Rattle.wire_calls.specs.declared.thing.Thing.{Thing}
use Rattle.wire_calls.specs.declared.thing.Thing.TheVariants.{Record as OfRecord}
use Rattle.wire_calls.specs.declared.zone_entries.ZoneEntry.{ZoneEntry}
use Rattle.wire_calls.specs.ReplyLists.{IsEntryFor}
use Rattle.wire_calls.specs.Things.{name_key, gone_of, failed_of}
use Rattle.wire_calls.specs.Replies.{gone_data, failed_data, conflict_data, reply_entry_data}
use Rattle.wire_calls.specs.Entries.{IsEntry, IsAsked}
use Rattle.wire_calls.specs.ZoneEntries.{there_data, zone_entry_data, IsZoneEntry}

-- the value that has the property, or none where no value has it
abbrev pub Finds : {A : Type 0} → (A → Type 0) → Option A → Type 0
Finds has None = (x : _) → has x → ⊥
Finds has (Some x) = has x

-- ---- lists

-- an object with one member
abbrev pub has_one_member : Data → Bool
has_one_member null = false
has_one_member (boolean b) = false
has_one_member (number n) = false
has_one_member (string s) = false
has_one_member (array ds) = false
has_one_member (object no_members) = false
has_one_member (object (member k d no_members)) = true
has_one_member (object (member k d (member l e ms))) = false

-- an entry for each that is asked for, in order, and their JSON
pub record AreEntriesFor {A E : Type 0} (Is : A → E → Type 0) (write : E → Data) (wants : List A) (ds : List Data) (es : List E) : Type 0 where
  pub asked : AllZip Is wants es
  pub written : map write es ≡ ds

-- ---- things

-- the JSON of a name: it is not null, has no float, and nests no deeper than a zone ID
pub record IsPlain (d : Data) : Type 0 where
  pub there : unless_null d ≡ Some d
  pub whole : has_float d ≡ false
  pub shallow : depth d ≤ 1

-- the name that an entry has, as `name_of` reads it
abbrev pub name_given : {N : Type 0} → Thing → (Data → Option N) → Data → Option N
name_given thing name_of d = option_and_then name_of (found (name_key thing) d)

-- the error that has the code
abbrev pub error_named : List ℕ → Option ServerError
error_named code =
    find (λ error. bytes_eq (code_of error) code)
    (AccessDenied ∷ AtomicError ∷ AuthenticationFailed ∷ AuthenticationRequired ∷ BadRequest ∷ Conflict ∷ Exists ∷ NotFound ∷ TryAgainLater ∷ ValidatingReferenceError ∷ ZoneNotFound ∷ [])

-- the error that an object tells
abbrev pub error_in : Data → Option ServerError
error_in d = option_and_then error_named (option_and_then as_str (found (codes "serverErrorCode") d))

-- the entry tells that the thing is gone
abbrev pub IsGoneOf : {N : Type 0} → Thing → (N → Type 0) → (N → Data) → Data → N → Type 0
IsGoneOf thing Is write d name = Is name × (gone_of thing (write name) ≡ d)

-- the entry tells an error; a conflict shows what stands in the way, and is none of these
abbrev pub IsFailedOf : {N : Type 0} → Thing → (N → Type 0) → (N → Data) → Data → ServerError × N → Type 0
IsFailedOf thing Is write d failed = Is failed.1 × (failed.0 ≢ Conflict) × (failed_of thing failed.0 (write failed.1) ≡ d)

-- ---- records

abbrev pub entry_name : Data → Option (List ℕ)
entry_name d = name_given OfRecord (λ name. name_in (Some name)) d

abbrev pub IsGone : Data → List ℕ → Type 0
IsGone d name = IsName name × (gone_data name ≡ d)

abbrev pub IsFailed : Data → ServerError × List ℕ → Type 0
IsFailed d failed = IsName failed.1 × (failed.0 ≢ Conflict) × (failed_data failed.0 failed.1 ≡ d)

abbrev pub IsConflict : List ℕ → Bool → Data → List ℕ × Record → Type 0
IsConflict owner as_text d conflict = IsName conflict.0 × IsStored conflict.1 × (conflict_data conflict.0 (record_data owner as_text conflict.1) ≡ d)

-- the record that stands in the way, as an object tells it
pub record IsServer (owner : List ℕ) (as_text : Bool) (d : Data) (server : Record) : Type 0 where
  pub stored : IsStored server
  pub told : found (codes "serverRecord") d ≡ Some (record_data owner as_text server)

-- an error, or a conflict
abbrev pub IsErrorOf : List ℕ → Bool → Data → RecordEntry → Type 0
IsErrorOf owner as_text d (There r) = ⊥
IsErrorOf owner as_text d (Gone name) = ⊥
IsErrorOf owner as_text d (Failed error name) = IsFailed d (error, name)
IsErrorOf owner as_text d (InConflict name server) = IsConflict owner as_text d (name, server)

-- the JSON is that of the entry, which has its form
pub record IsEntryOf (owner : List ℕ) (as_text : Bool) (d : Data) (e : RecordEntry) : Type 0 where
  pub form : IsEntry e
  pub written : reply_entry_data owner as_text e ≡ d

-- the JSON of records of a zone of the owner is that of the entry, which is asked for
abbrev pub IsAnswer : List ℕ → Bool → Asked → Data → RecordEntry → Type 0
IsAnswer owner as_text a d e = IsEntryFor IsAsked (reply_entry_data owner as_text) a d e

-- ---- zones

abbrev pub IsThere : List ℕ → Data → ZoneKey → Type 0
IsThere caller d key = IsMeantZone caller key × (there_data key ≡ d)

-- the JSON is that of the entry, which has its form
pub record IsZoneOf (caller : List ℕ) (d : Data) (e : ZoneEntry) : Type 0 where
  pub form : IsZoneEntry caller e
  pub written : zone_entry_data e ≡ d
