-- The JSON of replies, and their status.
use Rattle.std.specs.Prelude.{ℕ, Bool, List, map, codes}
use Rattle.serde_json.specs.Data.{Data, string, object, no_members, member}
use Rattle.ck_records.specs.Writing.{record_data}
use Rattle.error_replies.specs.declared.errors.ServerError.{ServerError}
use Rattle.error_replies.specs.declared.errors.ServerError.TheVariants.{Conflict}
use Rattle.error_replies.specs.Errors.{code_of, reason_of, status_of}
use Rattle.error_replies.specs.Bodies.{error_data}
use Rattle.wire_calls.specs.Lists.{list_data}
use Rattle.wire_calls.specs.Things.{gone_of, failed_of}
use Rattle.wire_calls.specs.declared.thing.Thing.TheVariants.{Record as OfRecord}
use Rattle.wire_calls.specs.declared.reply.RecordEntry.{RecordEntry}
use Rattle.wire_calls.specs.declared.reply.RecordEntry.TheVariants.{There, Gone, Failed, Conflict as InConflict}
use Rattle.wire_calls.specs.declared.reply.RecordsReply.{RecordsReply}
use Rattle.wire_calls.specs.declared.reply.Reply.{Reply}
use Rattle.wire_calls.specs.declared.reply.Reply.TheVariants.{Modify, Lookup, Refused}

abbrev pub gone_data : List ℕ → Data
gone_data name = gone_of OfRecord (string name)

abbrev pub failed_data : ServerError → List ℕ → Data
failed_data error name = failed_of OfRecord error (string name)

-- with the record that stands in the way
abbrev pub conflict_data : List ℕ → Data → Data
conflict_data name server =
    object (member (codes "reason") (string (reason_of Conflict))
    (member (codes "recordName") (string name)
    (member (codes "serverErrorCode") (string (code_of Conflict))
    (member (codes "serverRecord") server no_members))))

-- with records of a zone of the owner
module _ (owner : List ℕ) (as_text : Bool) where
  abbrev pub reply_entry_data : RecordEntry → Data
  reply_entry_data (There r) = record_data owner as_text r
  reply_entry_data (Gone name) = gone_data name
  reply_entry_data (Failed error name) = failed_data error name
  reply_entry_data (InConflict name server) = conflict_data name (record_data owner as_text server)

  abbrev pub entries_data : List RecordEntry → List Data
  entries_data entries = map reply_entry_data entries

-- an entry for each, in order
abbrev pub records_reply_data : RecordsReply → Data
records_reply_data r = list_data (codes "records") (entries_data r.zone.owner r.numbers_as_strings r.entries)

abbrev pub reply_data : Reply → Data
reply_data (Modify r) = records_reply_data r
reply_data (Lookup r) = records_reply_data r
reply_data (Refused error) = error_data error

-- a list is told with status 200, whatever its entries are
abbrev pub reply_status : Reply → ℕ
reply_status (Modify r) = 200
reply_status (Lookup r) = 200
reply_status (Refused error) = status_of error
