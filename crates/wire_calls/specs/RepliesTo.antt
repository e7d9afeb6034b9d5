-- Which replies are to a call, and where a body that is none goes wrong.
use Rattle.std.specs.Prelude.{◌≡◌, ℕ, ⊤, ◌⊎◌, List, length, codes}
use Rattle.std.specs.List.{AllZip}
use Rattle.serde_json.specs.Data.{Data}
use Rattle.field_values.specs.Exact.{IsExact}
use Rattle.error_replies.specs.declared.errors.ServerError.{ServerError}
use Rattle.wire_calls.specs.declared.asked.Asked.{Asked}
use Rattle.wire_calls.specs.declared.call.Call.{Call}
use Rattle.wire_calls.specs.declared.call.Call.TheVariants.{Modify as AModify, Lookup as ALookup}
use Rattle.wire_calls.specs.declared.reply.RecordEntry.{RecordEntry}
use Rattle.wire_calls.specs.declared.reply.RecordsReply.{RecordsReply}
use Rattle.wire_calls.specs.declared.reply.Reply.{Reply}
use Rattle.wire_calls.specs.declared.reply.Reply.TheVariants.{Modify, Lookup, Refused}
use Rattle.wire_calls.specs.Asked.{asked_of, zone_of, as_text_of}
use Rattle.wire_calls.specs.Calls.{IsJson}
use Rattle.wire_calls.specs.ReplyLists.{IsFirstWrong, IsListOf}
use Rattle.wire_calls.specs.Entries.{IsAsked}
use Rattle.wire_calls.specs.Replies.{reply_entry_data, reply_data, reply_status}

-- an entry for each that is asked for, in order
abbrev pub AreAnswers : List Asked → List RecordEntry → Type 0
AreAnswers wants es = AllZip IsAsked wants es

-- the entries are of the zone of the call, numbers are written as the call wants them, and each entry is one that is asked for
pub record ListsFor (call : Call) (r : RecordsReply) : Type 0 where
  pub zone : r.zone ≡ zone_of call
  pub numbers : r.numbers_as_strings ≡ as_text_of call
  pub entries : AreAnswers (asked_of call) r.entries

-- the reply is one to the call: of its operation, or that the request was refused
abbrev pub IsFor : Call → Reply → Type 0
IsFor (AModify c) (Modify r) = ListsFor (AModify c) r
IsFor (AModify c) (Lookup r) = ⊥
IsFor (AModify c) (Refused error) = ⊤
IsFor (ALookup c) (Modify r) = ⊥
IsFor (ALookup c) (Lookup r) = ListsFor (ALookup c) r
IsFor (ALookup c) (Refused error) = ⊤

-- the status and the JSON are those of a reply to the call
pub record IsReplyTo (call : Call) (status : ℕ) (d : Data) (reply : Reply) : Type 0 where
  pub to : IsFor call reply
  pub told : reply_status reply ≡ status
  pub written : reply_data reply ≡ d

-- the same of the bytes of a body
pub record IsReply (call : Call) (status : ℕ) (body : List ℕ) (reply : Reply) : Type 0 where
  pub json : Data
  pub is_json : IsJson body json
  pub is : IsReplyTo call status json reply

-- ---- what is none

-- a list of as many as are asked for
pub record IsListing (call : Call) (status : ℕ) (d : Data) (ds : List Data) : Type 0 where
  pub told : status ≡ 200
  pub lists : IsListOf (codes "records") (length (asked_of call)) d ds

-- the whole is no such list, and tells no error of a refused request
pub record IsNone (call : Call) (status : ℕ) (d : Data) : Type 0 where
  pub list : (ds : List Data) → IsListing call status d ds → ⊥
  pub refused : (error : ServerError) → IsReplyTo call status d (Refused error) → ⊥

-- the reply to the call with these entries
abbrev pub records_of : Call → List RecordEntry → RecordsReply
records_of call es = record { zone = zone_of call; numbers_as_strings = as_text_of call; entries = es }

abbrev pub with_entries : Call → List RecordEntry → Reply
with_entries (AModify c) es = Modify (records_of (AModify c) es)
with_entries (ALookup c) es = Lookup (records_of (ALookup c) es)

-- the JSON of an entry of a reply to the call
abbrev pub entry_data_of : Call → RecordEntry → Data
entry_data_of call e = reply_entry_data (zone_of call).owner (as_text_of call) e

-- a list of as many as are asked for, of which that is the first wrong one
pub record IsWrongAt (call : Call) (status : ℕ) (d : Data) (at : ℕ) : Type 0 where
  pub items : List Data
  pub lists : IsListing call status d items
  pub first : IsFirstWrong IsAsked (entry_data_of call) (asked_of call) items at

abbrev pub IsBadAt : Call → ℕ → Data → ℕ → Type 0
IsBadAt call status d at = ((at ≡ 0) × IsNone call status d) ⊎ IsWrongAt call status d at

-- where the bytes of a body go wrong: at 0 the whole
abbrev pub IsBadReply : Call → ℕ → List ℕ → ℕ → Type 0
IsBadReply call status body at =
    ((at ≡ 0) × ((d : Data) → IsJson body d → IsNone call status d)) ⊎ ((d : Data) × IsJson body d × IsWrongAt call status d at)

-- ---- laws

-- no status and JSON are those of two replies to a call
abbrev pub RepliesAreOne : Type 0
RepliesAreOne = (call : Call) (status : ℕ) (d : Data) (r s : Reply) → IsReplyTo call status d r → IsReplyTo call status d s → r ≡ s

-- the JSON of a reply to a call has no float, and nests no deeper than what is read
abbrev pub RepliesAreExact : Type 0
RepliesAreExact = (call : Call) (reply : Reply) → IsFor call reply → IsExact (reply_data reply)
