-- The text of a reply tells it exactly.
use Rattle.std.proofs.Common.{◌≡◌, ◌≤◌, ℕ, Bool, false, List, [], ◌∷◌, map, Some, refl, sym, ap, subst, ◌∙◌, arith}
use Rattle.std.specs.Prelude.{IsUtf8, IfOk, Result, Ok, Err, codes}
use Rattle.std.specs.List.{AllByRecursion}
use Rattle.std.proofs.lemmas.Bool.{or_from}
use Rattle.serde_json.specs.Data.{Data, depth, items_depth}
use Rattle.serde_json.specs.Read.{read, max_depth}
use Rattle.serde_json.specs.View.{items_of}
use Rattle.serde_json.specs.Written.{has_float, items_have_float, compact_text}
use Rattle.field_values.specs.Exact.{IsExact}
use Rattle.ck_records.proofs.FlatLemmas.{Flat, records_flat}
use Rattle.ck_records.proofs.WholeLemmas.{records_whole}
use Rattle.wire_calls.specs.declared.asked.Asked.{Asked}
use Rattle.wire_calls.specs.declared.call.Call.{Call}
use Rattle.wire_calls.specs.declared.call.Call.TheVariants.{Modify as AModify, Lookup as ALookup}
use Rattle.wire_calls.specs.declared.reply.RecordEntry.{RecordEntry}
use Rattle.wire_calls.specs.declared.reply.RecordEntry.TheVariants.{There, Gone, Failed, Conflict as InConflict}
use Rattle.wire_calls.specs.declared.reply.RecordsReply.{RecordsReply}
use Rattle.wire_calls.specs.declared.reply.Reply.{Reply}
use Rattle.wire_calls.specs.declared.reply.Reply.TheVariants.{Modify, Lookup, Refused}
use Rattle.wire_calls.specs.Asked.{asked_of}
use Rattle.wire_calls.specs.Entries.{IsEntry}
use Rattle.wire_calls.specs.Lists.{IsRead}
use Rattle.wire_calls.specs.Replies.{reply_entry_data, entries_data, records_reply_data, reply_data, reply_status}
use Rattle.wire_calls.specs.RepliesTo.{AreAnswers, IsFor, IsReply, RepliesAreExact}
use Rattle.wire_calls.proofs.ListTextLemmas.{list_read}
use Rattle.error_replies.specs.declared.errors.ServerError.{ServerError}
use Rattle.error_replies.specs.Errors.{status_of}
use Rattle.error_replies.specs.Bodies.{error_data}

module _ (owner : List ℕ) (as_text : Bool) where
  entry_flat : (e : RecordEntry) → IsEntry e → Flat 6 (reply_entry_data owner as_text e)
  entry_flat (There r) is = record { whole = records_flat.whole owner as_text r is; shallow = omega (arith, records_flat.shallow owner as_text r is) }
  entry_flat (Gone name) is = record { whole = refl; shallow = omega arith }
  entry_flat (Failed error name) is = record { whole = refl; shallow = omega arith }
  entry_flat (InConflict name server) is = record {
    whole = rw (records_flat.whole owner as_text server is.1) refl;
    shallow = omega (arith, records_flat.shallow owner as_text server is.1);
  }

  entries_whole : (wants : List Asked) (es : List RecordEntry) → AreAnswers wants es → items_have_float (items_of (map (reply_entry_data owner as_text) es)) ≡ false
  entries_whole [] [] are = refl
  entries_whole [] (e ∷ es) are = absurd are
  entries_whole (a ∷ wants) [] are = refl
  entries_whole (a ∷ wants) (e ∷ es) are = or_from _ _ (entry_flat e are.0.form).whole (entries_whole wants es are.1)

  entries_shallow : (wants : List Asked) (es : List RecordEntry) → AreAnswers wants es → items_depth (items_of (map (reply_entry_data owner as_text) es)) ≤ 6
  entries_shallow [] [] are = omega arith
  entries_shallow [] (e ∷ es) are = absurd are
  entries_shallow (a ∷ wants) [] are = omega arith
  entries_shallow (a ∷ wants) (e ∷ es) are = omega (arith, (entry_flat e are.0.form).shallow, entries_shallow wants es are.1)

list_exact : (wants : List Asked) (r : RecordsReply) → AreAnswers wants r.entries → IsExact (records_reply_data r)
list_exact wants r are = record {
  whole = or_from _ _ (entries_whole r.zone.owner r.numbers_as_strings wants r.entries are) refl;
  shallow = omega (arith, entries_shallow r.zone.owner r.numbers_as_strings wants r.entries are);
}

pub replies_exact : RepliesAreExact
replies_exact (AModify c) (Modify r) is = list_exact (asked_of (AModify c)) r is.entries
replies_exact (AModify c) (Lookup r) is = absurd is
replies_exact (AModify c) (Refused error) is = record { whole = refl; shallow = omega arith }
replies_exact (ALookup c) (Modify r) is = absurd is
replies_exact (ALookup c) (Lookup r) is = list_exact (asked_of (ALookup c)) r is.entries
replies_exact (ALookup c) (Refused error) is = record { whole = refl; shallow = omega arith }

-- the text of a reply is one to each call that it is a reply to
text_replies : (call : Call) (reply : Reply) (text : List ℕ) → IsUtf8 text → read text ≡ Some (reply_data reply) → IsFor call reply → IsReply call (reply_status reply) text reply
text_replies call reply text utf8 reads to = record {
  json = reply_data reply;
  is_json = record { text = utf8; reads = reads };
  is = record { to = to; told = refl; written = refl };
}

abbrev entries_of : RecordsReply → List Data
entries_of r = entries_data r.zone.owner r.numbers_as_strings r.entries

list_reads : (text : List ℕ) (r : RecordsReply) → IsExact (records_reply_data r) → AllByRecursion IsRead (entries_of r) → text ≡ compact_text (records_reply_data r)
    → read text ≡ Some (records_reply_data r)
list_reads text r exact all is = ap read is ∙ list_read (codes "records") (entries_of r) all exact.whole exact.shallow

answered : (text : List ℕ) (call : Call) (reply other : Reply) → IsUtf8 text → reply ≡ other → (IsFor call other → read text ≡ Some (reply_data other)) → IsFor call reply
    → IsReply call (reply_status reply) text reply
answered text call reply other utf8 is reads =
    subst (λ (x : Reply). IsFor call x → IsReply call (reply_status x) text x) (sym is) (λ to. text_replies call other text utf8 (reads to) to)

module _ {A E : Type 0} (bytes : A → List ℕ) (utf8 : (a : A) → IsUtf8 (bytes a)) (call : Call) (reply : Reply) where
  abbrev IsAnswered : Result A E → Type 0
  IsAnswered answer = IfOk answer (λ a. IsReply call (reply_status reply) (bytes a) reply)

  pub modify_replies : (r : RecordsReply) (answer : Result A E) → reply ≡ Modify r → IfOk answer (λ a. bytes a ≡ compact_text (records_reply_data r))
      → IfOk answer (λ a. AllByRecursion IsRead (entries_of r)) → IsFor call reply → IsAnswered answer
  modify_replies r (Ok a) is text all to = answered (bytes a) call reply (Modify r) (utf8 a) is (λ to. list_reads (bytes a) r (replies_exact call (Modify r) to) all text) to
  modify_replies r (Err e) is text all to = tt

  pub lookup_replies : (r : RecordsReply) (answer : Result A E) → reply ≡ Lookup r → IfOk answer (λ a. bytes a ≡ compact_text (records_reply_data r))
      → IfOk answer (λ a. AllByRecursion IsRead (entries_of r)) → IsFor call reply → IsAnswered answer
  lookup_replies r (Ok a) is text all to = answered (bytes a) call reply (Lookup r) (utf8 a) is (λ to. list_reads (bytes a) r (replies_exact call (Lookup r) to) all text) to
  lookup_replies r (Err e) is text all to = tt

  pub refused_replies : (error : ServerError) (answer : Result A E) → reply ≡ Refused error → IfOk answer (λ a. bytes a ≡ compact_text (error_data error))
      → IfOk answer (λ a. IsRead (error_data error)) → IsFor call reply → IsAnswered answer
  refused_replies error (Ok a) is text told to = answered (bytes a) call reply (Refused error) (utf8 a) is (λ to. ap read text ∙ told.reads (replies_exact call (Refused error) to).shallow) to
  refused_replies error (Err e) is text told to = tt

-- the JSON of an entry has no float, whatever it tells
entry_whole : (owner : List ℕ) (as_text : Bool) (e : RecordEntry) → has_float (reply_entry_data owner as_text e) ≡ false
entry_whole owner as_text (There r) = records_whole owner as_text r
entry_whole owner as_text (Gone name) = refl
entry_whole owner as_text (Failed error name) = refl
entry_whole owner as_text (InConflict name server) = rw (records_whole owner as_text server) refl

-- what was made for an entry has none
pub made_whole : {A E : Type 0} (seen : A → Data) (owner : List ℕ) (as_text : Bool) (e : RecordEntry) (answer : Result A E)
    → IfOk answer (λ a. seen a ≡ reply_entry_data owner as_text e) → IfOk answer (λ a. has_float (seen a) ≡ false)
made_whole seen owner as_text e (Ok a) is = ap has_float is ∙ entry_whole owner as_text e
made_whole seen owner as_text e (Err fault) is = tt
