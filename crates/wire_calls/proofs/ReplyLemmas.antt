-- Reading replies.
use Rattle.std.proofs.Common.{◌≡◌, ℕ, List, map, length, Some, inl, inr, refl, sym, ap, subst, ◌∙◌, arith}
use Rattle.std.specs.Prelude.{◌≢◌, codes, None, Result, Ok, Err}
use Rattle.serde_json.specs.Data.{Data}
use Rattle.ck_base.specs.Told.{IsToldUnless}
use Rattle.error_replies.specs.declared.errors.ServerError.{ServerError}
use Rattle.error_replies.specs.declared.errors.ServerError.TheVariants.{AccessDenied, AtomicError, AuthenticationFailed, AuthenticationRequired, BadRequest, Conflict, Exists, NotFound, TryAgainLater, ValidatingReferenceError, ZoneNotFound}
use Rattle.error_replies.specs.Errors.{status_of}
use Rattle.error_replies.specs.Bodies.{error_data}
use Rattle.wire_calls.specs.declared.asked.Asked.{Asked}
use Rattle.wire_calls.specs.declared.call.Call.{Call}
use Rattle.wire_calls.specs.declared.call.Call.TheVariants.{Modify as AModify, Lookup as ALookup}
use Rattle.wire_calls.specs.declared.reply.RecordEntry.{RecordEntry}
use Rattle.wire_calls.specs.declared.reply.RecordsReply.{RecordsReply}
use Rattle.wire_calls.specs.declared.reply.Reply.{Reply}
use Rattle.wire_calls.specs.declared.reply.Reply.TheVariants.{Modify, Lookup, Refused}
use Rattle.wire_calls.specs.declared.reply_fault.ReplyFault.{ReplyFault}
use Rattle.wire_calls.specs.declared.reply_fault.ReplyFault.TheVariants.{BadReply, NoMemory}
use Rattle.wire_calls.specs.Asked.{asked_of, zone_of, as_text_of}
use Rattle.wire_calls.specs.Calls.{IsJson}
use Rattle.wire_calls.specs.Entries.{IsAsked}
use Rattle.wire_calls.specs.Found.{error_in}
use Rattle.wire_calls.specs.Lists.{list_data}
use Rattle.wire_calls.specs.Replies.{reply_data, reply_status}
use Rattle.wire_calls.specs.ReplyLists.{IsFirstWrong, IsListFor, IsBadList, Tells}
use Rattle.wire_calls.specs.RepliesTo.{AreAnswers, ListsFor, IsFor, IsReplyTo, IsReply, IsNone, records_of, with_entries, entry_data_of, IsWrongAt, IsBadAt, IsBadReply, RepliesAreOne}
use Rattle.wire_calls.proofs.EntryLemmas.{one_entry}
use Rattle.wire_calls.proofs.ThingLemmas.{error_told}
use Rattle.wire_calls.proofs.ReplyListLemmas.{map_count, no_first_wrong, same_entries, answers_count, one_listing}

-- ---- the entries

abbrev listing : List Data → Data
listing ds = list_data (codes "records") ds

-- no JSON is that of two entries that are asked for
alone : (call : Call) (a : Asked) (e f : RecordEntry) → IsAsked a e → IsAsked a f → entry_data_of call e ≡ entry_data_of call f → e ≡ f
alone call a e f one two same =
    one_entry (zone_of call).owner (as_text_of call) (entry_data_of call f) e f (record { form = one.form; written = same }) (record { form = two.form; written = refl })

-- ---- the list

no_success : (error : ServerError) → status_of error ≡ 200 → ⊥
no_success AccessDenied e = omega (arith, e)
no_success AtomicError e = omega (arith, e)
no_success AuthenticationFailed e = omega (arith, e)
no_success AuthenticationRequired e = omega (arith, e)
no_success BadRequest e = omega (arith, e)
no_success Conflict e = omega (arith, e)
no_success Exists e = omega (arith, e)
no_success NotFound e = omega (arith, e)
no_success TryAgainLater e = omega (arith, e)
no_success ValidatingReferenceError e = omega (arith, e)
no_success ZoneNotFound e = omega (arith, e)

pub not_refused : (call : Call) (d : Data) (error : ServerError) → IsReplyTo call 200 d (Refused error) → ⊥
not_refused call d error is = no_success error is.told

lists_for : (call : Call) (es : List RecordEntry) → AreAnswers (asked_of call) es → ListsFor call (records_of call es)
lists_for call es are = record { zone = refl; numbers = refl; entries = are }

is_for : (call : Call) (es : List RecordEntry) → AreAnswers (asked_of call) es → IsFor call (with_entries call es)
is_for (AModify c) es are = lists_for (AModify c) es are
is_for (ALookup c) es are = lists_for (ALookup c) es are

with_status : (call : Call) (es : List RecordEntry) → reply_status (with_entries call es) ≡ 200
with_status (AModify c) es = refl
with_status (ALookup c) es = refl

with_data : (call : Call) (es : List RecordEntry) → reply_data (with_entries call es) ≡ listing (map (entry_data_of call) es)
with_data (AModify c) es = refl
with_data (ALookup c) es = refl

abbrev IsListTo : Call → Data → List RecordEntry → Type 0
IsListTo call d es = IsListFor IsAsked (entry_data_of call) (codes "records") (asked_of call) d es

abbrev IsBadListTo : Call → Data → ℕ → Type 0
IsBadListTo call d at = IsBadList IsAsked (entry_data_of call) (codes "records") (asked_of call) d at

all_there : (call : Call) (d : Data) (es : List RecordEntry) → IsListTo call d es → IsReplyTo call 200 d (with_entries call es)
all_there call d es is = record {
  to = is_for call es is.asked;
  told = with_status call es;
  written = with_data call es ∙ is.written;
}

bad_list : (call : Call) (d : Data) (at : ℕ) → IsBadListTo call d at → IsBadAt call 200 d at
bad_list call d at (inl none) = inl (none.0, record { list = λ ds is. none.1 ds is.lists; refused = not_refused call d })
bad_list call d at (inr (ds, lists, first)) = inr (record { items = ds; lists = record { told = refl; lists = lists }; first = first })

-- what is made of the entries, or of what is wrong with them
pub whole_reply : (call : Call) (d : Data) (wants : List Asked) (es : List RecordEntry) (answer : Result Reply ReplyFault) → wants ≡ asked_of call
    → IsListFor IsAsked (entry_data_of call) (codes "records") wants d es → IsToldUnless NoMemory answer (Ok (with_entries call es)) → Tells (IsReplyTo call 200 d) (IsBadAt call 200 d) answer
whole_reply call d wants es (Ok r) are is told =
    let same : r ≡ with_entries call es = cc (told (λ memory. absurd (cc memory))) in
    let there : IsListTo call d es = subst (λ ws. IsListFor IsAsked (entry_data_of call) (codes "records") ws d es) are is in
    subst (IsReplyTo call 200 d) (sym same) (all_there call d es there)
whole_reply call d wants es (Err (BadReply at)) are is told = absurd (cc (told (λ memory. absurd (cc memory))))
whole_reply call d wants es (Err NoMemory) are is told = tt

pub wrong_list : (call : Call) (d : Data) (wants : List Asked) (fault : ReplyFault) → wants ≡ asked_of call
    → Tells {A = List RecordEntry} (IsListFor IsAsked (entry_data_of call) (codes "records") wants d) (IsBadList IsAsked (entry_data_of call) (codes "records") wants d) (Err fault)
    → Tells {A = Reply} (IsReplyTo call 200 d) (IsBadAt call 200 d) (Err fault)
wrong_list call d wants (BadReply at) are is = bad_list call d at (subst (λ ws. IsBadList IsAsked (entry_data_of call) (codes "records") ws d at) are is)
wrong_list call d wants NoMemory are is = tt

-- ---- refused requests

error_shown : (error : ServerError) → error_in (error_data error) ≡ Some error
error_shown error = error_told error

told_error : (call : Call) (status : ℕ) (d : Data) (error : ServerError) → IsReplyTo call status d (Refused error) → error_in d ≡ Some error
told_error call status d error is = ap error_in (sym is.written) ∙ error_shown error

-- with another status than 200 there is no list
module _ (call : Call) (status : ℕ) (d : Data) (apart : status ≢ 200) where
  refused_alone : ((error : ServerError) → IsReplyTo call status d (Refused error) → ⊥) → IsBadAt call status d 0
  refused_alone none = inl (refl, record { list = λ ds is. apart is.told; refused = none })

  pub no_code : error_in d ≡ None → IsBadAt call status d 0
  no_code none = refused_alone (λ error is. cc (told_error call status d error is, none))

  pub other_status : (error : ServerError) → error_in d ≡ Some error → (status_of error ≡ status → ⊥) → IsBadAt call status d 0
  other_status error read other = refused_alone (λ fault is.
      let same : ◌≡◌ {A = ServerError} fault error = cc (told_error call status d fault is, read) in
      other (ap status_of (sym same) ∙ is.told))

  pub other_body : (error : ServerError) → error_in d ≡ Some error → (error_data error ≡ d → ⊥) → IsBadAt call status d 0
  other_body error read other = refused_alone (λ fault is.
      let same : ◌≡◌ {A = ServerError} fault error = cc (told_error call status d fault is, read) in
      other (ap error_data (sym same) ∙ is.written))

for_refused : (call : Call) (error : ServerError) → IsFor call (Refused error)
for_refused (AModify c) error = tt
for_refused (ALookup c) error = tt

pub refused : (call : Call) (status : ℕ) (d : Data) (error : ServerError) → status_of error ≡ status → error_data error ≡ d → IsReplyTo call status d (Refused error)
refused call status d error told written = record { to = for_refused call error; told = told; written = written }

-- ---- replies

-- a list is one of the call's operation with its entries
record Lists (call : Call) (status : ℕ) (d : Data) (reply : Reply) : Type 0 where
  items : List RecordEntry
  is : reply ≡ with_entries call items
  answers : AreAnswers (asked_of call) items
  told : status ≡ 200
  written : listing (map (entry_data_of call) items) ≡ d

same_records : (call : Call) (r : RecordsReply) → ListsFor call r → r ≡ records_of call r.entries
same_records call r is = rw (sym is.zone, sym is.numbers) refl

-- a reply to a call is a list, or that the request was refused
data Sort (call : Call) (status : ℕ) (d : Data) (reply : Reply) : Type 0 where
  a_list : Lists call status d reply → Sort call status d reply
  a_refusal : (error : ServerError) → reply ≡ Refused error → Sort call status d reply

listed_with : (call : Call) (status : ℕ) (d : Data) (es : List RecordEntry) (reply : Reply) → reply ≡ with_entries call es → AreAnswers (asked_of call) es
    → reply_status reply ≡ status → reply_data reply ≡ d → Sort call status d reply
listed_with call status d es reply is are told written = a_list (record {
  items = es;
  is = is;
  answers = are;
  told = sym told ∙ ap reply_status is ∙ with_status call es;
  written = sym (with_data call es) ∙ ap reply_data (sym is) ∙ written;
})

sort_of : (call : Call) (status : ℕ) (d : Data) (reply : Reply) → IsReplyTo call status d reply → Sort call status d reply
sort_of (AModify c) status d (Modify r) is = listed_with (AModify c) status d r.entries (Modify r) (ap Modify (same_records (AModify c) r is.to)) is.to.entries is.told is.written
sort_of (AModify c) status d (Lookup r) is = absurd is.to
sort_of (AModify c) status d (Refused error) is = a_refusal error refl
sort_of (ALookup c) status d (Modify r) is = absurd is.to
sort_of (ALookup c) status d (Lookup r) is = listed_with (ALookup c) status d r.entries (Lookup r) (ap Lookup (same_records (ALookup c) r is.to)) is.to.entries is.told is.written
sort_of (ALookup c) status d (Refused error) is = a_refusal error refl

pub replies_are_one : RepliesAreOne
replies_are_one call status d r s one two = by (sort_of call status d r one) (sort_of call status d s two) where
  by : Sort call status d r → Sort call status d s → r ≡ s
  by (a_list l) (a_list m) =
      let same : map (entry_data_of call) l.items ≡ map (entry_data_of call) m.items = one_listing (codes "records") d _ _ l.written m.written in
      l.is ∙ ap (with_entries call) (same_entries IsAsked (entry_data_of call) (alone call) (asked_of call) l.items m.items l.answers m.answers same) ∙ sym m.is
  by (a_list l) (a_refusal error e) = absurd (no_success error (ap reply_status (sym e) ∙ two.told ∙ l.told))
  by (a_refusal error e) (a_list m) = absurd (no_success error (ap reply_status (sym e) ∙ one.told ∙ m.told))
  by (a_refusal error e) (a_refusal fault f) =
      let first : error_data error ≡ d = ap reply_data (sym e) ∙ one.written in
      let second : error_data fault ≡ d = ap reply_data (sym f) ∙ two.written in
      let same : ◌≡◌ {A = ServerError} error fault = cc (error_shown error, error_shown fault, ap error_in (first ∙ sym second)) in
      e ∙ ap Refused same ∙ sym f

no_reply : (call : Call) (status : ℕ) (d : Data) (reply : Reply) → IsNone call status d → IsReplyTo call status d reply → ⊥
no_reply call status d reply none is = by (sort_of call status d reply is) where
  by : Sort call status d reply → ⊥
  by (a_list l) =
      let count : length (map (entry_data_of call) l.items) ≡ length (asked_of call) = map_count _ l.items ∙ answers_count IsAsked (entry_data_of call) (asked_of call) l.items l.answers in
      none.list _ (record { told = l.told; lists = record { written = l.written; count = count } })
  by (a_refusal error e) = none.refused error (subst (IsReplyTo call status d) e is)

no_reply_at : (call : Call) (status : ℕ) (d : Data) (at : ℕ) (reply : Reply) → IsWrongAt call status d at → IsReplyTo call status d reply → ⊥
no_reply_at call status d at reply wrong is = by (sort_of call status d reply is) where
  by : Sort call status d reply → ⊥
  by (a_list l) =
      let same : map (entry_data_of call) l.items ≡ wrong.items = one_listing (codes "records") d _ _ l.written wrong.lists.lists.written in
      no_first_wrong IsAsked (entry_data_of call) (asked_of call) l.items at l.answers (subst (λ ds. IsFirstWrong IsAsked (entry_data_of call) (asked_of call) ds at) (sym same) wrong.first)
  by (a_refusal error e) = no_success error (ap reply_status (sym e) ∙ is.told ∙ wrong.lists.told)

-- ---- bodies

one_json : (body : List ℕ) (d e : Data) → IsJson body d → IsJson body e → d ≡ e
one_json body d e one two = cc (one.reads, two.reads)

pub of_body : (call : Call) (status : ℕ) (body : List ℕ) (d : Data) → IsJson body d → (answer : Result Reply ReplyFault)
    → Tells (IsReplyTo call status d) (IsBadAt call status d) answer → Tells (IsReply call status body) (IsBadReply call status body) answer
of_body call status body d is (Ok reply) told = record { json = d; is_json = is; is = told }
of_body call status body d is (Err (BadReply at)) (inl none) = inl (none.0, λ e is_e. subst (IsNone call status) (one_json body d e is is_e) none.1)
of_body call status body d is (Err (BadReply at)) (inr wrong) = inr (d, is, wrong)
of_body call status body d is (Err NoMemory) told = tt

bad_is_none : (call : Call) (status : ℕ) (body : List ℕ) (at : ℕ) (reply : Reply) → IsBadReply call status body at → IsReply call status body reply → ⊥
bad_is_none call status body at reply (inl none) is = no_reply call status is.json reply (none.1 is.json is.is_json) is.is
bad_is_none call status body at reply (inr (d, is_d, wrong)) is =
    no_reply_at call status d at reply wrong (subst (λ e. IsReplyTo call status e reply) (one_json body is.json d is.is_json is_d) is.is)

pub only : (call : Call) (status : ℕ) (body : List ℕ) (answer : Result Reply ReplyFault) → Tells (IsReply call status body) (IsBadReply call status body) answer
    → (reply : Reply) → IsReply call status body reply → IsToldUnless NoMemory answer (Ok reply)
only call status body (Ok x) told reply is = λ _.
    ap Ok (replies_are_one call status is.json x reply (subst (λ d. IsReplyTo call status d x) (one_json body told.json is.json told.is_json is.is_json) told.is) is.is)
only call status body (Err (BadReply at)) told reply is = λ _. absurd (bad_is_none call status body at reply told is)
only call status body (Err NoMemory) told reply is = λ other. absurd (other refl)
