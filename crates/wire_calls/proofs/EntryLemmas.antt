-- Reading the entries of replies.
use Rattle.std.proofs.Common.{◌≡◌, ◌↔◌, IsTrue, ℕ, Bool, true, false, List, [], Option, None, Some, refl, sym, ap, ap₂, subst, ◌∙◌, arith}
use Rattle.std.specs.Prelude.{◌≢◌, codes, Result, Ok, Err, IfOk}
use Rattle.serde_json.specs.Data.{Data, null, boolean, number, string, array, object, no_members, member}
use Rattle.ck_base.specs.Names.{IsName}
use Rattle.field_values.specs.Exact.{IsExact}
use Rattle.field_values.specs.Members.{found}
use Rattle.field_values.specs.References.{name_in}
use Rattle.record_model.specs.declared.records.Record.{Record}
use Rattle.record_model.specs.RecordForms.{IsStored}
use Rattle.ck_records.specs.Replied.{IsReplyOf}
use Rattle.ck_records.specs.Writing.{record_data}
use Rattle.ck_records.proofs.FlatLemmas.{records_flat}
use Rattle.ck_records.proofs.ReadsBackLemmas.{name_told}
use Rattle.ck_records.proofs.ShowsBackLemmas.{records_read_back}
use Rattle.error_replies.specs.declared.errors.ServerError.{ServerError}
use Rattle.error_replies.specs.declared.errors.ServerError.TheVariants.{AccessDenied, AtomicError, AuthenticationFailed, AuthenticationRequired, BadRequest, Conflict, Exists, NotFound, TryAgainLater, ValidatingReferenceError, ZoneNotFound}
use Rattle.error_replies.specs.Errors.{code_of}
use Rattle.wire_calls.specs.declared.asked.Asked.{Asked}
use Rattle.wire_calls.specs.declared.reply.RecordEntry.{RecordEntry}
use Rattle.wire_calls.specs.declared.reply.RecordEntry.TheVariants.{There, Gone, Failed, Conflict as InConflict}
use Rattle.wire_calls.specs.Asked.{answers}
use Rattle.wire_calls.specs.Found.{Finds, error_named, error_in, entry_name, IsGone, IsFailed, IsServer, IsConflict, IsErrorOf, IsEntryOf, IsAnswer, IsPlain}
use Rattle.wire_calls.specs.Replies.{gone_data, failed_data, conflict_data}
use Rattle.wire_calls.proofs.ThingLemmas.{just, other, error_told, first_name}

-- ---- what is found

pub none_is : {A : Type 0} (has : A → Type 0) (o : Option A) → Finds has o → o ≡ None → (x : A) → has x → ⊥
none_is has None finds e = finds
none_is has (Some y) finds e = absurd (cc e)

pub some_is : {A : Type 0} (has : A → Type 0) (o : Option A) (x : A) → Finds has o → o ≡ Some x → has x
some_is has None x finds e = absurd (cc e)
some_is has (Some y) x finds e = let same : y ≡ x = cc e in subst has same finds

-- ---- names of records

pub record_name_told : (name : List ℕ) → IsName name → name_in (Some (string name)) ≡ Some name
record_name_told name is = rw (name_told name is) refl

pub text_plain : (text : List ℕ) → IsPlain (string text)
text_plain text = record { there = refl; whole = refl; shallow = omega arith }

gone_named : (name : List ℕ) → IsName name → entry_name (gone_data name) ≡ Some name
gone_named name is = rw (name_told name is) refl

abbrev AnError : Type 0
AnError = ServerError × List ℕ

failed_error : (x : AnError) → error_in (failed_data x.0 x.1) ≡ Some x.0
failed_error x = error_told x.0

failed_named : (x : AnError) → IsName x.1 → entry_name (failed_data x.0 x.1) ≡ Some x.1
failed_named x is = rw (name_told x.1 is) refl

-- ---- conflicts

module _ (owner : List ℕ) (as_text : Bool) where
  abbrev AConflict : Type 0
  AConflict = List ℕ × Record

  abbrev conflict_written : AConflict → Data
  conflict_written x = conflict_data x.0 (record_data owner as_text x.1)

  abbrev IsAConflict : AConflict → Type 0
  IsAConflict x = IsName x.0 × IsStored x.1

  conflict_exact : (x : AConflict) → IsAConflict x → IsExact (conflict_written x)
  conflict_exact x is = record {
    whole = rw (records_flat.whole owner as_text x.1 is.1) refl;
    shallow = omega (arith, records_flat.shallow owner as_text x.1 is.1);
  }

  conflict_named : (x : AConflict) → IsName x.0 → entry_name (conflict_written x) ≡ Some x.0
  conflict_named x is = rw (name_told x.0 is) refl

  conflict_server : (x : AConflict) → found (codes "serverRecord") (conflict_written x) ≡ Some (record_data owner as_text x.1)
  conflict_server x = refl

  -- ---- the record that stands in the way

  pub a_server : (d server_data : Data) (r : Record) → found (codes "serverRecord") d ≡ Some server_data → IsReplyOf owner as_text server_data r → IsServer owner as_text d r
  a_server d server_data r there is = record { stored = is.stored; told = there ∙ ap Some (sym is.written) }

  pub no_server : (d : Data) → found (codes "serverRecord") d ≡ None → (r : Record) → IsServer owner as_text d r → ⊥
  no_server d none r is = cc (is.told, none)

  pub other_server : (d server_data : Data) → found (codes "serverRecord") d ≡ Some server_data → ((r : Record) → IsReplyOf owner as_text server_data r → ⊥) → (r : Record) → IsServer owner as_text d r → ⊥
  other_server d server_data there differs r is =
      let same : record_data owner as_text r ≡ server_data = cc (is.told, there) in
      differs r (record { stored = is.stored; written = same })

  server_in : (d : Data) (x : AConflict) → IsConflict owner as_text d x → IsServer owner as_text d x.1
  server_in d x is = record { stored = is.1; told = ap (found (codes "serverRecord")) (sym is.2) ∙ conflict_server x }

  pub none_conflict_named : (d : Data) → entry_name d ≡ None → (x : AConflict) → IsConflict owner as_text d x → ⊥
  none_conflict_named d none x is = cc (ap entry_name is.2, conflict_named x is.0, none)

  pub none_conflict : (d : Data) → ((r : Record) → IsServer owner as_text d r → ⊥) → (x : AConflict) → IsConflict owner as_text d x → ⊥
  none_conflict d none x is = none x.1 (server_in d x is)

  one_conflict : (d : Data) (name : List ℕ) (server : Record) → entry_name d ≡ Some name → IsServer owner as_text d server → (y : AConflict) → IsAConflict y → conflict_written y ≡ d → y ≡ (name, server)
  one_conflict d name server read is_server (name_y, server_y) is e =
      let names : ◌≡◌ {A = List ℕ} name_y name = cc (ap entry_name e, conflict_named (name_y, server_y) is.0, read) in
      let other = server_in d (name_y, server_y) (is.0, is.1, e) in
      let servers : server_y ≡ server = records_read_back owner as_text (record_data owner as_text server) server_y server
      (record { stored = is.1; written = cc (other.told, is_server.told) }) (record { stored = is_server.stored; written = refl }) in
      rw (names, servers) refl

  module _ (d : Data) (name : List ℕ) (server : Record) (w : Data) (writes : w ≡ conflict_data name (record_data owner as_text server)) (same : Bool) (tells : IsExact w → (IsTrue same ↔ (d ≡ w))) where
    pub just_conflict : IsName name → IsServer owner as_text d server → same ≡ true → IsConflict owner as_text d (name, server)
    just_conflict is is_server matches =
        (is, is_server.stored, just conflict_written IsAConflict conflict_exact d (name, server) w writes same tells (is, is_server.stored) matches)

    pub other_conflict : entry_name d ≡ Some name → IsServer owner as_text d server → same ≡ false → (x : AConflict) → IsConflict owner as_text d x → ⊥
    other_conflict read is_server differs x is =
        other conflict_written IsAConflict conflict_exact d (name, server) w writes same tells differs (one_conflict d name server read is_server) x (is.0, is.1) is.2

  -- ---- entries

  pub no_error : (d : Data) → ((x : AnError) → IsFailed d x → ⊥) → ((x : AConflict) → IsConflict owner as_text d x → ⊥) → (e : RecordEntry) → IsErrorOf owner as_text d e → ⊥
  no_error d no_failed no_conflict (There r) is = is
  no_error d no_failed no_conflict (Gone name) is = is
  no_error d no_failed no_conflict (Failed error name) is = no_failed (error, name) is
  no_error d no_failed no_conflict (InConflict name server) is = no_conflict (name, server) is

  pub entry_there : (d : Data) (r : Record) → IsReplyOf owner as_text d r → IsEntryOf owner as_text d (There r)
  entry_there d r is = record { form = is.stored; written = is.written }

  pub entry_gone : (d : Data) (name : List ℕ) → IsGone d name → IsEntryOf owner as_text d (Gone name)
  entry_gone d name is = record { form = is.0; written = is.1 }

  entry_error : (d : Data) (e : RecordEntry) → IsErrorOf owner as_text d e → IsEntryOf owner as_text d e
  entry_error d (There r) is = absurd is
  entry_error d (Gone name) is = absurd is
  entry_error d (Failed error name) is = record { form = (is.0, is.1); written = is.2 }
  entry_error d (InConflict name server) is = record { form = (is.0, is.1); written = is.2 }

  none_form : (d : Data) → ((r : Record) → IsReplyOf owner as_text d r → ⊥) → ((name : List ℕ) → IsGone d name → ⊥) → ((e : RecordEntry) → IsErrorOf owner as_text d e → ⊥)
      → (e : RecordEntry) → IsEntryOf owner as_text d e → ⊥
  none_form d no_record no_gone no_errors (There r) is = no_record r (record { stored = is.form; written = is.written })
  none_form d no_record no_gone no_errors (Gone name) is = no_gone name (is.form, is.written)
  none_form d no_record no_gone no_errors (Failed error name) is = no_errors (Failed error name) (is.form.0, is.form.1, is.written)
  none_form d no_record no_gone no_errors (InConflict name server) is = no_errors (InConflict name server) (is.form.0, is.form.1, is.written)

  -- what the reader of errors finds, where there is no record and no deletion
  pub form_of_error : (d : Data) → ((r : Record) → IsReplyOf owner as_text d r → ⊥) → ((name : List ℕ) → IsGone d name → ⊥) → (o : Option RecordEntry)
      → Finds (IsErrorOf owner as_text d) o → Finds (IsEntryOf owner as_text d) o
  form_of_error d no_record no_gone None finds = none_form d no_record no_gone finds
  form_of_error d no_record no_gone (Some e) finds = entry_error d e finds

  pub form_of_answer : {E : Type 0} (d : Data) → ((r : Record) → IsReplyOf owner as_text d r → ⊥) → ((name : List ℕ) → IsGone d name → ⊥) → (answer : Result (Option RecordEntry) E)
      → IfOk answer (Finds (IsErrorOf owner as_text d)) → IfOk answer (Finds (IsEntryOf owner as_text d))
  form_of_answer d no_record no_gone (Ok o) finds = form_of_error d no_record no_gone o finds
  form_of_answer d no_record no_gone (Err fault) finds = tt

  -- ---- no JSON is that of two entries

  pub one_entry : (d : Data) (e f : RecordEntry) → IsEntryOf owner as_text d e → IsEntryOf owner as_text d f → e ≡ f
  one_entry d (There r) (There s) one two =
      ap There (records_read_back owner as_text d r s (record { stored = one.form; written = one.written }) (record { stored = two.form; written = two.written }))
  one_entry d (There r) (Gone n) one two = absurd (cc (ap first_name (one.written ∙ sym two.written)))
  one_entry d (There r) (Failed error n) one two = absurd (cc (ap first_name (one.written ∙ sym two.written)))
  one_entry d (There r) (InConflict n server) one two = absurd (cc (ap first_name (one.written ∙ sym two.written)))
  one_entry d (Gone n) (There s) one two = absurd (cc (ap first_name (one.written ∙ sym two.written)))
  one_entry d (Gone n) (Gone m) one two = ap Gone (cc (gone_named n one.form, gone_named m two.form, ap entry_name (one.written ∙ sym two.written)))
  one_entry d (Gone n) (Failed error m) one two = absurd (cc (ap first_name (one.written ∙ sym two.written)))
  one_entry d (Gone n) (InConflict m server) one two = absurd (cc (ap first_name (one.written ∙ sym two.written)))
  one_entry d (Failed error n) (There s) one two = absurd (cc (ap first_name (one.written ∙ sym two.written)))
  one_entry d (Failed error n) (Gone m) one two = absurd (cc (ap first_name (one.written ∙ sym two.written)))
  one_entry d (Failed error n) (Failed fault m) one two =
      let read_error : error_in d ≡ Some fault = ap error_in (sym two.written) ∙ failed_error (fault, m) in
      let read_name : entry_name d ≡ Some m = ap entry_name (sym two.written) ∙ failed_named (fault, m) two.form.0 in
      let errors : ◌≡◌ {A = ServerError} error fault = cc (ap error_in one.written, failed_error (error, n), read_error) in
      let names : ◌≡◌ {A = List ℕ} n m = cc (ap entry_name one.written, failed_named (error, n) one.form.0, read_name) in
      ap₂ Failed errors names
  one_entry d (Failed error n) (InConflict m server) one two =
      let told : ◌≡◌ {A = ServerError} error Conflict = cc (failed_error (error, n), ap error_in (one.written ∙ sym two.written)) in
      absurd (one.form.1 told)
  one_entry d (InConflict n server) (There s) one two = absurd (cc (ap first_name (one.written ∙ sym two.written)))
  one_entry d (InConflict n server) (Gone m) one two = absurd (cc (ap first_name (one.written ∙ sym two.written)))
  one_entry d (InConflict n server) (Failed error m) one two =
      let told : ◌≡◌ {A = ServerError} error Conflict = cc (failed_error (error, m), ap error_in (two.written ∙ sym one.written)) in
      absurd (two.form.1 told)
  one_entry d (InConflict n server) (InConflict m other_server) one two =
      let read : entry_name d ≡ Some m = ap entry_name (sym two.written) ∙ conflict_named (m, other_server) two.form.0 in
      let is_server = server_in d (m, other_server) (two.form.0, two.form.1, two.written) in
      ap (λ (x : AConflict). InConflict x.0 x.1) (one_conflict d m other_server read is_server (n, server) one.form one.written)

  -- ---- what is asked for

  pub an_answer : (a : Asked) (d : Data) (e : RecordEntry) → IsEntryOf owner as_text d e → answers a e ≡ true → IsAnswer owner as_text a d e
  an_answer a d e is asked = record { asked = record { form = is.form; asked = asked }; written = is.written }

  pub no_answer : (a : Asked) (d : Data) → ((e : RecordEntry) → IsEntryOf owner as_text d e → ⊥) → (e : RecordEntry) → IsAnswer owner as_text a d e → ⊥
  no_answer a d none e is = none e (record { form = is.asked.form; written = is.written })

  pub another : (a : Asked) (d : Data) (e : RecordEntry) → IsEntryOf owner as_text d e → answers a e ≡ false → (f : RecordEntry) → IsAnswer owner as_text a d f → ⊥
  another a d e is not f other =
      let same : e ≡ f = one_entry d e f is (record { form = other.asked.form; written = other.written }) in
      cc (not, ap (answers a) same, other.asked.asked)
