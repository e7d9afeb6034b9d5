-- The entries of lists of zones.
use Rattle.std.proofs.Common.{◌≡◌, ◌≤◌, ◌↔◌, IsTrue, ℕ, Bool, true, false, List, [], ◌∷◌, map, Option, None, Some, refl, sym, ap, ap₂, ◌∙◌, arith}
use Rattle.std.specs.Prelude.{◌≢◌, codes, option_and_then, Result, Ok, Err, IfOk}
use Rattle.std.proofs.lemmas.Bool.{or_from}
use Rattle.serde_json.specs.Data.{Data, depth, items_depth}
use Rattle.serde_json.specs.View.{items_of}
use Rattle.serde_json.specs.Written.{has_float, items_have_float}
use Rattle.ck_base.specs.Told.{IsToldUnless}
use Rattle.ck_base.specs.declared.key.ZoneKey.{ZoneKey}
use Rattle.field_values.specs.Exact.{IsExact}
use Rattle.field_values.specs.Members.{found}
use Rattle.field_values.specs.ZoneIds.{zone_in, zone_data, IsMeantZone}
use Rattle.error_replies.specs.declared.errors.ServerError.{ServerError}
use Rattle.wire_calls.specs.declared.thing.Thing.TheVariants.{Zone}
use Rattle.wire_calls.specs.declared.zone_entries.AskedZone.{AskedZone}
use Rattle.wire_calls.specs.declared.zone_entries.ZoneEntry.{ZoneEntry}
use Rattle.wire_calls.specs.declared.zone_entries.ZoneEntry.TheVariants.{There, Gone, Failed}
use Rattle.wire_calls.specs.Found.{Finds, error_in, IsPlain, IsGoneOf, IsFailedOf, IsThere, IsZoneOf}
use Rattle.wire_calls.specs.declared.reply_fault.ReplyFault.{ReplyFault}
use Rattle.wire_calls.specs.declared.reply_fault.ReplyFault.TheVariants.{NoMemory}
use Rattle.wire_calls.specs.ReplyLists.{IsEntryFor, IsListFor, IsBadList, Tells}
use Rattle.wire_calls.specs.Things.{gone_of, failed_of}
use Rattle.wire_calls.specs.ZoneEntries.{there_data, zone_entry_data, answers_zone, zones_key, IsZoneAsked, zones_data, ZoneListsAreOne, ZoneListsAreExact}
use Rattle.wire_calls.proofs.ReadsBackLemmas.{key_from, key_reads}
use Rattle.wire_calls.proofs.ReplyListLemmas.{one_listing, only_list}
use Rattle.wire_calls.proofs.ThingLemmas.{just, other, first_name, error_in_failed}

-- ---- zone IDs

pub zone_told : (caller : List ℕ) (key : ZoneKey) → IsMeantZone caller key → zone_in caller (zone_data key) ≡ Some key
zone_told caller key is = key_reads caller key is

pub zone_plain : (key : ZoneKey) → IsPlain (zone_data key)
zone_plain key = record { there = refl; whole = refl; shallow = omega arith }

one_key : (k l : ZoneKey) → zone_data k ≡ zone_data l → k ≡ l
one_key k l e =
    let owner : k.owner ≡ l.owner = cc e in
    let zone : k.zone ≡ l.zone = cc e in
    ap₂ key_from owner zone

-- ---- a zone that is there

there_exact : (key : ZoneKey) → IsExact (there_data key)
there_exact key = record { whole = refl; shallow = omega arith }

there_named : (caller : List ℕ) (key : ZoneKey) → IsMeantZone caller key → option_and_then (zone_in caller) (found (codes "zoneID") (there_data key)) ≡ Some key
there_named caller key is = key_reads caller key is

pub none_there : (caller : List ℕ) (d : Data) → option_and_then (zone_in caller) (found (codes "zoneID") d) ≡ None → (key : ZoneKey) → IsThere caller d key → ⊥
none_there caller d none key is = cc (ap (λ e. option_and_then (zone_in caller) (found (codes "zoneID") e)) is.1, there_named caller key is.0, none)

module _ (caller : List ℕ) (d : Data) (key : ZoneKey) (w : Data) (writes : w ≡ there_data key) (same : Bool) (tells : IsExact w → (IsTrue same ↔ (d ≡ w))) where
  pub just_there : IsMeantZone caller key → same ≡ true → IsThere caller d key
  just_there is matches = (is, just there_data (IsMeantZone caller) (λ k is. there_exact k) d key w writes same tells is matches)

  pub other_there : option_and_then (zone_in caller) (found (codes "zoneID") d) ≡ Some key → same ≡ false → (l : ZoneKey) → IsThere caller d l → ⊥
  other_there read differs l is =
      other there_data (IsMeantZone caller) (λ k is. there_exact k) d key w writes same tells differs
      (λ k is e. cc (ap (λ e. option_and_then (zone_in caller) (found (codes "zoneID") e)) e, there_named caller k is, read)) l is.0 is.1

-- ---- entries

module _ (caller : List ℕ) (d : Data) where
  pub zone_there : (key : ZoneKey) → IsThere caller d key → IsZoneOf caller d (There key)
  zone_there key is = record { form = is.0; written = is.1 }

  pub zone_gone : (key : ZoneKey) → IsGoneOf Zone (IsMeantZone caller) zone_data d key → IsZoneOf caller d (Gone key)
  zone_gone key is = record { form = is.0; written = is.1 }

  pub zone_failed : (error : ServerError) (key : ZoneKey) → IsFailedOf Zone (IsMeantZone caller) zone_data d (error, key) → IsZoneOf caller d (Failed error key)
  zone_failed error key is = record { form = (is.0, is.1); written = is.2 }

  pub no_zone : ((key : ZoneKey) → IsThere caller d key → ⊥) → ((key : ZoneKey) → IsGoneOf Zone (IsMeantZone caller) zone_data d key → ⊥)
      → ((x : ServerError × ZoneKey) → IsFailedOf Zone (IsMeantZone caller) zone_data d x → ⊥) → (e : ZoneEntry) → IsZoneOf caller d e → ⊥
  no_zone no_there no_gone no_failed (There key) is = no_there key (is.form, is.written)
  no_zone no_there no_gone no_failed (Gone key) is = no_gone key (is.form, is.written)
  no_zone no_there no_gone no_failed (Failed error key) is = no_failed (error, key) (is.form.0, is.form.1, is.written)

zone_whole : (e : ZoneEntry) → has_float (zone_entry_data e) ≡ false
zone_whole (There key) = refl
zone_whole (Gone key) = refl
zone_whole (Failed error key) = refl

zone_shallow : (e : ZoneEntry) → depth (zone_entry_data e) ≤ 2
zone_shallow (There key) = omega arith
zone_shallow (Gone key) = omega arith
zone_shallow (Failed error key) = omega arith

-- what was made for an entry has no float
pub zone_made_whole : {A E : Type 0} (seen : A → Data) (e : ZoneEntry) (answer : Result A E) → IfOk answer (λ a. seen a ≡ zone_entry_data e) → IfOk answer (λ a. has_float (seen a) ≡ false)
zone_made_whole seen e (Ok a) is = ap has_float is ∙ zone_whole e
zone_made_whole seen e (Err fault) is = tt

same_written : (e f : ZoneEntry) → zone_entry_data e ≡ zone_entry_data f → e ≡ f
same_written (There k) (There l) same = ap There (one_key k l (cc same))
same_written (There k) (Gone l) same = absurd (cc (ap first_name same))
same_written (There k) (Failed error l) same = absurd (cc (ap first_name same))
same_written (Gone k) (There l) same = absurd (cc (ap first_name same))
same_written (Gone k) (Gone l) same = ap Gone (one_key k l (cc same))
same_written (Gone k) (Failed error l) same = absurd (cc (ap first_name same))
same_written (Failed error k) (There l) same = absurd (cc (ap first_name same))
same_written (Failed error k) (Gone l) same = absurd (cc (ap first_name same))
same_written (Failed error k) (Failed fault l) same =
    let errors : ◌≡◌ {A = ServerError} error fault = cc (ap error_in same, error_in_failed Zone error (zone_data k), error_in_failed Zone fault (zone_data l)) in
    let ids : ◌≡◌ {A = Option Data} (Some (zone_data k)) (Some (zone_data l)) = ap (found (codes "zoneID")) same in
    ap₂ Failed errors (one_key k l (cc ids))

-- ---- what is asked for

module _ (caller : List ℕ) (a : AskedZone) (d : Data) where
  pub asked_zone : (e : ZoneEntry) → IsZoneOf caller d e → answers_zone a e ≡ true → IsEntryFor (IsZoneAsked caller) zone_entry_data a d e
  asked_zone e is asked = record { asked = record { form = is.form; asked = asked }; written = is.written }

  pub no_asked_zone : ((e : ZoneEntry) → IsZoneOf caller d e → ⊥) → (e : ZoneEntry) → IsEntryFor (IsZoneAsked caller) zone_entry_data a d e → ⊥
  no_asked_zone none e is = none e (record { form = is.asked.form; written = is.written })

  pub another_zone : (e : ZoneEntry) → IsZoneOf caller d e → answers_zone a e ≡ false → (f : ZoneEntry) → IsEntryFor (IsZoneAsked caller) zone_entry_data a d f → ⊥
  another_zone e is not f asked = cc (not, ap (answers_zone a) (same_written e f (is.written ∙ sym asked.written)), asked.asked.asked)

-- ---- lists

same_lists : (es fs : List ZoneEntry) → map zone_entry_data es ≡ map zone_entry_data fs → es ≡ fs
same_lists [] [] same = refl
same_lists [] (f ∷ fs) same = absurd (cc same)
same_lists (e ∷ es) [] same = absurd (cc same)
same_lists (e ∷ es) (f ∷ fs) same =
    let here : zone_entry_data e ≡ zone_entry_data f = cc same in
    let others : map zone_entry_data es ≡ map zone_entry_data fs = cc same in
    rw (same_written e f here, same_lists es fs others) refl

pub zone_lists_one : ZoneListsAreOne
zone_lists_one es fs same = same_lists es fs (one_listing zones_key (zones_data fs) (map zone_entry_data es) (map zone_entry_data fs) same refl)

zones_whole : (es : List ZoneEntry) → items_have_float (items_of (map zone_entry_data es)) ≡ false
zones_whole [] = refl
zones_whole (e ∷ es) = or_from _ _ (zone_whole e) (zones_whole es)

zones_shallow : (es : List ZoneEntry) → items_depth (items_of (map zone_entry_data es)) ≤ 2
zones_shallow [] = omega arith
zones_shallow (e ∷ es) = omega (arith, zone_shallow e, zones_shallow es)

pub zone_lists_exact : ZoneListsAreExact
zone_lists_exact es = record { whole = or_from _ _ (zones_whole es) refl; shallow = omega (arith, zones_shallow es) }

module _ (caller : List ℕ) (wants : List AskedZone) (d : Data) where
  pub only_zones : (es : List ZoneEntry) → IsListFor (IsZoneAsked caller) zone_entry_data zones_key wants d es → (answer : Result (List ZoneEntry) ReplyFault)
      → Tells (IsListFor (IsZoneAsked caller) zone_entry_data zones_key wants d) (IsBadList (IsZoneAsked caller) zone_entry_data zones_key wants d) answer
      → IsToldUnless NoMemory answer (Ok es)
  only_zones es is answer told = only_list (IsZoneAsked caller) zone_entry_data zones_key wants d zone_lists_one es is answer told
