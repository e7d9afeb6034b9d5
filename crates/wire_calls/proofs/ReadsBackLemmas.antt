-- Reading what was written for calls.
use Rattle.std.proofs.Common.{◌≡◌, ℕ, ◌≤◌, Bool, true, false, List, [], ◌∷◌, map, length, Option, None, Some, option_map, bytes_eq, refl, sym, ap, ap₂, ◌∙◌}
use Rattle.std.specs.Prelude.{Result, Ok, codes, IfSome, if◌then◌else◌, ok_or}
use Rattle.std.specs.List.{AllByRecursion}
use Rattle.std.proofs.lemmas.Bool.{le-ltb, and_parts}
use Rattle.std.proofs.lemmas.Slice.Eq.{bytes_eq-Decides}
use Rattle.serde_json.specs.Data.{string}
use Rattle.ck_base.specs.Names.{IsName}
use Rattle.ck_base.specs.declared.key.ZoneKey.{ZoneKey}
use Rattle.field_values.specs.Members.{found}
use Rattle.field_values.specs.Results.{each_or_first_error}
use Rattle.field_values.proofs.ListLemmas.{elements_items}
use Rattle.ck_records.specs.Writing.{named_data}
use Rattle.ck_records.proofs.ObjectLemmas.{Listed}
use Rattle.ck_records.proofs.LookupLemmas.{listed, get_present}
use Rattle.ck_records.proofs.ReadsBackLemmas.{name_told, there}
use Rattle.zone_model.specs.declared.operations.Op.{Op}
use Rattle.modify_ops.specs.Writing.{ops_data}
use Rattle.zone_model.specs.OpForms.{IsMeantOp}
use Rattle.zone_model.specs.Limits.{most_items}
use Rattle.zone_model.specs.GivenNames.{named_again}
use Rattle.modify_ops.proofs.ReadsBackLemmas.{ops_read_back}
use Rattle.ck_base.specs.KnownNames.{default_zone, own_default, is_own_default}
use Rattle.wire_calls.specs.declared.call.ModifyCall.{ModifyCall}
use Rattle.wire_calls.specs.declared.call.LookupCall.{LookupCall}
use Rattle.wire_calls.specs.declared.call.Call.TheVariants.{Modify, Lookup}
use Rattle.wire_calls.specs.declared.lists.Listed.TheVariants.{FieldNames, RecordsByName}
use Rattle.wire_calls.specs.declared.limits.CallList.{CallList}
use Rattle.wire_calls.specs.declared.limits.CallList.TheVariants.{DesiredKeys as KeyList, Records as RecordList}
use Rattle.wire_calls.specs.declared.fault.CallKey.{CallKey}
use Rattle.wire_calls.specs.declared.fault.CallKey.TheVariants.{Atomic, NumbersAsStrings, DesiredKeys, Records}
use Rattle.wire_calls.specs.declared.fault.BadCall.{BadCall}
use Rattle.wire_calls.specs.declared.fault.BadCall.TheVariants.{BadKey}
use Rattle.field_values.specs.ZoneIds.{zone_in, zone_data, IsMeantZone}
use Rattle.wire_calls.specs.Zones.{zone_at}
use Rattle.wire_calls.specs.Members.{flag_at}
use Rattle.wire_calls.specs.Limits.{most_of, limited, limited_if}
use Rattle.wire_calls.specs.Listings.{listed_name, keys_at, records_at}
use Rattle.wire_calls.specs.Calls.{ops_at, checked, modify_of, lookup_of}
use Rattle.wire_calls.specs.CallWriting.{flag_data, zone_given, names_data, records_data, modify_data, lookup_data}
use Rattle.wire_calls.specs.Meant.{AreNames, IsMeantModify, IsMeantLookup, CallsReadBack}

-- ---- the members

flag_reads : (key : CallKey) (default flag : Bool) → flag_at key default (there (flag_data default flag)) ≡ Ok flag
flag_reads key true true = refl
flag_reads key true false = refl
flag_reads key false true = refl
flag_reads key false false = refl

abbrev pub key_from : List ℕ → List ℕ → ZoneKey
key_from owner zone = record { owner = owner; zone = zone }

default_reads : (caller : List ℕ) (key : ZoneKey) → is_own_default caller key ≡ true → own_default caller ≡ key
default_reads caller key is =
    let parts = and_parts (bytes_eq key.owner caller) _ is in
    let owner : key.owner ≡ caller = (bytes_eq-Decides key.owner caller).0 parts.0 in
    let zone : key.zone ≡ default_zone = (bytes_eq-Decides key.zone default_zone).0 parts.1 in
    ap₂ key_from (sym owner) (sym zone)

pub key_reads : (caller : List ℕ) (key : ZoneKey) → IsMeantZone caller key → zone_in caller (zone_data key) ≡ Some key
key_reads caller key is = rw (name_told key.owner is.owner.0, name_told key.zone is.zone, is.owner.1) refl

zone_reads : (caller : List ℕ) (key : ZoneKey) → IsMeantZone caller key → zone_at caller (there (zone_given caller key)) ≡ Ok key
zone_reads caller key is = by (is_own_default caller key) refl where
  by : (b : Bool) → is_own_default caller key ≡ b → zone_at caller (there (if b then None else Some (zone_data key))) ≡ Ok key
  by true default = ap Ok (default_reads caller key default)
  by false default = rw (key_reads caller key is) refl

ops_read : (here : ZoneKey) (caller : List ℕ) (ops : List Op) → AllByRecursion IsMeantOp ops → ops_at here caller (there (Some (ops_data ops))) ≡ Ok ops
ops_read here caller ops all = rw (ops_read_back here caller ops all) refl

texts_read : (names : List (List ℕ)) → AllByRecursion IsName names → each_or_first_error (λ d. ok_or (listed_name FieldNames d) (BadKey DesiredKeys)) (map string names) ≡ Ok names
texts_read [] all = refl
texts_read (name ∷ names) all = rw (name_told name all.0, texts_read names all.1) refl

objects_read : (names : List (List ℕ)) → AllByRecursion IsName names → each_or_first_error (λ d. ok_or (listed_name RecordsByName d) (BadKey Records)) (map named_data names) ≡ Ok names
objects_read [] all = refl
objects_read (name ∷ names) all = rw (name_told name all.0, objects_read names all.1) refl

keys_read : (o : Option (List (List ℕ))) → IfSome o AreNames → keys_at (there (option_map names_data o)) ≡ Ok o
keys_read None is = refl
keys_read (Some names) is = rw (elements_items (map string names), texts_read names is.0) refl

records_read : (names : List (List ℕ)) → AllByRecursion IsName names → records_at (there (Some (records_data names))) ≡ Ok names
records_read names all = rw (elements_items (map named_data names), objects_read names all) refl

-- ---- the limits

within : {A B : Type 0} (list : CallList) (xs : List A) (after : Result B BadCall) → length xs ≤ most_of list → limited list xs after ≡ after
within list xs after few = rw (le-ltb (most_of list) (length xs) few) refl

within_if : {B : Type 0} (o : Option (List (List ℕ))) (after : Result B BadCall) → IfSome o AreNames → limited_if KeyList o after ≡ after
within_if None after is = refl
within_if (Some names) after is = within KeyList names after is.1

checks : (ops : List Op) → length ops ≤ most_items → named_again ops ≡ None → checked ops ≡ Ok ops
checks ops few once = rw (le-ltb most_items (length ops) few, once) refl

-- ---- the calls

abbrev pub modify_table : ModifyCall → Listed
modify_table c =
    (codes "atomic", flag_data true c.atomic)
    ∷ (codes "numbersAsStrings", flag_data false c.numbers_as_strings)
    ∷ (codes "operations", Some (ops_data c.ops))
    ∷ (codes "zoneID", zone_given c.caller c.zone)
    ∷ []

abbrev pub lookup_table : LookupCall → Listed
lookup_table c =
    (codes "desiredKeys", option_map names_data c.desired_keys)
    ∷ (codes "numbersAsStrings", flag_data false c.numbers_as_strings)
    ∷ (codes "records", Some (records_data c.names))
    ∷ (codes "zoneID", zone_given c.caller c.zone)
    ∷ []

modify_reads : (c : ModifyCall) → IsMeantModify c → modify_of c.database c.caller (modify_data c) ≡ Ok c
modify_reads c is =
    let there_is : (k : List ℕ) → found k (modify_data c) ≡ there (listed k (modify_table c)) = λ k. ap there (get_present k (modify_table c) refl) in
    let zone : zone_at c.caller (found (codes "zoneID") (modify_data c)) ≡ Ok c.zone = ap (zone_at c.caller) (there_is (codes "zoneID")) ∙ zone_reads c.caller c.zone is.zone in
    let atomic : flag_at Atomic true (found (codes "atomic") (modify_data c)) ≡ Ok c.atomic = ap (flag_at Atomic true) (there_is (codes "atomic")) ∙ flag_reads Atomic true c.atomic in
    let numbers : flag_at NumbersAsStrings false (found (codes "numbersAsStrings") (modify_data c)) ≡ Ok c.numbers_as_strings =
    ap (flag_at NumbersAsStrings false) (there_is (codes "numbersAsStrings")) ∙ flag_reads NumbersAsStrings false c.numbers_as_strings in
    let ops : ops_at c.zone c.caller (found (codes "operations") (modify_data c)) ≡ Ok c.ops = ap (ops_at c.zone c.caller) (there_is (codes "operations")) ∙ ops_read c.zone c.caller c.ops is.ops.meant in
    rw (zone, atomic, numbers, ops, checks c.ops is.ops.few is.ops.once) refl

lookup_reads : (c : LookupCall) → IsMeantLookup c → lookup_of c.database c.caller (lookup_data c) ≡ Ok c
lookup_reads c is =
    let there_is : (k : List ℕ) → found k (lookup_data c) ≡ there (listed k (lookup_table c)) = λ k. ap there (get_present k (lookup_table c) refl) in
    let zone : zone_at c.caller (found (codes "zoneID") (lookup_data c)) ≡ Ok c.zone = ap (zone_at c.caller) (there_is (codes "zoneID")) ∙ zone_reads c.caller c.zone is.zone in
    let numbers : flag_at NumbersAsStrings false (found (codes "numbersAsStrings") (lookup_data c)) ≡ Ok c.numbers_as_strings =
    ap (flag_at NumbersAsStrings false) (there_is (codes "numbersAsStrings")) ∙ flag_reads NumbersAsStrings false c.numbers_as_strings in
    let keys : keys_at (found (codes "desiredKeys") (lookup_data c)) ≡ Ok c.desired_keys = ap keys_at (there_is (codes "desiredKeys")) ∙ keys_read c.desired_keys is.keys in
    let names : records_at (found (codes "records") (lookup_data c)) ≡ Ok c.names = ap records_at (there_is (codes "records")) ∙ records_read c.names is.names.0 in
    rw (zone, numbers, keys, names) (within_if c.desired_keys _ is.keys ∙ within RecordList c.names _ is.names.1)

pub calls_read_back : CallsReadBack
calls_read_back (Modify c) is = rw (modify_reads c is) refl
calls_read_back (Lookup c) is = rw (lookup_reads c is) refl
