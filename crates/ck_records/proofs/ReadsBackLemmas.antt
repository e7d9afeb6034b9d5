-- Reading what was written.
use Rattle.std.proofs.Common.{◌≡◌, ℕ, ◌==◌, List, [], ◌∷◌, map, length, true, false, nat_lt, Option, None, Some, option_map, refl, ap, ◌∙◌, arith}
use Rattle.std.specs.Prelude.{Result, Ok, codes, IfSome, option_and_then}
use Rattle.std.specs.List.{AllByRecursion, list_all}
use Rattle.std.proofs.lemmas.Bool.{ne_eqb, le-ltb}
use Rattle.serde_json.specs.Data.{Data, string}
use Rattle.ck_base.specs.Names.{IsName}
use Rattle.ck_base.specs.Reading.{name_of}
use Rattle.ck_base.specs.declared.key.ZoneKey.{ZoneKey}
use Rattle.record_model.specs.declared.value.Value.{Value}
use Rattle.field_values.specs.Members.{unless_null, found}
use Rattle.record_model.specs.ValueForms.{IsMeant}
use Rattle.field_values.specs.Reading.{field_of}
use Rattle.field_values.specs.Results.{each_or_first_error}
use Rattle.field_values.proofs.ListLemmas.{elements_items}
use Rattle.field_values.proofs.ReadsBackLemmas.{reads_back}
use Rattle.share_records.specs.declared.permission.Permission.{Permission}
use Rattle.share_records.specs.declared.participant.PartKind.{PartKind}
use Rattle.share_records.specs.declared.participant.Wanted.{Wanted}
use Rattle.record_model.specs.declared.draft.ParentWish.{ParentWish}
use Rattle.record_model.specs.declared.draft.ParentWish.TheVariants.{Absent, Null, To}
use Rattle.record_model.specs.declared.draft.ForRoot.{ForRoot}
use Rattle.record_model.specs.declared.draft.Draft.{Draft}
use Rattle.ck_records.specs.declared.fault.RecordKey.{RecordKey}
use Rattle.ck_records.specs.declared.fault.RecordKey.TheVariants.{RecordName, RecordType}
use Rattle.ck_records.specs.declared.fault.RecordFault.{RecordFault}
use Rattle.record_model.specs.DraftForms.{may_have}
use Rattle.ck_records.specs.Participants.{entry_of, entries_of, participants_at}
use Rattle.ck_records.specs.DraftFields.{entries, is_named, wish_of, wishes_in, fields_at}
use Rattle.ck_records.specs.Reading.{name_at, tag_at, parent_at, root_at, public_at, draft_from}
use Rattle.ck_records.specs.DraftWriting.{wish_data, wishes_members, wishes_data, parent_data, root_data, wanted_data, wanted_list_data, public_data, draft_members, draft_data}
use Rattle.record_model.specs.DraftForms.{IsParentWish, IsForRoot, IsWanted, IsWish, AreWishes}
use Rattle.ck_records.specs.RoundTrip.{DraftsReadBack}
use Rattle.ck_records.proofs.LookupLemmas.{listed, get_present, entries_at, put_in_order}

-- a name is told as itself
pub name_told : (bytes : List ℕ) → IsName bytes → name_of bytes ≡ Ok bytes
name_told bytes name =
    let some : (length bytes == 0) ≡ false = ne_eqb _ 0 (λ none. omega (arith, none, name.0)) in
    let short : nat_lt 255 (length bytes) ≡ false = le-ltb 255 (length bytes) name.1 in
    rw (some, short, name.2) refl

-- ---- the members of a draft

-- a member as it is looked for
abbrev pub there : Option Data → Option Data
there o = option_and_then unless_null o

pub name_reads : (key : RecordKey) (o : Option (List ℕ)) → IfSome o IsName → name_at key (there (option_map string o)) ≡ Ok o
name_reads key None is = refl
name_reads key (Some name) is = rw (name_told name is) refl

pub tag_reads : (o : Option (List ℕ)) → tag_at (there (option_map string o)) ≡ Ok o
tag_reads None = refl
tag_reads (Some tag) = refl

pub parent_reads : (p : ParentWish) → IsParentWish p → parent_at (parent_data p) ≡ Ok p
parent_reads Absent is = refl
parent_reads Null is = refl
parent_reads (To name) is = rw (name_told name is) refl

pub root_reads : (name : List ℕ) (tag : Option (List ℕ)) → IsName name → root_at (Some (root_data (record { name = name; tag = tag }))) ≡ Ok (Some (record { name = name; tag = tag }))
root_reads name None is = rw (name_told name is) refl
root_reads name (Some tag) is = rw (name_told name is) refl

roots_read : (o : Option ForRoot) → IfSome o IsForRoot → root_at (there (option_map root_data o)) ≡ Ok o
roots_read None is = refl
roots_read (Some root) is = root_reads root.name root.tag is.0

pub public_reads : (o : Option Permission) → public_at (there (option_map public_data o)) ≡ Ok o
public_reads None = refl
public_reads (Some Permission.Nothing) = refl
public_reads (Some Permission.ReadOnly) = refl
public_reads (Some Permission.ReadWrite) = refl

wanted_reads : (user : List ℕ) (kind : PartKind) (permission : Permission) → IsName user → may_have kind permission ≡ true
    → entry_of (wanted_data (record { user = user; kind = kind; permission = permission })) ≡ Ok (Some (record { user = user; kind = kind; permission = permission }))
wanted_reads user PartKind.Member Permission.Nothing is may = absurd (cc may)
wanted_reads user PartKind.Member Permission.ReadOnly is may = rw (name_told user is) refl
wanted_reads user PartKind.Member Permission.ReadWrite is may = rw (name_told user is) refl
wanted_reads user PartKind.Public Permission.Nothing is may = rw (name_told user is) refl
wanted_reads user PartKind.Public Permission.ReadOnly is may = rw (name_told user is) refl
wanted_reads user PartKind.Public Permission.ReadWrite is may = rw (name_told user is) refl

list_reads : (ws : List Wanted) → AllByRecursion IsWanted ws → entries_of (map wanted_data ws) ≡ Ok ws
list_reads [] all = refl
list_reads (w ∷ ws) all = rw (wanted_reads w.user w.kind w.permission all.0.0 all.0.1, list_reads ws all.1) refl

participants_read : (o : Option (List Wanted)) → IfSome o (AllByRecursion IsWanted) → participants_at (there (option_map wanted_list_data o)) ≡ Ok o
participants_read None is = refl
participants_read (Some ws) is = rw (elements_items (map wanted_data ws), list_reads ws is) refl

-- ---- its fields

module _ (here : ZoneKey) (caller : List ℕ) where
  value_reads : (value : Option Value) → IfSome value IsMeant → field_of here caller (wish_data value) ≡ Ok value
  value_reads None is = refl
  value_reads (Some v) is = reads_back here caller false v is

  wish_reads : (name : List ℕ) (value : Option Value) → IsName name → IfSome value IsMeant → wish_of here caller (name, wish_data value) ≡ Ok (name, value)
  wish_reads name value is meant = rw (name_told name is, value_reads value meant) refl

  each_reads : (ws : List (List ℕ × Option Value)) → AllByRecursion IsWish ws → each_or_first_error (wish_of here caller) (map (λ (w : List ℕ × Option Value). (w.0, wish_data w.1)) ws) ≡ Ok ws
  each_reads [] all = refl
  each_reads (w ∷ ws) all = rw (wish_reads w.0 w.1 all.0.0 all.0.1, each_reads ws all.1) refl

  each_named : (ws : List (List ℕ × Option Value)) → AllByRecursion IsWish ws → list_all is_named (map (λ (w : List ℕ × Option Value). (w.0, wish_data w.1)) ws) ≡ true
  each_named [] all = refl
  each_named (w ∷ ws) all = rw (name_told w.0 all.0.0) (each_named ws all.1)

  all_read : (ws : List (List ℕ × Option Value)) → AreWishes ws → wishes_in here caller (Some (wishes_members ws)) ≡ Ok ws
  all_read ws are =
      let stand : entries (wishes_members ws) ≡ map (λ (w : List ℕ × Option Value). (w.0, wish_data w.1)) ws =
      ap entries (put_in_order wish_data ws are.1) ∙ entries_at (map (λ (w : List ℕ × Option Value). (w.0, wish_data w.1)) ws) in
      rw (stand, each_named ws are.0, each_reads ws are.0) refl

  fields_read : (ws : List (List ℕ × Option Value)) → AreWishes ws → fields_at here caller (there (wishes_data ws)) ≡ Ok ws
  fields_read [] are = refl
  fields_read (w ∷ ws) are =
      let some : (length (w ∷ ws) == 0) ≡ false = ne_eqb _ 0 (λ none. omega (arith, none)) in
      rw some (all_read (w ∷ ws) are)

-- ---- the draft

pub draft_from-all : (a b c : Result (Option (List ℕ)) RecordFault) (p : Result ParentWish RecordFault) (f : Result (Option ForRoot) RecordFault) (q : Result (Option Permission) RecordFault)
    (l : Result (Option (List Wanted)) RecordFault) (w : Result (List (List ℕ × Option Value)) RecordFault) (d : Draft)
    → a ≡ Ok d.name → b ≡ Ok d.rtype → c ≡ Ok d.tag → p ≡ Ok d.parent → f ≡ Ok d.for_root → q ≡ Ok d.public → l ≡ Ok d.participants → w ≡ Ok d.fields
    → draft_from a b c p f q l w ≡ Ok d
draft_from-all a b c p f q l w d ea eb ec ep ef eq el ew = rw (ea, eb, ec, ep, ef, eq, el, ew) refl

found_in : (d : Draft) (k : List ℕ) → found k (draft_data d) ≡ there (listed k (draft_members d))
found_in d k = ap there (get_present k (draft_members d) refl)

pub drafts_read_back : DraftsReadBack
drafts_read_back here caller d meant = draft_from-all _ _ _ _ _ _ _ _ d
    (ap (name_at RecordName) (found_in d (codes "recordName")) ∙ name_reads RecordName d.name meant.name)
    (ap (name_at RecordType) (found_in d (codes "recordType")) ∙ name_reads RecordType d.rtype meant.rtype)
    (ap tag_at (found_in d (codes "recordChangeTag")) ∙ tag_reads d.tag)
    (ap parent_at (get_present (codes "parent") (draft_members d) refl) ∙ parent_reads d.parent meant.parent)
    (ap root_at (found_in d (codes "forRecord")) ∙ roots_read d.for_root meant.root)
    (ap public_at (found_in d (codes "publicPermission")) ∙ public_reads d.public)
    (ap participants_at (found_in d (codes "participants")) ∙ participants_read d.participants meant.participants)
    (ap (fields_at here caller) (found_in d (codes "fields")) ∙ fields_read here caller d.fields meant.fields)
