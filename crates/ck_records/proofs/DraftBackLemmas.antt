-- What is written for a record is read as a draft.
use Rattle.std.proofs.Common.{◌≡◌, ℕ, Bool, true, false, List, [], ◌∷◌, map, decimal, Option, None, Some, option_map, refl, sym, ap, ◌∙◌}
use Rattle.std.specs.Prelude.{Ok, codes, IfSome}
use Rattle.std.specs.List.{AllByRecursion, list_all}
use Rattle.serde_json.specs.Data.{Data, string, object}
use Rattle.ck_base.specs.Names.{IsName}
use Rattle.ck_base.specs.declared.key.ZoneKey.{ZoneKey}
use Rattle.record_model.specs.declared.value.Value.{Value}
use Rattle.field_values.specs.Members.{found}
use Rattle.field_values.specs.Writing.{field_data}
use Rattle.field_values.specs.Results.{each_or_first_error}
use Rattle.field_values.proofs.ListLemmas.{elements_items}
use Rattle.field_values.proofs.ReadsBackLemmas.{reads_back}
use Rattle.share_records.specs.declared.permission.Permission.{Permission}
use Rattle.share_records.specs.declared.participant.PartKind.{PartKind}
use Rattle.share_records.specs.declared.participant.Participant.{Participant}
use Rattle.share_records.specs.declared.share.Share.{Share as ShareOf}
use Rattle.record_model.specs.declared.draft.ParentWish.TheVariants.{To}
use Rattle.record_model.specs.declared.records.Body.{Body}
use Rattle.record_model.specs.declared.records.Body.TheVariants.{Plain, Share}
use Rattle.record_model.specs.declared.records.Record.{Record}
use Rattle.record_model.specs.RecordForms.{share_in, IsField, AreFields, is_kept, IsParticipant, IsShare, IsBodyOf, IsStored}
use Rattle.ck_records.specs.declared.fault.RecordKey.TheVariants.{RecordName, RecordType}
use Rattle.ck_records.specs.DraftFields.{entries, is_named, wish_of, fields_at}
use Rattle.ck_records.specs.Participants.{entry_of, entries_of, participants_at}
use Rattle.ck_records.specs.Reading.{name_at, tag_at, parent_at, root_at, public_at, draft_of}
use Rattle.ck_records.specs.Spellings.{permission_name}
use Rattle.ck_records.specs.Writing.{named_data, fields_members, participant_data, participants_data, record_members, record_data}
use Rattle.ck_records.specs.Replied.{IsReplyOf}
use Rattle.ck_records.specs.Shown.{as_wish, as_wanted, as_parent, as_root, as_draft}
use Rattle.ck_records.proofs.LookupLemmas.{listed, get_present, entries_at, put_in_order}
use Rattle.ck_records.proofs.ReadsBackLemmas.{name_told, there, name_reads, tag_reads, parent_reads, root_reads, public_reads, draft_from-all}

abbrev Field : Type 0
Field = List ℕ × Value

-- ---- its members, as those of a draft

parent_back : (o : Option (List ℕ)) → IfSome o IsName → parent_at (option_map named_data o) ≡ Ok (as_parent o)
parent_back None is = refl
parent_back (Some name) is = parent_reads (To name) is

root_back : (o : Option ShareOf) → IfSome o IsShare → root_at (there (option_map (λ (s : ShareOf). named_data s.root) o)) ≡ Ok (option_map as_root o)
root_back None is = refl
root_back (Some s) is = root_reads s.root None is.root

public_back : (o : Option ShareOf) → public_at (there (option_map (λ (s : ShareOf). string (permission_name s.public)) o)) ≡ Ok (option_map (λ (s : ShareOf). s.public) o)
public_back None = refl
public_back (Some s) = public_reads (Some s.public)

wanted_back : (public : Permission) (user : List ℕ) (kind : PartKind) (permission : Permission) (accepted : Bool) → IsName user → is_kept kind permission accepted ≡ true
    → entry_of (participant_data public (record { user = user; kind = kind; permission = permission; accepted = accepted }))
    ≡ Ok (Some (as_wanted public (record { user = user; kind = kind; permission = permission; accepted = accepted })))
wanted_back public user PartKind.Member Permission.Nothing accepted is kept = absurd (cc kept)
wanted_back public user PartKind.Member Permission.ReadOnly accepted is kept = rw (name_told user is) refl
wanted_back public user PartKind.Member Permission.ReadWrite accepted is kept = rw (name_told user is) refl
wanted_back Permission.Nothing user PartKind.Public permission accepted is kept = rw (name_told user is) refl
wanted_back Permission.ReadOnly user PartKind.Public permission accepted is kept = rw (name_told user is) refl
wanted_back Permission.ReadWrite user PartKind.Public permission accepted is kept = rw (name_told user is) refl

all_back : (public : Permission) (ps : List Participant) → AllByRecursion IsParticipant ps → entries_of (map (participant_data public) ps) ≡ Ok (map (as_wanted public) ps)
all_back public [] all = refl
all_back public (p ∷ ps) all = rw (wanted_back public p.user p.kind p.permission p.accepted all.0.0 all.0.1, all_back public ps all.1) refl

list_back : (owner : List ℕ) (o : Option ShareOf) → IfSome o IsShare
    → participants_at (there (option_map (participants_data owner) o)) ≡ Ok (option_map (λ (s : ShareOf). map (as_wanted s.public) s.participants) o)
list_back owner None is = refl
list_back owner (Some s) is = rw (elements_items (map (participant_data s.public) s.participants), all_back s.public s.participants is.participants.0) refl

module _ (here : ZoneKey) (as_text : Bool) where
  abbrev written : Field → List ℕ × Data
  written field = (field.0, field_data as_text field.1)

  field_back : (f : Field) → IsField f → wish_of here here.owner (written f) ≡ Ok (as_wish f)
  field_back f is = rw (name_told f.0 is.0, reads_back here here.owner as_text f.1 is.1) refl

  each_back : (fields : List Field) → AllByRecursion IsField fields → each_or_first_error (wish_of here here.owner) (map written fields) ≡ Ok (map as_wish fields)
  each_back [] all = refl
  each_back (f ∷ fields) all = rw (field_back f all.0, each_back fields all.1) refl

  each_named : (fields : List Field) → AllByRecursion IsField fields → list_all is_named (map written fields) ≡ true
  each_named [] all = refl
  each_named (f ∷ fields) all = rw (name_told f.0 all.0.0) (each_named fields all.1)

  fields_back : (fields : List Field) → AreFields fields → fields_at here here.owner (Some (object (fields_members as_text fields))) ≡ Ok (map as_wish fields)
  fields_back fields are =
      let stand : entries (fields_members as_text fields) ≡ map written fields =
      ap entries (put_in_order (field_data as_text) fields are.1) ∙ entries_at (map written fields) in
      rw (stand, each_named fields are.0) (each_back fields are.0)

pub found_in : (owner : List ℕ) (as_text : Bool) (r : Record) (k : List ℕ) → found k (record_data owner as_text r) ≡ there (listed k (record_members owner as_text r))
found_in owner as_text r k = ap there (get_present k (record_members owner as_text r) refl)

pub share_is : (rtype : List ℕ) (body : Body) → IsBodyOf rtype body → IfSome (share_in body) IsShare
share_is rtype Plain is = tt
share_is rtype (Share s) is = is.1

-- what is written for a record is that draft in a request
draft_back : (here : ZoneKey) (as_text : Bool) (r : Record) → IsStored r → draft_of here here.owner (record_data here.owner as_text r) ≡ Ok (as_draft r)
draft_back here as_text r is =
    let there_is = found_in here.owner as_text r in
    let share = share_is r.rtype r.body is.body in
    draft_from-all _ _ _ _ _ _ _ _ (as_draft r)
    (ap (name_at RecordName) (there_is (codes "recordName")) ∙ name_reads RecordName (Some r.name) is.name)
    (ap (name_at RecordType) (there_is (codes "recordType")) ∙ name_reads RecordType (Some r.rtype) is.rtype)
    (ap tag_at (there_is (codes "recordChangeTag")) ∙ tag_reads (Some (decimal r.tag)))
    (ap parent_at (get_present (codes "parent") (record_members here.owner as_text r) refl) ∙ parent_back r.parent is.parent)
    (ap root_at (there_is (codes "forRecord")) ∙ root_back (share_in r.body) share)
    (ap public_at (there_is (codes "publicPermission")) ∙ public_back (share_in r.body))
    (ap participants_at (there_is (codes "participants")) ∙ list_back here.owner (share_in r.body) share)
    (ap (fields_at here here.owner) (there_is (codes "fields")) ∙ fields_back here as_text r.fields is.fields)

-- what JSON in a reply is as a draft
pub reply_drafts : (here : ZoneKey) (as_text : Bool) (d : Data) (r : Record) → IsReplyOf here.owner as_text d r
    → draft_of here here.owner d ≡ Ok (as_draft r)
reply_drafts here as_text d r is = ap (draft_of here here.owner) (sym is.written) ∙ draft_back here as_text r is.stored
