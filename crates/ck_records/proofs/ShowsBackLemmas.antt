-- What is written for a record tells its parts.
use Rattle.std.proofs.Common.{◌≡◌, ℕ, zero, suc, ◌<◌, ◌^◌, length, get_or, arith, Bool, true, false, List, [], ◌∷◌, map, decimal, drop, Option, None, Some, option_map, refl, sym, ap, subst, ◌∙◌}
use Rattle.std.specs.Prelude.{Result, Ok, codes, IfSome, option_and_then}
use Rattle.std.specs.List.{AllByRecursion}
use Rattle.std.specs.Option.{option_map_or}
use Rattle.serde_json.specs.Data.{Data, string}
use Rattle.serde_json.specs.Find.{as_array, as_str}
use Rattle.ck_base.specs.Names.{IsName}
use Rattle.ck_base.specs.Guids.{IsGuid, guid_of}
use Rattle.ck_base.specs.declared.key.ZoneKey.{ZoneKey}
use Rattle.ck_base.specs.Numbers.{number_of}
use Rattle.ck_base.proofs.NumberLemmas.{number-decimal}
use Rattle.record_model.specs.declared.value.Value.{Value}
use Rattle.field_values.specs.Members.{found, elements}
use Rattle.field_values.specs.References.{name_in}
use Rattle.field_values.proofs.ListLemmas.{elements_items}
use Rattle.share_records.specs.declared.permission.Permission.{Permission}
use Rattle.share_records.specs.declared.participant.PartKind.{PartKind}
use Rattle.share_records.specs.declared.participant.Participant.{Participant}
use Rattle.share_records.specs.declared.participant.Wanted.{Wanted}
use Rattle.share_records.specs.declared.share.Share.{Share as ShareOf}
use Rattle.record_model.specs.declared.records.Stamp.{Stamp}
use Rattle.record_model.specs.declared.records.Body.{Body}
use Rattle.record_model.specs.declared.records.Body.TheVariants.{Plain, Share}
use Rattle.record_model.specs.declared.records.Record.{Record}
use Rattle.record_model.specs.declared.draft.ForRoot.{ForRoot}
use Rattle.record_model.specs.declared.draft.Draft.{Draft}
use Rattle.record_model.specs.RecordForms.{share_in, is_kept, is_share_type, IsParticipant, IsShare, IsBodyOf, IsStored}
use Rattle.ck_records.specs.Writing.{stamp_data, named_data, participant_data, participants_data, record_members, record_data}
use Rattle.ck_records.specs.Replied.{IsReplyOf, RecordsReadBack}
use Rattle.ck_records.specs.Shown.{as_wish, as_wanted, as_parent, as_root, as_draft, Shows, is_accepted, participant_of, with_statuses, are_kept}
use Rattle.ck_records.proofs.LookupLemmas.{listed}
use Rattle.ck_records.proofs.ReadsBackLemmas.{name_told, there}
use Rattle.ck_records.proofs.DraftBackLemmas.{found_in, reply_drafts}
use Rattle.ck_records.proofs.ShownLemmas.{participants_kept}

same_some : {A : Type 0} (x y : A) → Some x ≡ Some y → x ≡ y
same_some x y e = cc e

pub two_some : {A : Type 0} (o : Option A) (x y : A) → o ≡ Some x → o ≡ Some y → x ≡ y
two_some o x y one other = cc (one, other)

two_ok : {A E : Type 0} (o : Result A E) (x y : A) → o ≡ Ok x → o ≡ Ok y → x ≡ y
two_ok o x y one other = cc (one, other)

-- ---- tags and links

pub tag_given : (o : Option (List ℕ)) (n : ℕ) → n < 2 ^ 64 → o ≡ Some (decimal n) → option_and_then number_of o ≡ Some n
tag_given o n high e = ap (option_and_then number_of) e ∙ number-decimal n high

link_told : (o : Option (List ℕ)) → IfSome o IsName → option_and_then (λ d. name_in (found (codes "recordName") d)) (there (option_map named_data o)) ≡ o
link_told None is = refl
link_told (Some name) is = rw (name_told name is) refl

-- ---- participants

status_shows : (public : Permission) (user : List ℕ) (kind : PartKind) (permission : Permission) (accepted : Bool) → is_kept kind permission accepted ≡ true
    → participant_of (is_accepted (participant_data public (record { user = user; kind = kind; permission = permission; accepted = accepted })))
    (as_wanted public (record { user = user; kind = kind; permission = permission; accepted = accepted }))
    ≡ record { user = user; kind = kind; permission = permission; accepted = accepted }
status_shows public user PartKind.Member permission true kept = refl
status_shows public user PartKind.Member permission false kept = refl
status_shows public user PartKind.Public Permission.Nothing true kept = refl
status_shows public user PartKind.Public Permission.Nothing false kept = absurd (cc kept)
status_shows public user PartKind.Public Permission.ReadOnly accepted kept = absurd (cc kept)
status_shows public user PartKind.Public Permission.ReadWrite accepted kept = absurd (cc kept)

statuses_show : (public : Permission) (ps : List Participant) → AllByRecursion IsParticipant ps → with_statuses (map (as_wanted public) ps) (map (participant_data public) ps) ≡ ps
statuses_show public [] all = refl
statuses_show public (p ∷ ps) all =
    let this = status_shows public p.user p.kind p.permission p.accepted all.0.1 in
    let others = statuses_show public ps all.1 in
    λ i. this i ∷ others i

abbrev pub entries_of : Option Data → List Data
entries_of o = drop 1 (option_map_or elements (option_and_then as_array o) [])

participants_show : (owner : List ℕ) (s : ShareOf) → AllByRecursion IsParticipant s.participants
    → with_statuses (map (as_wanted s.public) s.participants) (entries_of (Some (participants_data owner s))) ≡ s.participants
participants_show owner s all = rw (elements_items (map (participant_data s.public) s.participants)) (statuses_show s.public s.participants all)

guid_shows : (guid : List ℕ) → IsGuid guid → option_and_then guid_of (option_and_then as_str (Some (string guid))) ≡ Some guid
guid_shows guid is = rw (is.0, is.1) refl

-- ---- a share

plain_body : (rtype : List ℕ) (body : Body) → IsBodyOf rtype body → is_share_type rtype ≡ false → body ≡ Plain
plain_body rtype Plain is plain = refl
plain_body rtype (Share s) is plain = absurd (cc (is.0, plain))

share_body : (rtype : List ℕ) (body : Body) → IsBodyOf rtype body → is_share_type rtype ≡ true → (s : ShareOf) × (body ≡ Share s) × IsShare s
share_body rtype Plain is shares = absurd (cc (is, shares))
share_body rtype (Share s) is shares = (s, refl, is.1)

-- ---- the members of a reply

module _ (owner : List ℕ) (as_text : Bool) (d : Data) (r : Record) (is : IsReplyOf owner as_text d r) where
  there_is : (k : List ℕ) → found k d ≡ there (listed k (record_members owner as_text r))
  there_is k = ap (found k) (sym is.written) ∙ found_in owner as_text r k

  pub created_is : found (codes "created") d ≡ Some (stamp_data r.created)
  created_is = there_is (codes "created")

  pub modified_is : found (codes "modified") d ≡ Some (stamp_data r.modified)
  modified_is = there_is (codes "modified")

  pub link_is : option_and_then (λ d. name_in (found (codes "recordName") d)) (found (codes "share") d) ≡ r.share
  link_is = ap (option_and_then (λ d. name_in (found (codes "recordName") d))) (there_is (codes "share")) ∙ link_told r.share is.stored.share

  pub guid_is : (s : ShareOf) → r.body ≡ Share s → IsShare s → option_and_then guid_of (option_and_then as_str (found (codes "shortGUID") d)) ≡ Some s.guid
  guid_is s e share =
      ap (λ o. option_and_then guid_of (option_and_then as_str o)) (there_is (codes "shortGUID") ∙ ap (λ b. there (option_map (λ (s : ShareOf). string s.guid) (share_in b))) e)
      ∙ guid_shows s.guid share.guid

  pub statuses_are : (s : ShareOf) → r.body ≡ Share s → IsShare s → with_statuses (map (as_wanted s.public) s.participants) (entries_of (found (codes "participants") d)) ≡ s.participants
  statuses_are s e share =
      ap (λ o. with_statuses (map (as_wanted s.public) s.participants) (entries_of o))
      (there_is (codes "participants") ∙ ap (λ b. there (option_map (participants_data owner) (share_in b))) e)
      ∙ participants_show owner s share.participants.0

  pub plain_is : is_share_type r.rtype ≡ false → r.body ≡ Plain
  plain_is = plain_body r.rtype r.body is.stored.body

  pub share_is : is_share_type r.rtype ≡ true → (s : ShareOf) × (r.body ≡ Share s) × IsShare s
  share_is = share_body r.rtype r.body is.stored.body

-- ---- what a reading of a share comes to

pub record ShareTold (draft : Draft) (d : Data) (s : ShareOf) : Type 0 where
  pub root : draft.for_root ≡ Some (as_root s)
  pub public : draft.public ≡ Some s.public
  pub wanted : draft.participants ≡ Some (map (as_wanted s.public) s.participants)
  pub guid : option_and_then guid_of (option_and_then as_str (found (codes "shortGUID") d)) ≡ Some s.guid
  pub participants : with_statuses (map (as_wanted s.public) s.participants) (entries_of (found (codes "participants") d)) ≡ s.participants
  pub kept : are_kept s.participants ≡ true

pub share_told : (draft : Draft) (d : Data) (r : Record) (s : ShareOf) → Shows draft d r → r.body ≡ Share s → ShareTold draft d s
share_told draft d r s is e =
    let share : IsShare s = (subst (IsBodyOf r.rtype) e is.reply.stored.body).1 in
    record {
      root = ap (λ (q : Draft). q.for_root) is.drafted ∙ ap (λ b. option_map as_root (share_in b)) e;
      public = ap (λ (q : Draft). q.public) is.drafted ∙ ap (λ b. option_map (λ (s : ShareOf). s.public) (share_in b)) e;
      wanted = ap (λ (q : Draft). q.participants) is.drafted
          ∙ ap (λ b. option_map (λ (s : ShareOf). map (as_wanted s.public) s.participants) (share_in b)) e;
      guid = guid_is is.owner is.as_text d r is.reply s e share;
      participants = statuses_are is.owner is.as_text d r is.reply s e share;
      kept = participants_kept s.participants share.participants;
    }

module _ (draft : Draft) (d : Data) (r : Record) (s : ShareOf) (is : Shows draft d r) (e : r.body ≡ Share s) (ws : List Wanted) (ps : List Participant)
    (wanted : draft.participants ≡ Some ws) (read : ps ≡ with_statuses ws (entries_of (found (codes "participants") d))) where
  pub participants_are : ps ≡ s.participants
  participants_are =
      let told = share_told draft d r s is e in
      let same : ws ≡ map (as_wanted s.public) s.participants = two_some draft.participants ws _ wanted told.wanted in
      read ∙ ap (λ ws. with_statuses ws (entries_of (found (codes "participants") d))) same ∙ told.participants

  pub they_are_kept : are_kept ps ≡ true
  they_are_kept = ap are_kept participants_are ∙ (share_told draft d r s is e).kept

-- ---- parts of a draft

pub same_fields : (fields others : List (List ℕ × Value)) → map as_wish fields ≡ map as_wish others → fields ≡ others
same_fields [] [] e = refl
same_fields [] (g ∷ others) e = absurd (cc e)
same_fields (f ∷ fields) [] e = absurd (cc e)
same_fields (f ∷ fields) (g ∷ others) e =
    let first : as_wish f ≡ as_wish g = cc e in
    let name : f.0 ≡ g.0 = ap (λ (w : List ℕ × Option Value). w.0) first in
    let value : f.1 ≡ g.1 = same_some f.1 g.1 (ap (λ (w : List ℕ × Option Value). w.1) first) in
    let rest : fields ≡ others = same_fields fields others (cc e) in
    λ i. (name i, value i) ∷ rest i

-- each wish for a field has a value
no_value : (fields : List (List ℕ × Value)) (i : ℕ) (w : List ℕ × Option Value) → i < length (map as_wish fields) → w ≡ get_or (map as_wish fields) i w → w.1 ≡ None → ⊥
no_value [] i w within at none = absurd (omega (arith, within))
no_value (f ∷ fields) zero w within at none =
    let value : w.1 ≡ Some f.1 = ap (λ (p : List ℕ × Option Value). p.1) at in
    cc (none, value)
no_value (f ∷ fields) (suc i) w within at none = no_value fields i w (omega (arith, within)) at none

pub no_wish : (fields : List (List ℕ × Value)) (wishes : List (List ℕ × Option Value)) (i : ℕ) (w : List ℕ × Option Value) → wishes ≡ map as_wish fields
    → i < length wishes → w ≡ get_or wishes i w → w.1 ≡ None → ⊥
no_wish fields wishes i w e within at none =
    no_value fields i w (subst (λ ws. i < length ws) e within) (at ∙ ap (λ ws. get_or ws i w) e) none

same_parent : (o p : Option (List ℕ)) → as_parent o ≡ as_parent p → o ≡ p
same_parent None None e = refl
same_parent None (Some m) e = absurd (cc e)
same_parent (Some n) None e = absurd (cc e)
same_parent (Some n) (Some m) e = cc e

-- ---- no JSON is that of two records

same_stamp : (a b : Stamp) → stamp_data a ≡ stamp_data b → a ≡ b
same_stamp a b e =
    let moment : a.moment ≡ b.moment = cc e in
    let user : a.user ≡ b.user = cc e in
    λ i. record { moment = moment i; user = user i }

same_share : (draft : Draft) (d : Data) (s t : ShareOf) → ShareTold draft d s → ShareTold draft d t → s ≡ t
same_share draft d s t one other =
    let root : s.root ≡ t.root = ap (λ (root : ForRoot). root.name) (two_some draft.for_root (as_root s) (as_root t) one.root other.root) in
    let guid : s.guid ≡ t.guid = two_some _ s.guid t.guid one.guid other.guid in
    let public : s.public ≡ t.public = two_some draft.public s.public t.public one.public other.public in
    let wanted : map (as_wanted s.public) s.participants ≡ map (as_wanted t.public) t.participants = two_some draft.participants _ _ one.wanted other.wanted in
    let participants : s.participants ≡ t.participants =
    sym one.participants ∙ ap (λ ws. with_statuses ws (entries_of (found (codes "participants") d))) wanted ∙ other.participants in
    λ i. record { root = root i; guid = guid i; public = public i; participants = participants i }

same_body : (draft : Draft) (d : Data) (r t : Record) (b c : Body) → r.body ≡ b → t.body ≡ c → Shows draft d r → Shows draft d t → IsBodyOf r.rtype b → IsBodyOf t.rtype c → r.rtype ≡ t.rtype → b ≡ c
same_body draft d r t Plain Plain eb ec one other is_b is_c rtype = refl
same_body draft d r t Plain (Share s) eb ec one other is_b is_c rtype = absurd (cc (is_b, is_c.0, ap is_share_type rtype))
same_body draft d r t (Share s) Plain eb ec one other is_b is_c rtype = absurd (cc (is_b.0, is_c, ap is_share_type rtype))
same_body draft d r t (Share s) (Share u) eb ec one other is_b is_c rtype =
    ap Share (same_share draft d s u (share_told draft d r s one eb) (share_told draft d t u other ec))

pub records_read_back : RecordsReadBack
records_read_back owner as_text d r s one other =
    let here : ZoneKey = record { owner = owner; zone = [] } in
    let drafts : as_draft r ≡ as_draft s = two_ok _ (as_draft r) (as_draft s) (reply_drafts here as_text d r one) (reply_drafts here as_text d s other) in
    let name : r.name ≡ s.name = same_some r.name s.name (ap (λ (q : Draft). q.name) drafts) in
    let rtype : r.rtype ≡ s.rtype = same_some r.rtype s.rtype (ap (λ (q : Draft). q.rtype) drafts) in
    let tag : r.tag ≡ s.tag = two_some (option_and_then number_of (as_draft r).tag) r.tag s.tag
    (tag_given (as_draft r).tag r.tag one.stored.tag.1 refl) (tag_given (as_draft r).tag s.tag other.stored.tag.1 (ap (λ (q : Draft). q.tag) drafts)) in
    let parent : r.parent ≡ s.parent = same_parent r.parent s.parent (ap (λ (q : Draft). q.parent) drafts) in
    let fields : r.fields ≡ s.fields = same_fields r.fields s.fields (ap (λ (q : Draft). q.fields) drafts) in
    let share : r.share ≡ s.share = sym (link_is owner as_text d r one) ∙ link_is owner as_text d s other in
    let created : r.created ≡ s.created = same_stamp r.created s.created (two_some _ _ _ (created_is owner as_text d r one) (created_is owner as_text d s other)) in
    let modified : r.modified ≡ s.modified = same_stamp r.modified s.modified (two_some _ _ _ (modified_is owner as_text d r one) (modified_is owner as_text d s other)) in
    let shows_r : Shows (as_draft r) d r = record { owner = owner; as_text = as_text; reply = one; drafted = refl } in
    let shows_s : Shows (as_draft r) d s = record { owner = owner; as_text = as_text; reply = other; drafted = drafts } in
    let body : r.body ≡ s.body = same_body (as_draft r) d r s r.body s.body refl refl shows_r shows_s one.stored.body other.stored.body rtype in
    λ i. record {
      name = name i;
      rtype = rtype i;
      tag = tag i;
      parent = parent i;
      share = share i;
      fields = fields i;
      created = created i;
      modified = modified i;
      body = body i;
    }
