-- No JSON of a record or of a draft has a float.
use Rattle.std.proofs.Common.{◌≡◌, ◌==◌, ℕ, Bool, true, false, List, [], ◌∷◌, map, length, Option, None, Some, option_map, Ordering, Less, Equal, Greater, nat_cmp, refl}
use Rattle.std.specs.Prelude.{fold, codes, IfSome, if◌then◌else◌}
use Rattle.std.specs.List.{AllByRecursion}
use Rattle.std.specs.Ordering.{match_ordering}
use Rattle.std.specs.Cmp.Lexicographic.{slice_cmp}
use Rattle.std.proofs.lemmas.Bool.{or_from, or_parts}
use Rattle.serde_json.specs.Data.{Data, Members, no_members, member, put, string, object}
use Rattle.serde_json.specs.View.{items_of}
use Rattle.serde_json.specs.Written.{has_float, items_have_float, members_have_float}
use Rattle.record_model.specs.declared.value.Value.{Value}
use Rattle.field_values.specs.Writing.{field_data}
use Rattle.field_values.proofs.ExactLemmas.{fields_flat}
use Rattle.share_records.specs.declared.share.Share.{Share as ShareOf}
use Rattle.share_records.specs.declared.participant.Wanted.{Wanted}
use Rattle.record_model.specs.declared.records.Record.{Record}
use Rattle.record_model.specs.declared.draft.ParentWish.{ParentWish}
use Rattle.record_model.specs.declared.draft.ParentWish.TheVariants.{Absent, Null, To}
use Rattle.record_model.specs.declared.draft.ForRoot.{ForRoot}
use Rattle.record_model.specs.declared.draft.Draft.{Draft}
use Rattle.ck_records.specs.Objects.{present}
use Rattle.ck_records.specs.Spellings.{permission_name}
use Rattle.record_model.specs.RecordForms.{share_in}
use Rattle.ck_records.specs.Writing.{named_data, participants_data, record_members}
use Rattle.ck_records.specs.DraftWriting.{wish_data, wishes_data, parent_data, root_data, wanted_data, wanted_list_data, public_data, draft_members, draft_data}
use Rattle.ck_records.specs.Flat.{RecordsHaveNoFloat}
use Rattle.ck_records.proofs.ObjectLemmas.{Listed}
use Rattle.ck_records.proofs.FlatLemmas.{participants_whole}

-- a member that is put brings none, wherever it stands
put_by : (o : Ordering) (k l : List ℕ) (d e : Data) (ms : Members) → has_float d ≡ false → members_have_float (member l e ms) ≡ false → members_have_float (put k d ms) ≡ false
    → members_have_float (match_ordering o (member k d (member l e ms)) (member l d ms) (member l e (put k d ms))) ≡ false
put_by Less k l d e ms whole all behind = or_from _ _ whole all
put_by Equal k l d e ms whole all behind = or_from _ _ whole (or_parts _ _ all).1
put_by Greater k l d e ms whole all behind = or_from _ _ (or_parts _ _ all).0 behind

put_whole : (k : List ℕ) (d : Data) (ms : Members) → has_float d ≡ false → members_have_float ms ≡ false → members_have_float (put k d ms) ≡ false
put_whole k d no_members whole all = or_from _ _ whole refl
put_whole k d (member l e ms) whole all = put_by (slice_cmp nat_cmp k l) k l d e ms whole all (put_whole k d ms whole (or_parts _ _ all).1)

fields_whole : (as_text : Bool) (fields : List (List ℕ × Value)) (ms : Members) → members_have_float ms ≡ false
    → members_have_float (fold (λ (ms : Members) (field : List ℕ × Value). put field.0 (field_data as_text field.1) ms) ms fields) ≡ false
fields_whole as_text [] ms all = all
fields_whole as_text (f ∷ fields) ms all = fields_whole as_text fields (put f.0 (field_data as_text f.1) ms) (put_whole f.0 (field_data as_text f.1) ms (fields_flat.whole as_text f.1) all)

pub present_whole : (ms : Listed) → AllByRecursion (λ (m : List ℕ × Option Data). IfSome m.1 (λ d. has_float d ≡ false)) ms → members_have_float (present ms) ≡ false
present_whole [] all = refl
present_whole ((k, None) ∷ ms) all = present_whole ms all.1
present_whole ((k, Some d) ∷ ms) all = or_from _ _ all.0 (present_whole ms all.1)

pub map_whole : {A : Type 0} (f : A → Data) (o : Option A) → ((x : A) → has_float (f x) ≡ false) → IfSome (option_map f o) (λ d. has_float d ≡ false)
map_whole f None each = tt
map_whole f (Some x) each = each x

members_whole : (owner : List ℕ) (as_text : Bool) (r : Record) → AllByRecursion (λ (m : List ℕ × Option Data). IfSome m.1 (λ d. has_float d ≡ false)) (record_members owner as_text r)
members_whole owner as_text r = (
  refl,
  (
    fields_whole as_text r.fields no_members refl,
    (
      map_whole (λ (s : ShareOf). named_data s.root) (share_in r.body) (λ s. refl),
      (
        refl,
        (
          map_whole named_data r.parent (λ x. refl),
          (
            map_whole (participants_data owner) (share_in r.body) (participants_whole owner),
            (
              map_whole (λ (s : ShareOf). string (permission_name s.public)) (share_in r.body) (λ s. refl),
              (refl, (refl, (refl, (map_whole named_data r.share (λ x. refl), (map_whole (λ (s : ShareOf). string s.guid) (share_in r.body) (λ s. refl), tt))))),
            ),
          ),
        ),
      ),
    ),
  ),
)

pub records_whole : RecordsHaveNoFloat
records_whole owner as_text r = present_whole (record_members owner as_text r) (members_whole owner as_text r)

-- ---- drafts

wish_whole : (o : Option Value) → has_float (wish_data o) ≡ false
wish_whole None = refl
wish_whole (Some v) = fields_flat.whole false v

wishes_whole_on : (ws : List (List ℕ × Option Value)) (ms : Members) → members_have_float ms ≡ false
    → members_have_float (fold (λ (ms : Members) (wish : List ℕ × Option Value). put wish.0 (wish_data wish.1) ms) ms ws) ≡ false
wishes_whole_on [] ms all = all
wishes_whole_on (w ∷ ws) ms all = wishes_whole_on ws (put w.0 (wish_data w.1) ms) (put_whole w.0 (wish_data w.1) ms (wish_whole w.1) all)

wishes_whole : (ws : List (List ℕ × Option Value)) → IfSome (wishes_data ws) (λ d. has_float d ≡ false)
wishes_whole ws = by (length ws == 0) where
  by : (none : Bool) → IfSome (if none then None else Some (object (fold (λ (ms : Members) (wish : List ℕ × Option Value). put wish.0 (wish_data wish.1) ms) no_members ws))) (λ d. has_float d ≡ false)
  by true = tt
  by false = wishes_whole_on ws no_members refl

parent_whole : (p : ParentWish) → IfSome (parent_data p) (λ d. has_float d ≡ false)
parent_whole Absent = tt
parent_whole Null = refl
parent_whole (To name) = refl

root_whole : (root : ForRoot) → has_float (root_data root) ≡ false
root_whole root =
    present_whole ((codes "recordChangeTag", option_map string root.tag) ∷ (codes "recordName", Some (string root.name)) ∷ [])
    (map_whole string root.tag (λ t. refl), (refl, tt))

wanted_whole : (ws : List Wanted) → items_have_float (items_of (map wanted_data ws)) ≡ false
wanted_whole [] = refl
wanted_whole (w ∷ ws) = wanted_whole ws

given_whole : (d : Draft) → AllByRecursion (λ (m : List ℕ × Option Data). IfSome m.1 (λ d. has_float d ≡ false)) (draft_members d)
given_whole d = (
  wishes_whole d.fields,
  (
    map_whole root_data d.for_root root_whole,
    (
      parent_whole d.parent,
      (
        map_whole wanted_list_data d.participants wanted_whole,
        (
          map_whole public_data d.public (λ p. refl),
          (map_whole string d.tag (λ t. refl), (map_whole string d.name (λ t. refl), (map_whole string d.rtype (λ t. refl), tt))),
        ),
      ),
    ),
  ),
)

-- the JSON of any draft has no float
pub drafts_whole : (d : Draft) → has_float (draft_data d) ≡ false
drafts_whole d = present_whole (draft_members d) (given_whole d)
