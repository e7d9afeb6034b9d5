-- The JSON of a draft tells it exactly by its text.
use Rattle.std.proofs.Common.{◌≡◌, ◌==◌, ℕ, ◌≤◌, Bool, true, false, List, [], ◌∷◌, map, length, Option, None, Some, option_map, refl, ap, ◌∙◌, arith}
use Rattle.std.specs.Prelude.{codes, IfSome, if◌then◌else◌}
use Rattle.std.specs.List.{AllByRecursion}
use Rattle.serde_json.specs.Data.{Data, string, object, members_depth, items_depth}
use Rattle.serde_json.specs.View.{items_of}
use Rattle.serde_json.specs.Written.{items_have_float, members_have_float}
use Rattle.record_model.specs.declared.value.Value.{Value}
use Rattle.record_model.specs.ValueForms.{IsMeant}
use Rattle.field_values.proofs.ExactLemmas.{fields_flat}
use Rattle.share_records.specs.declared.participant.Wanted.{Wanted}
use Rattle.record_model.specs.declared.draft.ParentWish.{ParentWish}
use Rattle.record_model.specs.declared.draft.ParentWish.TheVariants.{Absent, Null, To}
use Rattle.record_model.specs.declared.draft.ForRoot.{ForRoot}
use Rattle.record_model.specs.declared.draft.Draft.{Draft}
use Rattle.ck_records.specs.DraftWriting.{wish_data, wishes_members, wishes_data, parent_data, root_data, wanted_data, wanted_list_data, public_data, draft_members, draft_data}
use Rattle.ck_records.specs.Flat.{DraftsAreFlat}
use Rattle.record_model.specs.DraftForms.{IsWish, AreWishes, IsMeantDraft}
use Rattle.ck_records.specs.Spellings.{permission_name}
use Rattle.ck_records.proofs.FlatLemmas.{Flat, present_flat, pairs_flat, map_flat, text_flat, named_flat}
use Rattle.ck_records.proofs.LookupLemmas.{put_in_order}

abbrev Wish : Type 0
Wish = List ℕ × Option Value

-- ---- the members

wish_flat : (o : Option Value) → IfSome o IsMeant → Flat 3 (wish_data o)
wish_flat None is = record { whole = refl; shallow = omega arith }
wish_flat (Some v) is = record { whole = fields_flat.whole false v; shallow = fields_flat.shallow false v is }

each_wish_flat : (ws : List Wish) → AllByRecursion IsWish ws → AllByRecursion (λ (m : List ℕ × Data). Flat 3 m.1) (map (λ (w : Wish). (w.0, wish_data w.1)) ws)
each_wish_flat [] all = tt
each_wish_flat (w ∷ ws) all = (wish_flat w.1 all.0.1, each_wish_flat ws all.1)

wishes_flat_in : (ws : List Wish) → AreWishes ws → Flat 4 (object (wishes_members ws))
wishes_flat_in ws are =
    let stand = put_in_order wish_data ws are.1 in
    let flat = pairs_flat 3 (map (λ (w : Wish). (w.0, wish_data w.1)) ws) (each_wish_flat ws are.0) in
    record { whole = ap members_have_float stand ∙ flat.whole; shallow = omega (arith, ap members_depth stand, flat.shallow) }

wishes_flat : (ws : List Wish) → AreWishes ws → IfSome (wishes_data ws) (Flat 4)
wishes_flat ws are = by (length ws == 0) where
  by : (none : Bool) → IfSome (if none then None else Some (object (wishes_members ws))) (Flat 4)
  by true = tt
  by false = wishes_flat_in ws are

parent_flat : (p : ParentWish) → IfSome (parent_data p) (Flat 4)
parent_flat Absent = tt
parent_flat Null = record { whole = refl; shallow = omega arith }
parent_flat (To name) = named_flat name

root_flat : (root : ForRoot) → Flat 4 (root_data root)
root_flat root =
    let flat = present_flat 0 ((codes "recordChangeTag", option_map string root.tag) ∷ (codes "recordName", Some (string root.name)) ∷ [])
    (map_flat 0 string root.tag (λ t. record { whole = refl; shallow = omega arith }), (record { whole = refl; shallow = omega arith }, tt)) in
    record { whole = flat.whole; shallow = omega (arith, flat.shallow) }

entries_whole : (ws : List Wanted) → items_have_float (items_of (map wanted_data ws)) ≡ false
entries_whole [] = refl
entries_whole (w ∷ ws) = entries_whole ws

entries_shallow : (ws : List Wanted) → items_depth (items_of (map wanted_data ws)) ≤ 2
entries_shallow [] = omega arith
entries_shallow (w ∷ ws) = omega (arith, entries_shallow ws)

wanted_flat : (ws : List Wanted) → Flat 4 (wanted_list_data ws)
wanted_flat ws = record { whole = entries_whole ws; shallow = omega (arith, entries_shallow ws) }

-- ---- the draft

members_flat : (d : Draft) → IsMeantDraft d → AllByRecursion (λ (m : List ℕ × Option Data). IfSome m.1 (Flat 4)) (draft_members d)
members_flat d is = (
  wishes_flat d.fields is.fields,
  (
    map_flat 4 root_data d.for_root root_flat,
    (
      parent_flat d.parent,
      (
        map_flat 4 wanted_list_data d.participants wanted_flat,
        (
          map_flat 4 public_data d.public (λ p. text_flat (permission_name p)),
          (
            map_flat 4 string d.tag text_flat,
            (map_flat 4 string d.name text_flat, (map_flat 4 string d.rtype text_flat, tt)),
          ),
        ),
      ),
    ),
  ),
)

draft_flat : (d : Draft) → IsMeantDraft d → Flat 5 (draft_data d)
draft_flat d is =
    let flat = present_flat 4 (draft_members d) (members_flat d is) in
    record { whole = flat.whole; shallow = omega (arith, flat.shallow) }

pub drafts_flat : DraftsAreFlat
drafts_flat = record {
  whole = λ d is. (draft_flat d is).whole;
  shallow = λ d is. (draft_flat d is).shallow;
}
