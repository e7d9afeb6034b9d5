-- As which draft the JSON of a record in a reply is read, before the test whether the JSON is just what is written for what was read.
-- What JSON in a reply means is told by Replied.
use Rattle.std.specs.Prelude.{◌≡◌, ℕ, Bool, false, ◌&&◌, length, map, List, [], ◌∷◌, codes, bytes_eq, decimal, Option, None, Some, option_map, option_and_then}
use Rattle.std.specs.Option.{option_map_or}
use Rattle.std.specs.List.{list_all}
use Rattle.serde_json.specs.Data.{Data}
use Rattle.serde_json.specs.Find.{as_str}
use Rattle.ck_base.specs.Order.{are_ascending}
use Rattle.record_model.specs.declared.value.Value.{Value}
use Rattle.field_values.specs.Members.{found}
use Rattle.share_records.specs.declared.permission.Permission.{Permission}
use Rattle.share_records.specs.declared.participant.PartKind.{PartKind}
use Rattle.share_records.specs.declared.participant.Participant.{Participant}
use Rattle.share_records.specs.declared.participant.Wanted.{Wanted}
use Rattle.share_records.specs.declared.share.Share.{Share as ShareOf}
use Rattle.record_model.specs.declared.draft.ParentWish.{ParentWish}
use Rattle.record_model.specs.declared.draft.ParentWish.TheVariants.{Absent, To}
use Rattle.record_model.specs.declared.draft.ForRoot.{ForRoot}
use Rattle.record_model.specs.declared.draft.Draft.{Draft}
use Rattle.record_model.specs.declared.records.Record.{Record}
use Rattle.record_model.specs.Counts.{fits_two_bytes}
use Rattle.record_model.specs.RecordForms.{share_in, keeps}
use Rattle.ck_records.specs.Writing.{permission_shown}
use Rattle.ck_records.specs.Replied.{IsReplyOf}

abbrev pub as_wish : List ℕ × Value → List ℕ × Option Value
as_wish field = (field.0, Some field.1)

abbrev pub as_wanted : Permission → Participant → Wanted
as_wanted public p = record { user = p.user; kind = p.kind; permission = permission_shown p.kind p.permission public }

abbrev pub as_parent : Option (List ℕ) → ParentWish
as_parent None = Absent
as_parent (Some name) = To name

abbrev pub as_root : ShareOf → ForRoot
as_root s = record { name = s.root; tag = None }

abbrev pub as_draft : Record → Draft
as_draft r = record {
  name = Some r.name;
  rtype = Some r.rtype;
  tag = Some (decimal r.tag);
  parent = as_parent r.parent;
  fields = map as_wish r.fields;
  for_root = option_map as_root (share_in r.body);
  public = option_map (λ (s : ShareOf). s.public) (share_in r.body);
  participants = option_map (λ (s : ShareOf). map (as_wanted s.public) s.participants) (share_in r.body);
}

-- the JSON is what is written for the record in a reply, and the draft is as which it is read
pub record Shows (draft : Draft) (d : Data) (r : Record) : Type 0 where
  pub owner : List ℕ
  pub as_text : Bool
  pub reply : IsReplyOf owner as_text d r
  pub drafted : draft ≡ as_draft r

-- ---- participants

abbrev pub is_accepted : Data → Bool
is_accepted d = option_map_or (λ status. bytes_eq status (codes "ACCEPTED")) (option_and_then as_str (found (codes "acceptanceStatus") d)) false

-- who came by an open share has no permission of their own
abbrev pub own_permission : PartKind → Permission → Permission
own_permission PartKind.Member shown = shown
own_permission PartKind.Public shown = Permission.Nothing

abbrev pub participant_of : Bool → Wanted → Participant
participant_of accepted w = record { user = w.user; kind = w.kind; permission = own_permission w.kind w.permission; accepted = accepted }

-- each with the status that its entry has
abbrev pub with_statuses : List Wanted → List Data → List Participant
with_statuses [] ds = []
with_statuses (w ∷ ws) [] = []
with_statuses (w ∷ ws) (d ∷ ds) = participant_of (is_accepted d) w ∷ with_statuses ws ds

-- each is one that a share keeps, their names ascend, and they can be counted
abbrev pub are_kept : List Participant → Bool
are_kept ps = list_all keeps ps && (are_ascending (map (λ (p : Participant). p.user) ps) && fits_two_bytes (length ps))
