-- Words for the worked rows: users, zones, operations, and what the rows tell.
use Rattle.std.specs.Prelude.{ℕ, suc, Bool, true, ◌||◌, List, [], ◌∷◌, ◌++◌, map, Option, Some, None, codes, decimal, is_some, unwrap_or, option_map, option_and_then, if◌then◌else◌}
use Rattle.std.specs.Option.{option_map_or}
use Rattle.ck_base.specs.declared.key.ZoneKey.{ZoneKey}
use Rattle.ck_base.specs.declared.scope.Scope.{Scope}
use Rattle.ck_base.specs.declared.scope.Scope.TheVariants.{Private, Shared}
use Rattle.record_model.specs.declared.value.Action.{Action}
use Rattle.record_model.specs.declared.value.Value.TheVariants.{Reference}
use Rattle.share_records.specs.declared.permission.Permission.{Permission}
use Rattle.share_records.specs.declared.participant.PartKind.{PartKind}
use Rattle.share_records.specs.declared.participant.Participant.{Participant}
use Rattle.share_records.specs.declared.participant.Wanted.{Wanted}
use Rattle.share_records.specs.declared.share.Share.{Share as ShareOf}
use Rattle.record_model.specs.declared.draft.Draft.{Draft}
use Rattle.record_model.specs.declared.draft.ParentWish.{ParentWish}
use Rattle.record_model.specs.declared.records.Body.TheVariants.{Share}
use Rattle.record_model.specs.declared.records.Record.{Record}
use Rattle.zone_model.specs.declared.operations.OpKind.{OpKind}
use Rattle.zone_model.specs.declared.operations.OpKind.TheVariants.{Create, Update, ForceUpdate, Delete, ForceDelete}
use Rattle.zone_model.specs.Requests.{NamedOp}
use Rattle.zone_model.specs.declared.outcomes.OpFault.{OpFault}
use Rattle.zone_model.specs.declared.outcomes.Outcome.{Outcome}
use Rattle.zone_model.specs.declared.outcomes.Outcome.TheVariants.{Put, Deleted, Refused}
use Rattle.zone_model.specs.declared.outcomes.Modified.{Modified}
use Rattle.zone_model.specs.declared.commits.Act.TheVariants.{MakeZone, Writes}
use Rattle.zone_model.specs.declared.commits.Act.{Act}
use Rattle.zone_model.specs.declared.commits.Write.TheVariants.{Put as PutWrite}
use Rattle.zone_model.specs.declared.commits.Commit.{Commit}
use Rattle.zone_model.specs.declared.pages.Item.{Item}
use Rattle.zone_model.specs.declared.pages.Item.TheVariants.{There, Gone}
use Rattle.zone_model.specs.Names.{same}
use Rattle.zone_model.specs.Records.{record_at, share_of}
use Rattle.zone_model.specs.Zones.{zone_at}
use Rattle.zone_model.specs.Views.{view_of, views_of}
use Rattle.zone_model.specs.Entries.{entries}
use Rattle.name_rules.specs.Options.{is_some_and}
use Rattle.share_records.specs.Permissions.{permission_in}
use Rattle.zone_model.specs.Pages.{page}
use Rattle.zone_model.specs.ZoneEntries.{zone_page}
use Rattle.share_records.specs.ShareLists.{participant_at, with_participant}
use Rattle.zone_model.specs.Modifying.{modified}

-- ---- users and zones

abbrev pub ann : List ℕ
ann = codes "ann"

abbrev pub bob : List ℕ
bob = codes "bob"

abbrev pub cat : List ℕ
cat = codes "cat"

abbrev pub dan : List ℕ
dan = codes "dan"

abbrev pub notes : ZoneKey
notes = record { owner = ann; zone = codes "Notes" }

-- ---- operations

abbrev pub link : List ℕ
link = codes "600000000000000000000000000000001"

abbrev pub draft : List ℕ → Draft
draft x = record { name = Some x; rtype = None; tag = None; parent = ParentWish.Absent; fields = []; for_root = None; public = None; participants = None }

abbrev pub typed : List ℕ → Draft
typed x = record (draft x) { rtype = Some (codes "T") }

-- an operation with the name that it gives, and with this link for the share that it begins
abbrev pub op_as : OpKind → Draft → NamedOp
op_as kind d = record { kind = kind; draft = d; name = unwrap_or d.name []; guid = link }

abbrev pub op_of : Draft → NamedOp
op_of d = op_as Create d

abbrev pub create : List ℕ → NamedOp
create x = op_of (typed x)

abbrev pub create_under : List ℕ → List ℕ → NamedOp
create_under x p = op_of (record (typed x) { parent = ParentWish.To p })

-- a record with a reference, perhaps under a parent
abbrev pub create_bound : List ℕ → ParentWish → Action → List ℕ → NamedOp
create_bound x parent action target =
    op_of (record (typed x) { parent = parent; fields = (codes "f", Some (Reference (record { name = target; action = action }))) ∷ [] })

abbrev pub update : List ℕ → ℕ → NamedOp
update x tag = op_as Update (record (draft x) { tag = Some (decimal tag) })

abbrev pub update_with : List ℕ → ℕ → ParentWish → NamedOp
update_with x tag parent = op_as Update (record (draft x) { tag = Some (decimal tag); parent = parent })

abbrev pub delete : List ℕ → ℕ → NamedOp
delete x tag = op_as Delete (record (draft x) { tag = Some (decimal tag) })

abbrev pub force_delete : List ℕ → NamedOp
force_delete x = op_as ForceDelete (draft x)

abbrev pub invited : List ℕ → Permission → Wanted
invited u permission = record { user = u; kind = PartKind.Member; permission = permission }

abbrev pub share_draft : List ℕ → List ℕ → Option (List ℕ) → List Wanted → Draft
share_draft x root tag wanted =
    record (draft x) { rtype = Some (codes "cloudkit.share"); for_root = Some (record { name = root; tag = tag }); participants = Some wanted }

abbrev pub create_share : List ℕ → List ℕ → ℕ → List Wanted → NamedOp
create_share x root tag wanted = op_of (share_draft x root (Some (decimal tag)) wanted)

abbrev pub set_participants : List ℕ → List Wanted → NamedOp
set_participants x wanted = op_as ForceUpdate (record (draft x) { participants = Some wanted })

abbrev pub set_public : List ℕ → Permission → NamedOp
set_public x permission = op_as ForceUpdate (record (draft x) { public = Some permission })

-- ---- logs

abbrev pub act_at : ZoneKey → Act → Commit
act_at key a = record { key = key; user = ann; moment = 1000; act = a }

abbrev pub act : Act → Commit
act a = act_at notes a

abbrev pub last_of : List Commit → Option Commit
last_of [] = None
last_of (c ∷ []) = Some c
last_of (c ∷ d ∷ log) = last_of (d ∷ log)

abbrev pub made : List Commit
made = act MakeZone ∷ []

abbrev pub asked_by : List ℕ → Scope → List Commit → Bool → List NamedOp → Modified
asked_by u scope log atomic ops = modified (record { user = u; scope = scope; key = notes }) 1000 log atomic ops

-- the log with what ann's request makes, and with what another user's makes in the shared scope
abbrev pub asks : List Commit → List NamedOp → List Commit
asks log ops = log ++ (asked_by ann Private log true ops).commits

abbrev pub asks_shared : List Commit → List ℕ → List NamedOp → List Commit
asks_shared log u ops = log ++ (asked_by u Shared log true ops).commits

-- the list of a share after a user accepted it: one who is named is then in, and a stranger by its public permission
abbrev pub joined : List ℕ → List Participant → List Participant
joined u ps = if is_some (participant_at ps u) then map (λ (p : Participant). record p { accepted = p.accepted || same u p.user }) ps
    else with_participant ps (record { user = u; kind = PartKind.Public; permission = Permission.Nothing; accepted = true })

abbrev pub accepted_share : List ℕ → Record → Record
accepted_share u r = record r {
  tag = suc r.tag;
  modified = record { moment = 1000; user = u };
  body = option_map_or (λ (s : ShareOf). Share (record s { participants = joined u s.participants })) (share_of r) r.body;
}

abbrev pub is_in_already : List ℕ → Record → Bool
is_in_already u r = same u notes.owner || is_some_and (λ (s : ShareOf). is_some_and (λ (p : Participant). p.accepted) (participant_at s.participants u)) (share_of r)

-- what a user's acceptance of a share commits: nothing where it is the owner or has accepted
abbrev pub acceptance : List Commit → List ℕ → List ℕ → List Commit
acceptance log u x = option_map_or
    (λ r. if is_in_already u r then [] else record { key = notes; user = u; moment = 1000; act = Writes (PutWrite (accepted_share u r) ∷ []) } ∷ [])
    (record_at (zone_at log notes).rows x) []

abbrev pub accepts : List Commit → List ℕ → List ℕ → List Commit
accepts log u x = log ++ acceptance log u x

-- what the share of that name lets a user do
abbrev pub permission_at : List Commit → List ℕ → List ℕ → Option Permission
permission_at log x u = option_map (λ (s : ShareOf). permission_in s u) (option_and_then share_of (record_at (zone_at log notes).rows x))

-- ---- what the rows tell

-- the answer to an operation, its record as a name and a tag
pub data Told : Type 0 where
  put : List ℕ → ℕ → Told
  gone : List ℕ → Told
  refused : OpFault → Told
  shown : OpFault → List ℕ → ℕ → Told

abbrev pub told_of : Outcome → Told
told_of (Put r) = put r.name r.tag
told_of (Deleted x) = gone x
told_of (Refused fault server) = option_map_or (λ (r : Record). shown fault r.name r.tag) server (refused fault)

abbrev pub told : Modified → List Told
told m = map told_of m.outcomes

abbrev pub tags : List Record → List (List ℕ × ℕ)
tags rows = map (λ (r : Record). (r.name, r.tag)) rows

-- the names that a user sees, with their tags
abbrev pub seen : List Commit → List ℕ → Scope → List (List ℕ × ℕ)
seen log u scope = tags (view_of log u scope notes).rows

-- the names that changed for a user, one entry after another
abbrev pub entries_of : List Commit → List ℕ → Scope → List (List ℕ)
entries_of log u scope = entries (views_of log u scope notes)

-- what ann's request is told
abbrev pub told_ann : List Commit → List NamedOp → List Told
told_ann log ops = told (asked_by ann Private log true ops)

-- an item as a name with its tag, or with 0 where it is gone
abbrev pub item_tag : Item → List ℕ × ℕ
item_tag (There r) = (r.name, r.tag)
item_tag (Gone x) = (x, 0)

-- the items of a page, its number, and whether more follows
abbrev pub page_of : List Commit → List ℕ → Scope → ℕ → ℕ → List (List ℕ × ℕ) × ℕ × Bool
page_of log u scope n k =
    let p = page (views_of log u scope notes) n k in
    (map item_tag p.items, p.number, p.more)

-- the zones of a page, its number, and whether more follows
abbrev pub feed_of : List Commit → List ℕ → Scope → ℕ → ℕ → List (List ℕ) × ℕ × Bool
feed_of log u scope n k =
    let c = zone_page log u scope n k in
    (map (λ (key : ZoneKey). key.zone) c.names, c.number, c.more)
