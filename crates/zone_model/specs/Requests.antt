-- The puts and deletions of a request.
use Rattle.std.specs.Prelude.{ℕ, Bool, true, false, not, ◌&&◌, List, [], ◌∷◌, map, filter, filter_map, Option, Some, None, is_some, if◌then◌else◌, unwrap_or, drop}
use Rattle.std.specs.Option.{option_map_or}
use Rattle.ck_base.specs.declared.key.ZoneKey.{ZoneKey}
use Rattle.ck_base.specs.declared.scope.Scope.{Scope}
use Rattle.record_model.specs.declared.draft.Draft.{Draft}
use Rattle.record_model.specs.declared.draft.ForRoot.{ForRoot}
use Rattle.record_model.specs.declared.draft.ParentWish.{ParentWish}
use Rattle.record_model.specs.declared.records.Record.{Record}
use Rattle.record_model.specs.RecordForms.{is_share_type}
use Rattle.zone_model.specs.declared.operations.OpKind.{OpKind}
use Rattle.zone_model.specs.declared.operations.OpKind.TheVariants.{Create, ForceUpdate, Replace, ForceReplace, Delete, ForceDelete}
use Rattle.zone_model.specs.Names.{same}
use Rattle.name_rules.specs.Options.{is_some_and}
use Rattle.zone_model.specs.Records.{is_there}

-- who asks, in which scope, and of which zone
pub record Caller : Type 0 where
  pub user : List ℕ
  pub scope : Scope
  pub key : ZoneKey

-- ---- what an operation does

abbrev pub is_deletion : OpKind → Bool
is_deletion Delete = true
is_deletion ForceDelete = true
is_deletion _ = false

abbrev pub is_create : OpKind → Bool
is_create Create = true
is_create _ = false

-- it asks for no tag
abbrev pub is_forced : OpKind → Bool
is_forced ForceUpdate = true
is_forced ForceReplace = true
is_forced ForceDelete = true
is_forced _ = false

-- it drops the fields that are not given
abbrev pub drops_fields : OpKind → Bool
drops_fields Replace = true
drops_fields ForceReplace = true
drops_fields _ = false

-- it puts a record where there is none of its name
abbrev pub makes_new : OpKind → Bool
makes_new kind = if is_create kind then true else is_forced kind

-- it puts a record where there is one
abbrev pub changes_old : OpKind → Bool
changes_old kind = not (is_create kind)

-- ---- what a draft says

-- the parent that a draft gives, null standing for none, if it gives one at all
abbrev pub parent_given : ParentWish → Option (Option (List ℕ))
parent_given ParentWish.Absent = None
parent_given ParentWish.Null = Some None
parent_given (ParentWish.To p) = Some (Some p)

-- the parent of a new record
abbrev pub new_parent : Draft → Option (List ℕ)
new_parent d = unwrap_or (parent_given d.parent) None

abbrev pub has_share_type : Draft → Bool
has_share_type d = is_some_and is_share_type d.rtype

-- ---- the operations of a request

-- an operation with the name of its record, and with the GUID that is drawn for it where it gives a root, for a share that it may begin, and else none
pub record NamedOp : Type 0 where
  pub kind : OpKind
  pub draft : Draft
  pub name : List ℕ
  pub guid : List ℕ

abbrev pub puts_in : List NamedOp → List NamedOp
puts_in ops = filter (λ (op : NamedOp). not (is_deletion op.kind)) ops

-- the names that deletions give
abbrev pub names_deleted : List NamedOp → List (List ℕ)
names_deleted ops = map (λ (op : NamedOp). op.name) (filter (λ (op : NamedOp). is_deletion op.kind) ops)

-- the names that puts give
abbrev pub names_put : List NamedOp → List (List ℕ)
names_put ops = map (λ (op : NamedOp). op.name) (puts_in ops)

-- of several puts with one name the first alone
abbrev pub first_puts : List NamedOp → List NamedOp
first_puts [] = []
first_puts (p ∷ ps) = p ∷ filter (λ (q : NamedOp). not (same p.name q.name)) (first_puts ps)

-- the put begins a share: it makes a new record of that type
abbrev pub begins_share : List Record → NamedOp → Bool
begins_share seen p = makes_new p.kind && (not (is_there seen p.name) && has_share_type p.draft)

-- the root that a draft gives, and its tag
abbrev pub root_given : Draft → Option (List ℕ)
root_given d = option_map_or (λ (f : ForRoot). Some f.name) d.for_root None

abbrev pub root_tag_given : Draft → Option (List ℕ)
root_tag_given d = option_map_or (λ (f : ForRoot). f.tag) d.for_root None

-- the roots that puts give
abbrev pub roots_in : List NamedOp → List (List ℕ)
roots_in ops = filter_map (λ (p : NamedOp). root_given p.draft) (puts_in ops)
