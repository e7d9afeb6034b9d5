-- The form of operations that some JSON means.
use Rattle.std.specs.Prelude.{◌≡◌, ◌≤◌, ℕ, ◌||◌, Bool, true, false, List, [], length, Option, None, Some, is_some, IfSome, IsUtf8}
use Rattle.std.specs.List.{AllByRecursion}
use Rattle.ck_base.specs.Names.{IsName}
use Rattle.record_model.specs.declared.draft.Draft.{Draft}
use Rattle.record_model.specs.declared.draft.ParentWish.TheVariants.{Absent}
use Rattle.record_model.specs.DraftForms.{IsMeantDraft}
use Rattle.zone_model.specs.declared.operations.OpKind.{OpKind}
use Rattle.zone_model.specs.declared.operations.Op.{Op}
use Rattle.zone_model.specs.Limits.{most_items}
use Rattle.zone_model.specs.Requests.{is_deletion, is_create}
use Rattle.zone_model.specs.GivenNames.{named_again}

-- a draft with a name, and perhaps a change tag, alone
abbrev pub bare : List ℕ → Option (List ℕ) → Draft
bare name tag = record { name = Some name; rtype = None; tag = tag; parent = Absent; fields = []; for_root = None; public = None; participants = None }

pub record IsBare (d : Draft) : Type 0 where
  pub given : List ℕ
  pub name : IsName given
  pub tag : IfSome d.tag IsUtf8
  pub is : d ≡ bare given d.tag

-- what some JSON means as the draft of an operation of the kind: that of a deletion has but a name and perhaps a tag
abbrev pub IsMeantWhere : Bool → Draft → Type 0
IsMeantWhere true d = IsBare d
IsMeantWhere false d = IsMeantDraft d

abbrev pub IsMeantAs : OpKind → Draft → Type 0
IsMeantAs kind d = IsMeantWhere (is_deletion kind) d

-- the draft is one that some JSON means, and only a create may be without a name
pub record IsMeantOp (op : Op) : Type 0 where
  pub draft : IsMeantAs op.kind op.draft
  pub named : (is_create op.kind || is_some op.draft.name) ≡ true

-- The operations that a request has: each is one that some JSON means, there are at most 200, and none gives the name of a record
-- or of a root that an earlier one gives.
pub record AreMeantOps (ops : List Op) : Type 0 where
  pub meant : AllByRecursion IsMeantOp ops
  pub few : length ops ≤ most_items
  pub once : named_again ops ≡ None
