-- The drafts that some JSON means.
use Rattle.std.specs.Prelude.{◌≡◌, ℕ, Bool, true, false, List, map, Option, IfSome, IsUtf8, ⊤}
use Rattle.std.specs.List.{AllByRecursion}
use Rattle.ck_base.specs.Names.{IsName}
use Rattle.record_model.specs.declared.value.Value.{Value}
use Rattle.record_model.specs.ValueForms.{IsMeant}
use Rattle.share_records.specs.declared.permission.Permission.{Permission}
use Rattle.share_records.specs.declared.participant.PartKind.{PartKind}
use Rattle.share_records.specs.declared.participant.Wanted.{Wanted}
use Rattle.record_model.specs.declared.draft.ParentWish.{ParentWish}
use Rattle.record_model.specs.declared.draft.ParentWish.TheVariants.{Absent, Null, To}
use Rattle.record_model.specs.declared.draft.ForRoot.{ForRoot}
use Rattle.record_model.specs.declared.draft.Draft.{Draft}
use Rattle.ck_base.specs.Order.{are_ascending}

abbrev pub IsParentWish : ParentWish → Type 0
IsParentWish Absent = ⊤
IsParentWish Null = ⊤
IsParentWish (To name) = IsName name

abbrev pub IsForRoot : ForRoot → Type 0
IsForRoot root = IsName root.name × IfSome root.tag IsUtf8

-- a user of the owner's choice may do something at least
abbrev pub may_have : PartKind → Permission → Bool
may_have PartKind.Member Permission.Nothing = false
may_have PartKind.Member Permission.ReadOnly = true
may_have PartKind.Member Permission.ReadWrite = true
may_have PartKind.Public permission = true

abbrev pub IsWanted : Wanted → Type 0
IsWanted w = IsName w.user × (may_have w.kind w.permission ≡ true)

abbrev pub IsWish : List ℕ × Option Value → Type 0
IsWish wish = IsName wish.0 × IfSome wish.1 IsMeant

-- each has its form, and their names ascend
abbrev pub AreWishes : List (List ℕ × Option Value) → Type 0
AreWishes wishes = AllByRecursion IsWish wishes × (are_ascending (map (λ (wish : List ℕ × Option Value). wish.0) wishes) ≡ true)

-- its names are names, its tags are texts, its values are ones that some JSON means, and its participants may have their permissions
pub record IsMeantDraft (d : Draft) : Type 0 where
  pub name : IfSome d.name IsName
  pub rtype : IfSome d.rtype IsName
  pub tag : IfSome d.tag IsUtf8
  pub parent : IsParentWish d.parent
  pub root : IfSome d.for_root IsForRoot
  pub participants : IfSome d.participants (AllByRecursion IsWanted)
  pub fields : AreWishes d.fields
