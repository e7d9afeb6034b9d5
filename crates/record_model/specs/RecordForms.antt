-- The form of the records that a zone keeps.
use Rattle.std.specs.Prelude.{◌≡◌, ◌<◌, ◌^◌, ℕ, Bool, true, false, List, length, map, bytes_eq, Option, None, Some, IfSome}
use Rattle.std.specs.List.{AllByRecursion}
use Rattle.ck_base.specs.Names.{IsName}
use Rattle.ck_base.specs.KnownNames.{share_type}
use Rattle.ck_base.specs.Order.{are_ascending}
use Rattle.ck_base.specs.Guids.{IsGuid}
use Rattle.record_model.specs.declared.value.Value.{Value}
use Rattle.record_model.specs.ValueForms.{IsMeant}
use Rattle.record_model.specs.Counts.{fits_two_bytes, are_counted}
use Rattle.share_records.specs.declared.permission.Permission.{Permission}
use Rattle.share_records.specs.declared.participant.PartKind.{PartKind}
use Rattle.share_records.specs.declared.participant.Participant.{Participant}
use Rattle.share_records.specs.declared.share.Share.{Share as ShareOf}
use Rattle.record_model.specs.declared.records.Stamp.{Stamp}
use Rattle.record_model.specs.declared.records.Body.{Body}
use Rattle.record_model.specs.declared.records.Body.TheVariants.{Plain, Share}
use Rattle.record_model.specs.declared.records.Record.{Record}

pub record IsStamp (s : Stamp) : Type 0 where
  pub moment : s.moment < 2 ^ 64
  pub user : IsName s.user

abbrev pub IsField : List ℕ × Value → Type 0
IsField field = IsName field.0 × IsMeant field.1

-- each has its form, their names ascend, and all can be counted
abbrev pub AreFields : List (List ℕ × Value) → Type 0
AreFields fields =
    AllByRecursion IsField fields
    × (are_ascending (map (λ (field : List ℕ × Value). field.0) fields) ≡ true)
    × (are_counted fields ≡ true)

-- whom the owner named may do something at least; who came by an open share has accepted it, and no permission of their own
abbrev pub is_kept : PartKind → Permission → Bool → Bool
is_kept PartKind.Member Permission.Nothing accepted = false
is_kept PartKind.Member Permission.ReadOnly accepted = true
is_kept PartKind.Member Permission.ReadWrite accepted = true
is_kept PartKind.Public Permission.Nothing accepted = accepted
is_kept PartKind.Public Permission.ReadOnly accepted = false
is_kept PartKind.Public Permission.ReadWrite accepted = false

abbrev pub keeps : Participant → Bool
keeps p = is_kept p.kind p.permission p.accepted

abbrev pub IsParticipant : Participant → Type 0
IsParticipant p = IsName p.user × (keeps p ≡ true)

-- each has its form, their names ascend, and they can be counted
abbrev pub AreParticipants : List Participant → Type 0
AreParticipants ps =
    AllByRecursion IsParticipant ps
    × (are_ascending (map (λ (p : Participant). p.user) ps) ≡ true)
    × (fits_two_bytes (length ps) ≡ true)

pub record IsShare (s : ShareOf) : Type 0 where
  pub root : IsName s.root
  pub guid : IsGuid s.guid
  pub participants : AreParticipants s.participants

-- the type of the records that are shares
abbrev pub is_share_type : List ℕ → Bool
is_share_type rtype = bytes_eq rtype share_type

-- just a record of that type is a share
abbrev pub IsBodyOf : List ℕ → Body → Type 0
IsBodyOf rtype Plain = is_share_type rtype ≡ false
IsBodyOf rtype (Share s) = (is_share_type rtype ≡ true) × IsShare s

-- the share that a record is, if it is one
abbrev pub share_in : Body → Option ShareOf
share_in Plain = None
share_in (Share s) = Some s

-- a record in the form in which a zone keeps it
pub record IsStored (r : Record) : Type 0 where
  pub name : IsName r.name
  pub rtype : IsName r.rtype
  pub tag : (0 < r.tag) × (r.tag < 2 ^ 64)
  pub parent : IfSome r.parent IsName
  pub share : IfSome r.share IsName
  pub fields : AreFields r.fields
  pub created : IsStamp r.created
  pub modified : IsStamp r.modified
  pub body : IsBodyOf r.rtype r.body
