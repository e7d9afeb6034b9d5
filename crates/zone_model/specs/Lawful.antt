-- Which commits may follow.
use Rattle.std.specs.Prelude.{◌≡◌, ◌≤◌, ℕ, suc, true, false, ⊤, List, ◌++◌, length, Option, None, Some}
use Rattle.std.specs.List.{list_any, AllByRecursion}
use Rattle.std.specs.Option.{IfSome}
use Rattle.ck_base.specs.declared.scope.Scope.{Scope}
use Rattle.share_records.specs.declared.share.Share.{Share as ShareOf}
use Rattle.record_model.specs.declared.records.Record.{Record}
use Rattle.record_model.specs.RecordSizes.{size_of_record}
use Rattle.zone_model.specs.declared.commits.Write.{Write}
use Rattle.zone_model.specs.declared.commits.Write.TheVariants.{Put, Remove, PutRemove}
use Rattle.zone_model.specs.declared.commits.Act.TheVariants.{Writes, MakeZone, DropZone, DropSubscription}
use Rattle.zone_model.specs.declared.commits.Commit.{Commit}
use Rattle.zone_model.specs.Limits.{most_participants, most_record_size}
use Rattle.zone_model.specs.Names.{is_default}
use Rattle.zone_model.specs.Records.{record_at, is_there, share_of, is_share}
use Rattle.zone_model.specs.Zones.{Zone, zone_at, puts_at, after_act}
use Rattle.zone_model.specs.Subscriptions.{subscriptions_at, is_subscription}
use Rattle.zone_model.specs.Ancestry.{IsAncestor}
use Rattle.zone_model.specs.Form.{IsInForm}
use Rattle.zone_model.specs.Histories.{EachAfter}

-- ---- records that fit together

-- the name has a record that is no share
pub record IsPlain (rows : List Record) (x : List ℕ) : Type 0 where
  pub found : Record
  pub there : record_at rows x ≡ Some found
  pub plain : is_share found ≡ false

-- the root of a share is a record that is no share, and names the share
pub record IsRootOf (rows : List Record) (x : List ℕ) (s : ShareOf) : Type 0 where
  pub plain : IsPlain rows s.root
  pub named : plain.found.share ≡ Some x

-- the name has a share with that root
pub record IsShareOf (rows : List Record) (root x : List ℕ) : Type 0 where
  pub found : Record
  pub there : record_at rows x ≡ Some found
  pub share : ShareOf
  pub is : share_of found ≡ Some share
  pub rooted : root ≡ share.root

-- The parent of a record is there and no share, and doesn't stand at or below the record. A share has a root that names it, and no parent.
-- The share that a record names has it as its root. No size and no count passes its limit.
pub record FitsIn (rows : List Record) (r : Record) : Type 0 where
  pub parent : IfSome r.parent (IsPlain rows)
  pub above : IfSome r.parent (λ p. IsAncestor rows r.name p → ⊥)
  pub root : IfSome (share_of r) (IsRootOf rows r.name)
  pub alone : IfSome (share_of r) (λ s. r.parent ≡ None)
  pub marked : IfSome r.share (IsShareOf rows r.name)
  pub size : size_of_record r ≤ most_record_size
  pub few : IfSome (share_of r) (λ s. length s.participants ≤ most_participants)

abbrev pub FitTogether : List Record → Type 0
FitTogether rows = AllByRecursion (FitsIn rows) rows

-- ---- commits

-- a put has the next tag, and keeps the parent of a record that is there
pub record MayBePut (rows : List Record) (puts : List ℕ → ℕ) (r : Record) : Type 0 where
  pub tag : r.tag ≡ suc (puts r.name)
  pub parent : IfSome (record_at rows r.name) (λ old. r.parent ≡ old.parent)

-- a name that is only removed is there
abbrev pub MayBeWritten : List Record → (List ℕ → ℕ) → Write → Type 0
MayBeWritten rows puts (Put r) = MayBePut rows puts r
MayBeWritten rows puts (Remove x) = is_there rows x ≡ true
MayBeWritten rows puts (PutRemove x) = ⊤

-- writes stand where the zone is there, and leave records that fit together
pub record AreLawfulWrites (z : Zone) (puts : List ℕ → ℕ) (ws : List Write) : Type 0 where
  pub there : z.there ≡ true
  pub each : AllByRecursion (MayBeWritten z.rows puts) ws
  pub fit : FitTogether (after_act z (Writes ws)).rows

-- The commit may follow the log. A zone is made where it is not there, and removed where it is there and is no default zone. A
-- subscription is dropped where it is there.
pub record MayFollow (log : List Commit) (c : Commit) : Type 0 where
  pub writes : (ws : List Write) → c.act ≡ Writes ws → AreLawfulWrites (zone_at log c.key) (puts_at log c.key) ws
  pub making : c.act ≡ MakeZone → (zone_at log c.key).there ≡ false
  pub removal : c.act ≡ DropZone → ((zone_at log c.key).there ≡ true) × (is_default c.key ≡ false)
  pub dropping : (scope : Scope) (id : List ℕ) → c.act ≡ DropSubscription scope id
      → list_any (is_subscription scope id) (subscriptions_at log c.key) ≡ true

-- each of the commits may follow the log and those before it
abbrev pub MayFollowInTurn : List Commit → List Commit → Type 0
MayFollowInTurn log cs = EachAfter (λ before c. MayFollow (log ++ before) c) cs

-- the commit has its form, and may follow the log
pub record IsLawful (log : List Commit) (c : Commit) : Type 0 where
  pub form : IsInForm c
  pub follows : MayFollow log c
