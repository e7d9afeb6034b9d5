-- A zone that is kept: its records with the links between them, and what is told of it.
use Rattle.std.specs.Prelude.{◌≡◌, ℕ, Bool, List}
use Rattle.std.specs.BTreeMap.{values}
use Rattle.ck_base.specs.declared.key.ZoneKey.{ZoneKey}
use Rattle.record_model.specs.declared.subscription.Subscription.{Subscription}
use Rattle.zone_model.specs.Zones.{Zone}
use Rattle.zone_records.specs.Told.{Told, IsLeft}
use Rattle.zone_records.specs.Next.{children_of, referrers_of}
use Rattle.zone_commit.specs.Maps.{RowMap, AreRows, CountMap, LinkMap, linked}

-- each record is linked to by its parent, and by each name that it has a DELETE_SELF reference to
pub record AreLinked (kept : RowMap) (below behind : LinkMap) : Type 0 where
  pub rows : AreRows kept
  pub children : (x : List ℕ) → linked below x ≡ children_of (values kept) x
  pub referrers : (x : List ℕ) → linked behind x ≡ referrers_of (values kept) x

-- what is told of a zone, unless it is spent
pub record Kept : Type 0 where
  pub spent : Bool
  pub told : Told

abbrev pub zone_by : Bool → RowMap → Zone
zone_by here rows = record { there = here; rows = values rows }

abbrev pub told_by : ZoneKey → Bool → RowMap → CountMap → List Subscription → Told
told_by key here rows counts subscriptions = record { key = key; zone = zone_by here rows; subscriptions = subscriptions; counts = counts.entries }

-- the links are those of the records, and some list of lawful commits leaves what is told
pub record IsWhole (rows : RowMap) (children referrers : LinkMap) (told : Told) : Type 0 where
  pub linked : AreLinked rows children referrers
  pub left : IsLeft told
