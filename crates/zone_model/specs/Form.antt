-- The form of a commit.
use Rattle.std.specs.Prelude.{◌≡◌, ◌<◌, ◌≤◌, ◌^◌, ℕ, Bool, true, ◌||◌, List, [], length, map, Option, Some, None}
use Rattle.std.specs.List.{AllByRecursion}
use Rattle.ck_base.specs.Names.{IsName}
use Rattle.ck_base.specs.Order.{are_ascending}
use Rattle.ck_base.specs.declared.key.ZoneKey.{ZoneKey}
use Rattle.record_model.specs.ValueForms.{IsMeant}
use Rattle.record_model.specs.Counts.{is_counted}
use Rattle.record_model.specs.declared.filter.Filter.{Filter}
use Rattle.record_model.specs.declared.subscription.SubKind.{SubKind}
use Rattle.record_model.specs.declared.subscription.Subscription.{Subscription}
use Rattle.record_model.specs.Fits.{fits}
use Rattle.record_model.specs.RecordForms.{IsStored}
use Rattle.zone_model.specs.declared.commits.Write.{Write}
use Rattle.zone_model.specs.declared.commits.Write.TheVariants.{Put, Remove, PutRemove}
use Rattle.zone_model.specs.declared.commits.Act.{Act}
use Rattle.zone_model.specs.declared.commits.Act.TheVariants.{Writes, SetSubscription, DropSubscription}
use Rattle.zone_model.specs.declared.commits.Commit.{Commit}
use Rattle.zone_model.specs.Limits.{most_filters}
use Rattle.zone_model.specs.Zones.{written_name}

abbrev pub IsKey : ZoneKey → Type 0
IsKey key = IsName key.owner × IsName key.zone

abbrev pub IsWrite : Write → Type 0
IsWrite (Put r) = IsStored r
IsWrite (Remove x) = IsName x
IsWrite (PutRemove x) = IsName x

-- the writes ascend by name, so each name is written once
abbrev pub are_in_order : List Write → Bool
are_in_order ws = are_ascending (map written_name ws)

pub record AreWrites (ws : List Write) : Type 0 where
  pub some : (0 < length ws) × (length ws < 2 ^ 32)
  pub each : AllByRecursion IsWrite ws
  pub ordered : are_in_order ws ≡ true

-- the value is one that the comparator takes
pub record IsFilter (f : Filter) : Type 0 where
  pub field : IsName f.field
  pub value : IsMeant f.value
  pub counted : is_counted f.value ≡ true
  pub fitting : fits f.comparator f.value ≡ true

-- a zone's subscription says nothing of records, and a query's names a type and has not too many filters
abbrev pub IsOfKind : SubKind → Option (List ℕ) → List Filter → Type 0
IsOfKind SubKind.Zone rtype filters = (rtype ≡ None) × (filters ≡ [])
IsOfKind SubKind.Query None filters = ⊥
IsOfKind SubKind.Query (Some rtype) filters = IsName rtype × (length filters ≤ most_filters) × AllByRecursion IsFilter filters

-- it fires on something
pub record IsKeptSubscription (s : Subscription) : Type 0 where
  pub named : (id : List ℕ) × (s.id ≡ Some id) × IsName id
  pub key : IsKey s.key
  pub fires : (s.fires.create || (s.fires.update || s.fires.delete)) ≡ true
  pub kind : IsOfKind s.kind s.rtype s.filters

abbrev pub IsActInForm : Act → Type 0
IsActInForm (Writes ws) = AreWrites ws
IsActInForm (SetSubscription s) = IsKeptSubscription s
IsActInForm (DropSubscription scope id) = IsName id
IsActInForm _ = Unit {0}

pub record IsInForm (c : Commit) : Type 0 where
  pub key : IsKey c.key
  pub user : IsName c.user
  pub moment : c.moment < 2 ^ 64
  pub act : IsActInForm c.act
