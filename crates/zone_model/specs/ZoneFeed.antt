-- The feed of zones over all locks: lock after lock, each with its own log as it was found.
use Rattle.std.specs.Prelude.{ℕ, Bool, ◌-◌, List, [], ◌∷◌, map, flat_map, length}
use Rattle.std.specs.List.{list_any}
use Rattle.ck_base.specs.declared.key.ZoneKey.{ZoneKey}
use Rattle.ck_base.specs.declared.scope.Scope.{Scope}
use Rattle.zone_model.specs.declared.commits.Commit.{Commit}
use Rattle.zone_model.specs.Views.{view_of}
use Rattle.zone_model.specs.ZoneEntries.{zone_page}

-- a zone that has changed, and whether it is here now; one that is not is listed as deleted
pub record ChangedZone : Type 0 where
  pub key : ZoneKey
  pub here : Bool

-- a page of one lock
pub record LockPage : Type 0 where
  pub zones : List ChangedZone
  pub number : ℕ
  pub more : Bool

-- a page of all locks, with a number for each lock
pub record FeedPage : Type 0 where
  pub zones : List ChangedZone
  pub numbers : List ℕ
  pub more : Bool

module _ (u : List ℕ) (scope : Scope) where
  abbrev pub changed_zone : List Commit → ZoneKey → ChangedZone
  changed_zone log key = record { key = key; here = (view_of log u scope key).here }

  -- the page of a lock above n, with at most k zones
  abbrev pub lock_page : List Commit → ℕ → ℕ → LockPage
  lock_page log n k =
      let c = zone_page log u scope n k in
      record { zones = map (changed_zone log) c.names; number = c.number; more = c.more }

  -- each lock has what those before it left of the limit
  abbrev pub lock_pages : List (List Commit) → List ℕ → ℕ → List LockPage
  lock_pages [] ns k = []
  lock_pages (log ∷ logs) [] k = []
  lock_pages (log ∷ logs) (n ∷ ns) k = lock_page log n k ∷ lock_pages logs ns (k - length (lock_page log n k).zones)

  -- more follows where more follows at some lock
  abbrev pub feed_page : List (List Commit) → List ℕ → ℕ → FeedPage
  feed_page logs ns k =
      let pages = lock_pages logs ns k in
      record {
        zones = flat_map (λ (p : LockPage). p.zones) pages;
        numbers = map (λ (p : LockPage). p.number) pages;
        more = list_any (λ (p : LockPage). p.more) pages;
      }
