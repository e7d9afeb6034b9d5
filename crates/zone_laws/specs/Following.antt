-- Pages, feeds and what was seen, as histories grow.
use Rattle.std.specs.Prelude.{◌≡◌, ℕ, Bool, true, false, not, ◌&&◌, ◌||◌, List, [], ◌∷◌, ◌++◌, drop, map}
use Rattle.std.specs.List.{list_any, AllByRecursion}
use Rattle.ck_base.specs.declared.key.ZoneKey.{ZoneKey}
use Rattle.ck_base.specs.declared.scope.Scope.{Scope}
use Rattle.ck_base.specs.declared.scope.Scope.TheVariants.{Private, Shared}
use Rattle.zone_model.specs.declared.commits.Act.{Act}
use Rattle.zone_model.specs.declared.commits.Act.TheVariants.{Writes, MakeZone, DropZone, SetSubscription, DropSubscription}
use Rattle.zone_model.specs.declared.commits.Commit.{Commit}
use Rattle.zone_model.specs.declared.events.Event.{Event}
use Rattle.zone_model.specs.Names.{same, same_key, is_default}
use Rattle.zone_model.specs.Records.{record_at}
use Rattle.zone_model.specs.Views.{is_empty, view_of, views_of, was_seen}
use Rattle.zone_model.specs.Entries.{entries}
use Rattle.zone_model.specs.Pages.{page}
use Rattle.zone_model.specs.ZoneEntries.{zone_entries, zone_page}
use Rattle.zone_model.specs.ZoneFeed.{ChangedZone, lock_page}
use Rattle.zone_model.specs.Histories.{IsFront}
use Rattle.zone_model.specs.Events.{log_of}
use Rattle.zone_laws.specs.Copies.{Copy, IsInStep, fold_page}

-- The law of pages, between any two histories of which one is the front of the other: a copy that was in step at the
-- old one is, with the page of the new one folded in, in step with the page's number there, and is what the user sees
-- there where no more follows.
abbrev pub PagesHold : Type 0
PagesHold = (old new : List Event) (u : List ℕ) (scope : Scope) (key : ZoneKey) (copy : Copy) (n k : ℕ)
    → IsFront old new → IsInStep copy n (views_of (log_of old) u scope key)
    → (let vs = views_of (log_of new) u scope key in
    let after = fold_page copy (page vs n k).items in
    IsInStep after (page vs n k).number vs
    × ((page vs n k).more ≡ false → (x : List ℕ) → after x ≡ record_at (view_of (log_of new) u scope key).rows x))

-- the key has an entry above the number
abbrev pub is_due : List Commit → List ℕ → Scope → ℕ → ZoneKey → Bool
is_due log u scope n key = list_any (same_key key) (drop n (zone_entries log u scope))

-- The page of a lock lists just keys that have an entry above the number, and all of them where no more follows; each
-- with whether the zone is here. Further commits leave due what is due.
pub record FeedsTellAll : Type 0 where
  pub only : (log : List Commit) (u : List ℕ) (scope : Scope) (n k : ℕ) (key : ZoneKey)
      → list_any (same_key key) (zone_page log u scope n k).names ≡ true → is_due log u scope n key ≡ true
  pub all : (log : List Commit) (u : List ℕ) (scope : Scope) (n k : ℕ) (key : ZoneKey)
      → (zone_page log u scope n k).more ≡ false → is_due log u scope n key ≡ true
      → list_any (same_key key) (zone_page log u scope n k).names ≡ true
  pub keys : (log : List Commit) (u : List ℕ) (scope : Scope) (n k : ℕ)
      → map (λ (z : ChangedZone). z.key) (lock_page u scope log n k).zones ≡ (zone_page log u scope n k).names
  pub here : (log : List Commit) (u : List ℕ) (scope : Scope) (n k : ℕ)
      → AllByRecursion (λ (z : ChangedZone). z.here ≡ (view_of log u scope z.key).here) (lock_page u scope log n k).zones
  pub due : (log more : List Commit) (u : List ℕ) (scope : Scope) (n : ℕ) (key : ZoneKey)
      → is_due log u scope n key ≡ true → is_due (log ++ more) u scope n key ≡ true

abbrev pub makes_zone : Act → Bool
makes_zone (Writes ws) = false
makes_zone MakeZone = true
makes_zone DropZone = false
makes_zone (SetSubscription s) = false
makes_zone (DropSubscription scope id) = false

-- Whether a zone was seen, without its views: it was before, or it is here now; in the private scope its owner has seen
-- it where it is a default zone or was made; and in the shared scope it was where there are change entries.
pub record SeenIsTold : Type 0 where
  pub start : (u : List ℕ) (scope : Scope) (key : ZoneKey) → was_seen [] u scope key ≡ (view_of [] u scope key).here
  pub more : (log : List Commit) (c : Commit) (u : List ℕ) (scope : Scope) (key : ZoneKey)
      → was_seen (log ++ c ∷ []) u scope key ≡ (was_seen log u scope key || (view_of (log ++ c ∷ []) u scope key).here)
  pub private : (log : List Commit) (u : List ℕ) (key : ZoneKey)
      → was_seen log u Private key
      ≡ (same u key.owner && (is_default key || list_any (λ (c : Commit). same_key key c.key && makes_zone c.act) log))
  pub shared : (log : List Commit) (u : List ℕ) (key : ZoneKey)
      → was_seen log u Shared key ≡ not (is_empty (entries (views_of log u Shared key)))
