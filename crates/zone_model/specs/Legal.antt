-- Which events may follow in the history of a lock.
use Rattle.std.specs.Prelude.{◌≡◌, ◌≤◌, ◌<◌, ℕ, suc, Bool, true, ◌==◌, ◌&&◌, ◌||◌, ◌-◌, ◌^◌, nat_lt, fold, List, ◌++◌, length}
use Rattle.std.specs.List.{AllByRecursion}
use Rattle.ck_base.specs.Names.{lock_of_names}
use Rattle.zone_model.specs.declared.commits.Commit.{Commit}
use Rattle.zone_model.specs.declared.events.Event.{Event}
use Rattle.zone_model.specs.declared.events.Event.TheVariants.{Made, StoreFailed}
use Rattle.zone_model.specs.Limits.{most_items}
use Rattle.zone_model.specs.Histories.{EachAfter}
use Rattle.zone_model.specs.Events.{origin_of, log_of, own}
use Rattle.zone_model.specs.Lawful.{IsLawful}

abbrev pub IsOfLock : ℕ → Commit → Type 0
IsOfLock lock c = lock_of_names c.key.owner c.key.zone ≡ lock

-- at least one commit and at most one for each operation of a request, all of the lock, each of which is lawful after the log and those before it
pub record AreLegalCommits (lock : ℕ) (log cs : List Commit) : Type 0 where
  pub some : 0 < length cs
  pub few : length cs ≤ most_items
  pub of_lock : AllByRecursion (IsOfLock lock) cs
  pub lawful : EachAfter (λ before c. IsLawful (log ++ before) c) cs

-- the count of faults that the store had when it failed last, as far as the events tell
abbrev pub faults_behind : ℕ → Event → ℕ
faults_behind count (Made origin commits) = count
faults_behind count (StoreFailed origin before after) = after

abbrev pub faults_told : List Event → ℕ
faults_told events = fold faults_behind 0 events

-- a count of faults rose in between: it is greater, or it stands at the end of its 64 bits
abbrev pub has_risen : ℕ → ℕ → Bool
has_risen before after = nat_lt before after || ((before == 2 ^ 64 - 1) && (after == 2 ^ 64 - 1))

-- what the event tells may follow those before it: legal commits, or a count that rose and that has not fallen since the last fault
abbrev pub IsAllowed : ℕ → List Event → Event → Type 0
IsAllowed lock before (Made origin commits) = AreLegalCommits lock (log_of before) commits
IsAllowed lock before (StoreFailed origin from to) = (faults_told before ≤ from) × (has_risen from to ≡ true)

-- the event may follow those before it: it is the next of its seat, and what it tells may follow
pub record IsLegalEvent (lock : ℕ) (before : List Event) (e : Event) : Type 0 where
  pub next : (origin_of e).count ≡ suc (length (own (origin_of e).seat before))
  pub allowed : IsAllowed lock before e

-- the history of a lock is legal: each of its events may follow those before it
abbrev pub IsLegal : ℕ → List Event → Type 0
IsLegal lock events = EachAfter (IsLegalEvent lock) events
