-- What the removal of a name takes along.
use Rattle.std.specs.Prelude.{◌≡◌, ◌+◌, ◌≤◌, ℕ, Bool, true, false, not, ◌&&◌, ◌||◌, List, [], ◌∷◌, ◌++◌, filter, length, if◌then◌else◌}
use Rattle.std.specs.List.{list_any, AllByRecursion}
use Rattle.record_model.specs.declared.records.Record.{Record}
use Rattle.zone_model.specs.Names.{same, is_in}
use Rattle.zone_model.specs.Records.{is_there, IsAscending}
use Rattle.zone_model.specs.References.{goes_with}
use Rattle.zone_model.specs.Working.{is_share_of}
use Rattle.zone_judging.specs.declared.ties.Tie.{Tie}
use Rattle.zone_judging.specs.Ties.{is_tied}
use Rattle.zone_judging.specs.Sights.{IsRooted}

-- The records ascend by name, and each share that no deletion takes is the one that its root names.
pub record AreWhole (rows : List Record) (taken : List (List ℕ)) : Type 0 where
  pub ordered : IsAscending rows
  pub rooted : AllByRecursion (λ (r : Record). is_in taken r.name ≡ false → IsRooted rows r) rows

-- a record of that name passes
abbrev pub names_one : (Record → Bool) → List Record → List ℕ → Bool
names_one test rows y = list_any (λ (r : Record). test r && same y r.name) rows

-- the record goes with a, or is the share of a
abbrev pub goes_along : List (List ℕ) → List ℕ → Record → Bool
goes_along taken a r = not (is_in taken r.name) && (goes_with a r || is_share_of a r)

-- that, or it is a child of a
abbrev pub goes_below : List (List ℕ) → List ℕ → Record → Bool
goes_below taken a r = is_tied Tie.Child a r || goes_along taken a r

-- the names with one more behind them, if it is not there yet
abbrev pub with_last : List (List ℕ) → List ℕ → List (List ℕ)
with_last names x = if is_in names x then names else names ++ x ∷ []

-- how many records have none of the names
abbrev pub left : List Record → List (List ℕ) → ℕ
left rows names = length (filter (λ (r : Record). not (is_in names r.name)) rows)

-- The names, and behind them those of the records that pass.
pub record IsGrown (rows : List Record) (test : Record → Bool) (old new : List (List ℕ)) : Type 0 where
  pub more : List (List ℕ)
  pub front : new ≡ old ++ more
  pub names : (y : List ℕ) → is_in new y ≡ (is_in old y || names_one test rows y)
  pub few : left rows new + length new ≤ left rows old + length old

-- the names with one more, unless a deletion takes it
abbrev pub with_untaken : List (List ℕ) → List (List ℕ) → List ℕ → List (List ℕ)
with_untaken taken names x = if is_in taken x then names else with_last names x

-- the record is the share of a, and no deletion takes it
abbrev pub goes_as_share : List (List ℕ) → List ℕ → Record → Bool
goes_as_share taken a r = not (is_in taken r.name) && is_share_of a r

-- what the names have more are those that pass
abbrev pub HasJoined : (List ℕ → Bool) → List (List ℕ) → List (List ℕ) → Type 0
HasJoined test old new = (y : List ℕ) → is_in new y ≡ (is_in old y || test y)

-- a record of that name goes with t, which a deletion takes
abbrev pub goes_first : List Record → List (List ℕ) → List ℕ → List ℕ → Bool
goes_first rows taken y t = is_there rows t && names_one (goes_along taken t) rows y

-- The names, and what goes below them: all of it, and nothing else.
pub record IsSpread (rows : List Record) (taken old new : List (List ℕ)) : Type 0 where
  pub within : (y : List ℕ) → is_in old y ≡ true → is_in new y ≡ true
  pub closed : (x y : List ℕ) → is_in new x ≡ true → names_one (goes_below taken x) rows y ≡ true → is_in new y ≡ true
  pub least : (p : List ℕ → Bool) → ((y : List ℕ) → is_in old y ≡ true → p y ≡ true)
      → ((x y : List ℕ) → p x ≡ true → names_one (goes_below taken x) rows y ≡ true → p y ≡ true)
      → (y : List ℕ) → is_in new y ≡ true → p y ≡ true
