-- The feed of zones that changed for a user, at one lock.
use Rattle.std.specs.Prelude.{ℕ, Bool, not, ◌&&◌, List, [], ◌∷◌, ◌++◌, if◌then◌else◌}
use Rattle.ck_base.specs.declared.key.ZoneKey.{ZoneKey}
use Rattle.ck_base.specs.declared.scope.Scope.{Scope}
use Rattle.zone_model.specs.declared.commits.Commit.{Commit}
use Rattle.zone_model.specs.Names.{same_key, is_default}
use Rattle.zone_model.specs.Views.{view_of}
use Rattle.zone_model.specs.Same.{same_view}
use Rattle.name_rules.specs.Choices.{Choice, choice}

-- the commit changes what the user sees of a custom zone, which can only be its own zone
abbrev pub is_noticed : List ℕ → Scope → List Commit → Commit → Bool
is_noticed u scope before c = not (is_default c.key) && not (same_view (view_of before u scope c.key) (view_of (before ++ c ∷ []) u scope c.key))

abbrev pub zone_entries_after : List ℕ → Scope → List Commit → List Commit → List ZoneKey
zone_entries_after u scope before [] = []
zone_entries_after u scope before (c ∷ cs) =
    (if is_noticed u scope before c then c.key ∷ [] else []) ++ zone_entries_after u scope (before ++ c ∷ []) cs

-- a zone's key for each change of what the user sees of it, in the order of the log; they are numbered from 1
abbrev pub zone_entries : List Commit → List ℕ → Scope → List ZoneKey
zone_entries log u scope = zone_entries_after u scope [] log

-- the page above n with at most k zones
abbrev pub zone_page : List Commit → List ℕ → Scope → ℕ → ℕ → Choice ZoneKey
zone_page log u scope n k = choice same_key (zone_entries log u scope) n k
