-- What a user sees of a zone, and has seen.
use Rattle.std.specs.Prelude.{ℕ, Bool, true, false, not, ◌||◌, List, [], ◌∷◌, map, filter, if◌then◌else◌}
use Rattle.std.specs.List.{list_any}
use Rattle.ck_base.specs.declared.key.ZoneKey.{ZoneKey}
use Rattle.ck_base.specs.declared.scope.Scope.{Scope}
use Rattle.ck_base.specs.declared.scope.Scope.TheVariants.{Private, Shared}
use Rattle.record_model.specs.declared.records.Record.{Record}
use Rattle.record_model.specs.declared.view.View.{View}
use Rattle.zone_model.specs.declared.commits.Commit.{Commit}
use Rattle.zone_model.specs.Names.{same, is_default}
use Rattle.name_rules.specs.Options.{is_some_and}
use Rattle.zone_model.specs.Records.{share_of}
use Rattle.zone_model.specs.Same.{same_view}
use Rattle.zone_model.specs.Zones.{Zone, zone_at}
use Rattle.zone_model.specs.Coverage.{covers}
use Rattle.share_records.specs.Permissions.{has_accepted}

abbrev pub is_empty : {X : Type 0} → List X → Bool
is_empty [] = true
is_empty (x ∷ xs) = false

-- the zone is not here
abbrev pub nowhere : View
nowhere = record { here = false; rows = [] }

-- a covered record, or a share that the user accepted
abbrev pub is_visible : List Record → List ℕ → Record → Bool
is_visible rows u r = covers rows u r.name || is_some_and (has_accepted u) (share_of r)

-- the owner sees all of the zone
abbrev pub owner_view : Zone → View
owner_view z = if z.there then record { here = true; rows = z.rows } else nowhere

-- a participant's zone is here where something of it is visible
abbrev pub participant_view : Zone → List ℕ → View
participant_view z u =
    let visible = filter (is_visible z.rows u) z.rows in
    record { here = not (is_empty visible); rows = visible }

-- in the private scope one's own zones, in the shared scope the custom zones of others
abbrev pub view_of_zone : Zone → List ℕ → Scope → ZoneKey → View
view_of_zone z u Private key = if same u key.owner then owner_view z else nowhere
view_of_zone z u Shared key = if same u key.owner || is_default key then nowhere else participant_view z u

abbrev pub view_of : List Commit → List ℕ → Scope → ZoneKey → View
view_of log u scope key = view_of_zone (zone_at log key) u scope key

-- ---- the views that were

-- the fronts of a list, from the empty one on
abbrev pub fronts : {X : Type 0} → List X → List (List X)
fronts [] = [] ∷ []
fronts (x ∷ xs) = [] ∷ map (λ front. x ∷ front) (fronts xs)

-- the view of each front of the log, from the empty one on
abbrev pub views_at_fronts : List Commit → List ℕ → Scope → ZoneKey → List View
views_at_fronts log u scope key = map (λ front. view_of front u scope key) (fronts log)

-- of the views that follow v those that are not equal to the one before them
abbrev pub changes_after : View → List View → List View
changes_after v [] = []
changes_after v (w ∷ vs) = if same_view v w then changes_after w vs else w ∷ changes_after w vs

-- the first view, and each that is not equal to the one before it
abbrev pub without_repeats : List View → List View
without_repeats [] = []
without_repeats (v ∷ vs) = v ∷ changes_after v vs

-- the views that were, one after another: none is equal to the one before it
abbrev pub views_of : List Commit → List ℕ → Scope → ZoneKey → List View
views_of log u scope key = without_repeats (views_at_fronts log u scope key)

abbrev pub last_view : List View → View
last_view [] = nowhere
last_view (v ∷ []) = v
last_view (v ∷ w ∷ vs) = last_view (w ∷ vs)

-- one of the views was here
abbrev pub was_seen : List Commit → List ℕ → Scope → ZoneKey → Bool
was_seen log u scope key = list_any (λ (v : View). v.here) (views_of log u scope key)
