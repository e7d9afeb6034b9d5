-- A zone that somebody sees is there.
use Rattle.std.proofs.Common.{◌≡◌, ℕ, List, [], Bool, true, false, not, ◌||◌, refl, ap}
use Rattle.std.specs.Prelude.{filter, if◌then◌else◌}
use Rattle.std.proofs.lemmas.Bool.{both_ways}
use Rattle.ck_base.specs.declared.key.ZoneKey.{ZoneKey}
use Rattle.ck_base.specs.declared.scope.Scope.{Scope}
use Rattle.ck_base.specs.declared.scope.Scope.TheVariants.{Private, Shared}
use Rattle.record_model.specs.declared.records.Record.{Record}
use Rattle.zone_model.specs.declared.commits.Commit.{Commit}
use Rattle.zone_model.specs.Names.{same, is_default}
use Rattle.zone_model.specs.Zones.{Zone, zone_at}
use Rattle.zone_model.specs.Views.{is_empty, nowhere, is_visible, participant_view, view_of_zone, view_of}
use Rattle.zone_laws.specs.LawfulTests.{are_lawful}
use Rattle.zone_laws.proofs.ThereLaws.{IsBareWhereGone, bare-zone}

owner_by : (b t : Bool) (rows : List Record) → (if b then (if t then record { here = true; rows = rows } else nowhere) else nowhere).here ≡ true → t ≡ true
owner_by true true rows e = refl
owner_by true false rows e = e
owner_by false t rows e = absurd (both_ways false refl e)

hidden_by : (b : Bool) (rows : List Record) (u : List ℕ) → rows ≡ [] → (if b then nowhere else record { here = not (is_empty (filter (is_visible rows u) rows)); rows = filter (is_visible rows u) rows }).here ≡ true → ⊥
hidden_by true rows u bare e = both_ways false refl e
hidden_by false rows u bare e = both_ways (not (is_empty (filter (is_visible rows u) rows))) (ap (λ (rs : List Record). not (is_empty (filter (is_visible rs u) rs))) bare) e

participant_by : (t b : Bool) (z : Zone) (u : List ℕ) → z.there ≡ t → IsBareWhereGone z → (if b then nowhere else participant_view z u).here ≡ true → t ≡ true
participant_by true b z u is bare e = refl
participant_by false b z u is bare e = absurd (hidden_by b z.rows u (bare is) e)

seen_there : (z : Zone) (u : List ℕ) (scope : Scope) (key : ZoneKey) → IsBareWhereGone z → (view_of_zone z u scope key).here ≡ true → z.there ≡ true
seen_there z u Private key bare e = owner_by (same u key.owner) z.there z.rows e
seen_there z u Shared key bare e = participant_by z.there (same u key.owner || is_default key) z u refl bare e

pub there-seen : (log : List Commit) (u : List ℕ) (scope : Scope) (key : ZoneKey) → are_lawful [] log ≡ true → (view_of log u scope key).here ≡ true → (zone_at log key).there ≡ true
there-seen log u scope key lawful e = seen_there (zone_at log key) u scope key (bare-zone log key lawful) e
