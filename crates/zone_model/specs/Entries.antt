-- The change entries of a viewer.
use Rattle.std.specs.Prelude.{ℕ, not, List, [], ◌∷◌, ◌++◌, filter}
use Rattle.record_model.specs.declared.view.View.{View}
use Rattle.zone_model.specs.Names.{names_of_both}
use Rattle.zone_model.specs.Records.{record_at, names_in}
use Rattle.zone_model.specs.Same.{same_found}

-- the names whose record differs, in ascending order
abbrev pub changed : View → View → List (List ℕ)
changed v w = filter (λ x. not (same_found (record_at v.rows x) (record_at w.rows x))) (names_of_both (names_in v.rows) (names_in w.rows))

-- the names that change from each view to the next, one list after another; they are numbered from 1
abbrev pub entries : List View → List (List ℕ)
entries [] = []
entries (v ∷ []) = []
entries (v ∷ w ∷ vs) = changed v w ++ entries (w ∷ vs)
