-- What comes of operations that are done one after another.
use Rattle.std.specs.Prelude.{◌≡◌, ℕ, Bool, true, not, List, [], ◌∷◌}
use Rattle.std.specs.List.{list_any, AllByRecursion}
use Rattle.zone_model.specs.declared.commits.Commit.{Commit}
use Rattle.zone_model.specs.Names.{is_shared}
use Rattle.zone_model.specs.Zones.{zone_at}
use Rattle.zone_model.specs.Views.{is_empty}
use Rattle.zone_model.specs.Requests.{Caller, NamedOp}
use Rattle.zone_model.specs.Lawful.{MayFollowInTurn}
use Rattle.zone_model.specs.Modifying.{Step, steps, effect_at, modified_apart}
use Rattle.zone_laws.specs.Answering.{AreStamped, PutsAreShown, DeletionsAreShown, AreAllowed, ArePermitted, tells_written}

-- it holds of each operation, as a request of its own, at the log that it finds
abbrev pub AtEachStep : Caller → ℕ → List Commit → List NamedOp → (List Commit → List NamedOp → Type 0) → Type 0
AtEachStep caller moment log ops Holds = AllByRecursion (λ (s : Step). Holds s.log (s.op ∷ [])) (steps caller moment log ops)

-- an operation that is done by itself tells of something written
abbrev pub tells_written_at : Caller → ℕ → Step → Bool
tells_written_at caller moment s = tells_written caller moment s.log (s.op ∷ [])

-- Each operation finds a log whose commits follow each other, and the zone is there. Its puts have the moment and the user, what its outcome
-- shows was written, and it writes only what it asks for and what comes of that; in the shared scope it is permitted where it writes. It
-- commits something just where its outcome tells so, and so do all of them.
pub record StepsKeepTheLaws : Type 0 where
  pub found : (caller : Caller) (moment : ℕ) (log : List Commit) (ops : List NamedOp)
      → MayFollowInTurn [] log → (zone_at log caller.key).there ≡ true
      → AtEachStep caller moment log ops (λ found op. MayFollowInTurn [] found × ((zone_at found caller.key).there ≡ true))
  pub stamped : (caller : Caller) (moment : ℕ) (log : List Commit) (ops : List NamedOp)
      → MayFollowInTurn [] log → (zone_at log caller.key).there ≡ true
      → AtEachStep caller moment log ops (AreStamped caller moment)
  pub puts_shown : (caller : Caller) (moment : ℕ) (log : List Commit) (ops : List NamedOp)
      → MayFollowInTurn [] log → (zone_at log caller.key).there ≡ true
      → AtEachStep caller moment log ops (PutsAreShown caller moment)
  pub deletions_shown : (caller : Caller) (moment : ℕ) (log : List Commit) (ops : List NamedOp)
      → MayFollowInTurn [] log → (zone_at log caller.key).there ≡ true
      → AtEachStep caller moment log ops (DeletionsAreShown caller moment)
  pub allowed : (caller : Caller) (moment : ℕ) (log : List Commit) (ops : List NamedOp)
      → MayFollowInTurn [] log → (zone_at log caller.key).there ≡ true
      → AtEachStep caller moment log ops (AreAllowed caller moment)
  pub permitted : (caller : Caller) (moment : ℕ) (log : List Commit) (ops : List NamedOp) → is_shared caller.scope ≡ true
      → AtEachStep caller moment log ops (ArePermitted caller moment)
  pub made : (caller : Caller) (moment : ℕ) (log : List Commit) (ops : List NamedOp)
      → MayFollowInTurn [] log → (zone_at log caller.key).there ≡ true
      → AtEachStep caller moment log ops (λ found op. not (is_empty (effect_at caller moment found op)) ≡ tells_written caller moment found op)
  pub all_made : (caller : Caller) (moment : ℕ) (log : List Commit) (ops : List NamedOp)
      → MayFollowInTurn [] log → (zone_at log caller.key).there ≡ true
      → not (is_empty (modified_apart caller moment log ops).commits) ≡ list_any (tells_written_at caller moment) (steps caller moment log ops)
