-- Records through a log.
use Rattle.std.specs.Prelude.{◌≡◌, ℕ, true, false, List, [], ◌∷◌, ◌++◌, Some}
use Rattle.ck_base.specs.declared.key.ZoneKey.{ZoneKey}
use Rattle.record_model.specs.declared.records.Record.{Record}
use Rattle.zone_model.specs.declared.commits.Commit.{Commit}
use Rattle.zone_model.specs.Names.{is_default}
use Rattle.zone_model.specs.Records.{record_at, is_there}
use Rattle.zone_model.specs.Zones.{zone_at, puts_at}
use Rattle.zone_model.specs.Lawful.{FitTogether, MayFollowInTurn}

-- the name has a record all the while that the commits are made: after each front of them
abbrev pub LivesThrough : List Commit → ZoneKey → List ℕ → List Commit → Type 0
LivesThrough log key x more = (front rest : List Commit) → more ≡ front ++ rest → is_there (zone_at (log ++ front) key).rows x ≡ true

-- After each lawful log a record's tag is the count of its puts, and the records of a zone fit together. A zone that is not
-- there holds nothing, and a default zone is always there. A record keeps its parent from one commit to the next, and so
-- through its life.
pub record LivesAreKept : Type 0 where
  pub tag : (log : List Commit) (key : ZoneKey) (x : List ℕ) (r : Record) → MayFollowInTurn [] log
      → record_at (zone_at log key).rows x ≡ Some r → r.tag ≡ puts_at log key x
  pub formed : (log : List Commit) (key : ZoneKey) → MayFollowInTurn [] log
      → FitTogether (zone_at log key).rows
  pub gone : (log : List Commit) (key : ZoneKey) → MayFollowInTurn [] log
      → (zone_at log key).there ≡ false → (zone_at log key).rows ≡ []
  pub home : (log : List Commit) (key : ZoneKey) → MayFollowInTurn [] log
      → is_default key ≡ true → (zone_at log key).there ≡ true
  pub parent : (log : List Commit) (c : Commit) (key : ZoneKey) (x : List ℕ) (old new : Record)
      → MayFollowInTurn [] (log ++ c ∷ [])
      → record_at (zone_at log key).rows x ≡ Some old → record_at (zone_at (log ++ c ∷ []) key).rows x ≡ Some new
      → new.parent ≡ old.parent
  pub life : (more log : List Commit) (key : ZoneKey) (x : List ℕ) (old new : Record)
      → MayFollowInTurn [] (log ++ more) → LivesThrough log key x more
      → record_at (zone_at log key).rows x ≡ Some old → record_at (zone_at (log ++ more) key).rows x ≡ Some new
      → new.parent ≡ old.parent
