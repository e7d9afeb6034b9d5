-- Which names may be written, without a count of steps.
use Rattle.std.specs.Prelude.{◌≡◌, ℕ, true, false, List, Some}
use Rattle.zone_model.specs.Ancestry.{parent_at}
use Rattle.zone_model.specs.Coverage.{may_write}
use Rattle.zone_model.specs.Grounds.{Grounds, is_seen, is_writable}

-- y is the nearest name at or above x that is in the view
pub data IsNearestSeen (g : Grounds) (y : List ℕ) : List ℕ → Type 0 where
  itself : (x : List ℕ) → y ≡ x → is_seen g x ≡ true → IsNearestSeen g y x
  above : (x p : List ℕ) → is_seen g x ≡ false → parent_at g.working x ≡ Some p → IsNearestSeen g y p → IsNearestSeen g y x

-- the nearest that is in the view may be written
pub record IsWritable (g : Grounds) (x : List ℕ) : Type 0 where
  pub nearest : List ℕ
  pub is : IsNearestSeen g nearest x
  pub writable : may_write g.seen g.caller.user nearest ≡ true

-- the test of the judgement passes just where it is so
pub record WritableIsTold : Type 0 where
  pub told : (g : Grounds) (x : List ℕ) → is_writable g x ≡ true → IsWritable g x
  pub found : (g : Grounds) (x : List ℕ) → IsWritable g x → is_writable g x ≡ true
