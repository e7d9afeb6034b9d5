-- What the order of values is to be.
use Rattle.std.specs.Prelude.{◌≡◌, ◌<◌, ℕ, ℤ, List, false}
use Rattle.std.specs.Ordering.{nat_cmp, int_cmp, ordering_then, ordering_reverse, is_gt}
use Rattle.std.specs.Cmp.Lexicographic.{slice_cmp}
use Rattle.std.specs.declared.cmp.Ordering.{Ordering}
use Rattle.std.specs.declared.cmp.Ordering.TheVariants.{Less, Equal}
use Rattle.record_model.specs.declared.value.Kind.{Kind}
use Rattle.record_model.specs.declared.value.RefTo.{RefTo}
use Rattle.record_model.specs.declared.value.Value.{Value, out-Value}
use Rattle.record_model.specs.declared.value.Value.TheVariants.{Int64, Timestamp, Text, Bytes, Reference, List as ListValue}
use Rattle.record_model.specs.Shapes.{kind_place}
use Rattle.record_model.specs.ValueOrder.{action_place, rank}

-- a total order, in which only equal values stand at one place
pub record IsLinear {A : Type 0} (cmp : A → A → Ordering) : Type 0 where
  pub reflexive : (x : A) → cmp x x ≡ Equal
  pub total : (x y : A) → cmp x y ≡ ordering_reverse (cmp y x)
  pub antisymmetric : (x y : A) → cmp x y ≡ Equal → x ≡ y
  pub transitive : (x y z : A) → is_gt (cmp x y) ≡ false → is_gt (cmp y z) ≡ false → is_gt (cmp x z) ≡ false

-- the order, case by case
pub record IsByKinds (cmp : Value → Value → Ordering) : Type 0 where
  pub variants : (a b : Value) → rank (out-Value a) < rank (out-Value b) → cmp a b ≡ Less
  pub int64s : (m n : ℤ) → cmp (Int64 m) (Int64 n) ≡ int_cmp m n
  pub timestamps : (m n : ℤ) → cmp (Timestamp m) (Timestamp n) ≡ int_cmp m n
  pub texts : (s t : List ℕ) → cmp (Text s) (Text t) ≡ slice_cmp nat_cmp s t
  pub bytes : (s t : List ℕ) → cmp (Bytes s) (Bytes t) ≡ slice_cmp nat_cmp s t
  pub references : (r s : RefTo) → cmp (Reference r) (Reference s)
      ≡ ordering_then (slice_cmp nat_cmp r.name s.name) (nat_cmp (action_place r.action) (action_place s.action))
  pub lists : (k l : Kind) (vs ws : List Value) → cmp (ListValue k vs) (ListValue l ws)
      ≡ ordering_then (nat_cmp (kind_place k) (kind_place l)) (slice_cmp cmp vs ws)
