-- The order that is derived for names is that of their bytes.
use mathlib.Core.Path.{fun_ext}
use Rattle.std.proofs.Common.{◌≡◌, ℕ, List, Bool, true, false, ◌&&◌, refl, ap, ◌∙◌, Ordering, Less, Equal, Greater}
use Rattle.std.specs.Ordering.{nat_cmp, ordering_then, is_lt}
use Rattle.std.specs.Cmp.Lexicographic.{slice_cmp}
use Rattle.ck_base.specs.Order.{is_before}

abbrev pub derived_cmp : List ℕ → List ℕ → Ordering
derived_cmp x y = ordering_then (slice_cmp nat_cmp x y) Equal

then_equal : (o : Ordering) → ordering_then o Equal ≡ o
then_equal Less = refl
then_equal Equal = refl
then_equal Greater = refl

pub by_bytes : derived_cmp ≡ slice_cmp nat_cmp
by_bytes = fun_ext (λ x. fun_ext (λ y. then_equal (slice_cmp nat_cmp x y)))

and_true : (b : Bool) → (b && true) ≡ b
and_true true = refl
and_true false = refl

-- what stands behind a name and before no end
pub behind : (k y : List ℕ) → (is_lt (derived_cmp k y) && true) ≡ is_before k y
behind k y = and_true (is_lt (derived_cmp k y)) ∙ ap is_lt (then_equal (slice_cmp nat_cmp k y))
