-- The order of two values, one level at a time.
use Rattle.std.proofs.Common.{◌≡◌, List, [], ◌∷◌, map, refl, ap, ◌∙◌}
use Rattle.std.specs.Ordering.{ordering_then}
use Rattle.std.specs.Cmp.Lexicographic.{slice_cmp}
use Rattle.std.specs.declared.cmp.Ordering.{Ordering}
use Rattle.record_model.specs.declared.value.Value.{Value, out-Value, fold_out-Value}
use Rattle.record_model.specs.declared.value.Value.TheOpen.{Value-F}
use Rattle.record_model.specs.declared.value.Value.TheFolds.{map-Value}
use Rattle.record_model.specs.ValueOrder.{parts_cmp, elements_part, level_cmp, value_cmp}

-- orders that wait for the second element, as one order
pub slice_cmp-map : {A B : Type 0} (cmp : A → B → Ordering) (xs : List A) (ys : List B)
    → slice_cmp (λ f w. f w) (map cmp xs) ys ≡ slice_cmp cmp xs ys
slice_cmp-map cmp [] [] = refl
slice_cmp-map cmp [] (y ∷ ys) = refl
slice_cmp-map cmp (x ∷ xs) [] = refl
slice_cmp-map cmp (x ∷ xs) (y ∷ ys) = ap (λ o. ordering_then (cmp x y) o) (slice_cmp-map cmp xs ys)

level_by_parts : (x y : Value-F Value) → level_cmp (map-Value Value (Value → Ordering) value_cmp x) y
    ≡ ordering_then (parts_cmp x y) (slice_cmp value_cmp (elements_part x) (elements_part y))
level_by_parts (Value-F.Int64 n) y = ap (λ o. ordering_then (parts_cmp {A = Value} (Value-F.Int64 n) y) o) (slice_cmp-map value_cmp [] (elements_part y))
level_by_parts (Value-F.Timestamp n) y = ap (λ o. ordering_then (parts_cmp {A = Value} (Value-F.Timestamp n) y) o) (slice_cmp-map value_cmp [] (elements_part y))
level_by_parts (Value-F.Text t) y = ap (λ o. ordering_then (parts_cmp {A = Value} (Value-F.Text t) y) o) (slice_cmp-map value_cmp [] (elements_part y))
level_by_parts (Value-F.Bytes b) y = ap (λ o. ordering_then (parts_cmp {A = Value} (Value-F.Bytes b) y) o) (slice_cmp-map value_cmp [] (elements_part y))
level_by_parts (Value-F.Reference r) y = ap (λ o. ordering_then (parts_cmp {A = Value} (Value-F.Reference r) y) o) (slice_cmp-map value_cmp [] (elements_part y))
level_by_parts (Value-F.List k vs) y = ap (λ o. ordering_then (parts_cmp {A = Value} (Value-F.List k vs) y) o) (slice_cmp-map value_cmp vs (elements_part y))

-- the parts of two values, and then their elements in order
pub value_cmp_by_parts : (a b : Value) → value_cmp a b
    ≡ ordering_then (parts_cmp (out-Value a) (out-Value b)) (slice_cmp value_cmp (elements_part (out-Value a)) (elements_part (out-Value b)))
value_cmp_by_parts a b =
    ap (λ f. f b) (fold_out-Value (Value → Ordering) (λ x w. level_cmp x (out-Value w)) a) ∙ level_by_parts (out-Value a) (out-Value b)
