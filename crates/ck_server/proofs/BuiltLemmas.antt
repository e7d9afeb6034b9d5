-- References that only name records.
use Rattle.std.proofs.Common.{◌≡◌, Bool, true, false, List, [], ◌∷◌, ◌&&◌, refl, ap, ◌∙◌}
use Rattle.std.specs.Prelude.{flat_map}
use Rattle.std.specs.List.{list_all}
use Rattle.std.proofs.lemmas.List.Folds.{list_all-append}
use Rattle.record_model.specs.declared.value.RefTo.{RefTo}
use Rattle.record_model.specs.declared.value.Value.{Value, out-Value}
use Rattle.record_model.specs.declared.value.Value.TheOpen.{Value-F}
use Rattle.record_model.specs.ValueOrder.{elements_part}
use Rattle.plain_creates.specs.PlainCreates.{only_names, has_plain_references}
use Rattle.zone_model.specs.References.{single_references, level_references}

-- all of what each of a list has pass
all_of_each : {A B : Type 0} (test : B → Bool) (f : A → List B) (xs : List A) → list_all test (flat_map f xs) ≡ list_all (λ x. list_all test (f x)) xs
all_of_each test f [] = refl
all_of_each test f (x ∷ xs) = list_all-append test (f x) (flat_map f xs) ∙ ap (λ b. list_all test (f x) && b) (all_of_each test f xs)

and_true : (b : Bool) → b ≡ (b && true)
and_true true = refl
and_true false = refl

abbrev only_name : List RefTo → Bool
only_name references = list_all (λ (to : RefTo). only_names to.action) references

by_level : (x : Value-F Value) → only_name (level_references x) ≡ (only_name (single_references x) && list_all (λ v. only_name (single_references (out-Value v))) (elements_part x))
by_level (Value-F.Int64 n) = refl
by_level (Value-F.Timestamp n) = refl
by_level (Value-F.Text t) = refl
by_level (Value-F.Bytes b) = refl
by_level (Value-F.Reference r) = and_true (only_name (r ∷ []))
by_level (Value-F.List k vs) = all_of_each (λ (to : RefTo). only_names to.action) (λ v. single_references (out-Value v)) vs

-- a value by itself, and its elements
pub plain_by_parts : (v : Value) → has_plain_references v ≡ (only_name (single_references (out-Value v)) && list_all (λ w. only_name (single_references (out-Value w))) (elements_part (out-Value v)))
plain_by_parts v = by_level (out-Value v)
