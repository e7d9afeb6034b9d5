-- Lists under a function, and the elements of an array.
use Rattle.std.proofs.Common.{◌≡◌, Bool, List, [], ◌∷◌, map, refl, ap, sym, ◌∙◌, ℕ, ◌+◌, ◌<◌, length, drop, get_or, ◌||◌, ◌&&◌}
use Rattle.std.proofs.lemmas.List.{drop_more}
use Rattle.std.specs.Prelude.{Result, Err, ◌++◌}
use Rattle.std.specs.List.{list_any, list_all}
use Rattle.serde_json.specs.Data.{Data}
use Rattle.serde_json.specs.View.{items_of}
use Rattle.field_values.specs.Results.{result_map, each_or_first_error}
use Rattle.field_values.specs.Members.{elements}

pub list_any_map : {A B : Type 0} (p : B → Bool) (f : A → B) (xs : List A) → list_any p (map f xs) ≡ list_any (λ x. p (f x)) xs
list_any_map p f [] = refl
list_any_map p f (x ∷ xs) = ap (λ b. p (f x) || b) (list_any_map p f xs)

pub list_all_map : {A B : Type 0} (p : B → Bool) (f : A → B) (xs : List A) → list_all p (map f xs) ≡ list_all (λ x. p (f x)) xs
list_all_map p f [] = refl
list_all_map p f (x ∷ xs) = ap (λ b. p (f x) && b) (list_all_map p f xs)

-- the elements of an array are the list that it was made from
pub elements_items : (ds : List Data) → elements (items_of ds) ≡ ds
elements_items [] = refl
elements_items (d ∷ ds) = ap (λ xs. d ∷ xs) (elements_items ds)

-- the first error is that of the next item, where those before it have none
pub first_error : {J A B E : Type 0} (f : A → Result B E) (view : J → A) (done : List B) (items : List J) (i : ℕ) (item : J) (e : E)
    → i < length items → item ≡ get_or items i item → f (view item) ≡ Err e
    → each_or_first_error f (map view items) ≡ result_map (λ rest. done ++ rest) (each_or_first_error f (map view (drop i items)))
    → Err e ≡ each_or_first_error f (map view items)
first_error {A} {B} {E} f view done items i item e within at failed so_far =
    let next : drop i items ≡ item ∷ drop (i + 1) items = drop_more items i item within ∙ ap (λ x. x ∷ drop (i + 1) items) (sym at) in
    let at_next : each_or_first_error f (map view (item ∷ drop (i + 1) items)) ≡ Err e = rw failed in
    sym (so_far ∙ rw (next, at_next))
