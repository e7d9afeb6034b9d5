-- Loops that read one thing after another, up to the first fault.
use Rattle.std.proofs.Common.{◌≡◌, ℕ, ◌+◌, ◌<◌, List, [], ◌∷◌, ◌++◌, length, drop, get_or, map, Option, refl, sym, ap, ◌∙◌, subst, append_assoc}
use Rattle.std.specs.Prelude.{Result, Ok, Err}
use Rattle.std.specs.List.{AllByRecursion}
use Rattle.std.specs.Option.{option_to_list}
use Rattle.std.proofs.lemmas.List.{drop_more}
use Rattle.serde_json.specs.Data.{Data}
use Rattle.serde_json.specs.View.{view}
use Rattle.serde_json.specs.declared.value.Value.{Value as Json}
use Rattle.field_values.specs.Results.{result_map, result_and_then}
use Rattle.ck_records.specs.Sequence.{each_found}

-- what stands behind a list, before more
behind_more : {A E : Type 0} (done more : List A) (rest : Result (List A) E)
    → result_map (λ xs. done ++ xs) (result_map (λ xs. more ++ xs) rest) ≡ result_map (λ xs. (done ++ more) ++ xs) rest
behind_more done more (Ok xs) = ap Ok (sym (append_assoc done more xs))
behind_more done more (Err e) = refl

-- each of a list, with one more at its end
pub all_more : {A : Type 0} (P : A → Type 0) (xs ys : List A) (x : A) → ys ≡ xs ++ x ∷ [] → AllByRecursion P xs → P x → AllByRecursion P ys
all_more {A = A} P xs ys x pushed all one = subst (AllByRecursion P) (sym pushed) (pushed_on xs all) where
  pushed_on : (zs : List A) → AllByRecursion P zs → AllByRecursion P (zs ++ x ∷ [])
  pushed_on [] h = (one, tt)
  pushed_on (z ∷ zs) h = (h.0, pushed_on zs h.1)

drop_item : (items : List Json) (i : ℕ) (item : Json) → i < length items → item ≡ get_or items i item → map view (drop i items) ≡ view item ∷ map view (drop (i + 1) items)
drop_item items i item within at = ap (map view) (drop_more items i item within ∙ ap (λ x. x ∷ drop (i + 1) items) (sym at))

module _ {B E : Type 0} (read : Data → Result (Option B) E) where
  next_found : (d : Data) (ds : List Data) (entry : Option B) → read d ≡ Ok entry → each_found read (d ∷ ds) ≡ result_map (λ rest. option_to_list entry ++ rest) (each_found read ds)
  next_found d ds entry e = ap (λ r. result_and_then (λ entry. result_and_then (λ rest. Ok (option_to_list entry ++ rest)) (each_found read ds)) r) e ∙ as_map (each_found read ds) where
    as_map : (r : Result (List B) E) → result_and_then (λ rest. Ok (option_to_list entry ++ rest)) r ≡ result_map (λ rest. option_to_list entry ++ rest) r
    as_map (Ok xs) = refl
    as_map (Err e) = refl

  -- an entry was read that stands next
  pub entry_read : (items : List Json) (i : ℕ) (item : Json) (entry : Option B) (done list : List B) → i < length items → item ≡ get_or items i item
      → Ok entry ≡ read (view item) → list ≡ done ++ option_to_list entry
      → each_found read (map view items) ≡ result_map (λ rest. done ++ rest) (each_found read (map view (drop i items)))
      → each_found read (map view items) ≡ result_map (λ rest. list ++ rest) (each_found read (map view (drop (i + 1) items)))
  entry_read items i item entry done list within at well grown so_far =
      let later = each_found read (map view (drop (i + 1) items)) in
      so_far ∙ ap (λ ds. result_map (λ rest. done ++ rest) (each_found read ds)) (drop_item items i item within at)
      ∙ ap (λ r. result_map (λ rest. done ++ rest) r) (next_found (view item) (map view (drop (i + 1) items)) entry (sym well))
      ∙ behind_more done (option_to_list entry) later ∙ ap (λ xs. result_map (λ rest. xs ++ rest) later) (sym grown)

  -- an entry that stands next has a fault
  pub entry_refused : (items : List Json) (i : ℕ) (item : Json) (fault : E) (done : List B) → i < length items → item ≡ get_or items i item
      → read (view item) ≡ Err fault → each_found read (map view items) ≡ result_map (λ rest. done ++ rest) (each_found read (map view (drop i items)))
      → Err fault ≡ each_found read (map view items)
  entry_refused items i item fault done within at refused so_far =
      sym (so_far ∙ ap (λ ds. result_map (λ rest. done ++ rest) (each_found read ds)) (drop_item items i item within at)
      ∙ ap (λ r. result_map (λ (rest : List B). done ++ rest) (result_and_then (λ entry. result_and_then (λ rest. Ok (option_to_list entry ++ rest)) (each_found read (map view (drop (i + 1) items)))) r)) refused)
