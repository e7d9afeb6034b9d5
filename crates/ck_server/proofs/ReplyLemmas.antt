-- Entries of pairs, one after another, where the second list is turned round.
use Rattle.std.proofs.Common.{◌≡◌, ◌<◌, ◌≤◌, ◌+◌, ℕ, List, [], ◌∷◌, ◌++◌, map, drop, get_or, length, reverse, refl, sym, ap, ◌∙◌, append_assoc, append-nil, arith}
use Rattle.std.specs.List.{zip}
use Rattle.std.proofs.lemmas.List.{drop_more, drop_all, reverse-append, reverse-reverse}

-- ---- turning round

module _ {A : Type 0} where
  pub turned_more : (done more left rest : List A) (x : A) (all : List A) → done ++ reverse left ≡ all → left ≡ rest ++ x ∷ [] → more ≡ done ++ x ∷ [] → more ++ reverse rest ≡ all
  turned_more done more left rest x all so_far popped pushed =
      ap (λ xs. xs ++ reverse rest) pushed ∙ append_assoc done (x ∷ []) (reverse rest)
      ∙ ap (λ xs. done ++ xs) (sym (ap reverse popped ∙ reverse-append rest (x ∷ []))) ∙ so_far

  pub turned_all : (done left all : List A) → done ++ reverse left ≡ all → left ≡ [] → done ≡ all
  turned_all done left all so_far none = sym (append-nil done) ∙ ap (λ xs. done ++ reverse xs) (sym none) ∙ so_far

-- ---- entries

none_zipped : {A B : Type 0} (xs : List A) (ys : List B) → ys ≡ [] → zip xs ys ≡ []
none_zipped [] ys none = refl
none_zipped (x ∷ xs) [] none = refl
none_zipped (x ∷ xs) (y ∷ ys) none = absurd (cc none)

module _ {A B C : Type 0} (f : A × B → C) (xs : List A) (all : List C) (done : List C) (i : ℕ) (left : List B)
    (so_far : done ++ map f (zip (drop i xs) (reverse left)) ≡ all) where
  -- one more entry, of the next pair
  pub next_entry : (more : List C) (x : A) (y : B) (rest : List B) (e : C) → i < length xs → x ≡ get_or xs i x → left ≡ rest ++ y ∷ [] → e ≡ f (x, y) → more ≡ done ++ e ∷ []
      → more ++ map f (zip (drop (i + 1) xs) (reverse rest)) ≡ all
  next_entry more x y rest e within at popped is_entry pushed =
      let next : drop i xs ≡ x ∷ drop (i + 1) xs = drop_more xs i x within ∙ ap (λ a. a ∷ drop (i + 1) xs) (sym at) in
      let turned : reverse left ≡ y ∷ reverse rest = ap reverse popped ∙ reverse-append rest (y ∷ []) in
      let after = map f (zip (drop (i + 1) xs) (reverse rest)) in
      ap (λ es. es ++ after) pushed ∙ append_assoc done (e ∷ []) after ∙ ap (λ a. done ++ a ∷ after) is_entry
      ∙ sym (ap (λ zs. done ++ map f (zip zs (reverse left))) next ∙ ap (λ bs. done ++ map f (zip (x ∷ drop (i + 1) xs) bs)) turned) ∙ so_far

  -- all entries, at the end of one list or the other
  pub past_names : length xs ≤ i → done ≡ all
  past_names past = sym (append-nil done) ∙ sym (ap (λ zs. done ++ map f (zip zs (reverse left))) (drop_all i xs past)) ∙ so_far

  pub past_items : left ≡ [] → done ≡ all
  past_items none = sym (append-nil done) ∙ sym (ap (λ ps. done ++ map f ps) (none_zipped (drop i xs) (reverse left) (ap reverse none))) ∙ so_far
