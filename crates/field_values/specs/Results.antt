-- What is made of a result, and of a list of results up to the first error.
use Rattle.std.specs.Prelude.{List, [], ◌∷◌, Result, Ok, Err}

abbrev pub result_map : {A B E : Type 0} → (A → B) → Result A E → Result B E
result_map f (Ok x) = Ok (f x)
result_map f (Err e) = Err e

abbrev pub result_and_then : {A B E : Type 0} → (A → Result B E) → Result A E → Result B E
result_and_then f (Ok x) = f x
result_and_then f (Err e) = Err e

-- f of each, or the first error
abbrev pub each_or_first_error : {A B E : Type 0} → (A → Result B E) → List A → Result (List B) E
each_or_first_error f [] = Ok []
each_or_first_error f (x ∷ xs) = result_and_then (λ y. result_map (λ ys. y ∷ ys) (each_or_first_error f xs)) (f x)
