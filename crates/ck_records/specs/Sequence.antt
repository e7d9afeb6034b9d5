-- One reading after another, up to the first fault.
use Rattle.std.specs.Prelude.{List, [], ◌∷◌, ◌++◌, Option, Result, Ok}
use Rattle.std.specs.Option.{option_to_list}
use Rattle.field_values.specs.Results.{result_and_then}

infixl 10 ◌>>=◌
abbrev pub ◌>>=◌ : {A B E : Type 0} → Result A E → (A → Result B E) → Result B E
r >>= f = result_and_then f r

-- what f finds at each, or the first error
abbrev pub each_found : {A B E : Type 0} → (A → Result (Option B) E) → List A → Result (List B) E
each_found f [] = Ok []
each_found f (x ∷ xs) = do
  entry ← f x
  rest ← each_found f xs
  Ok (option_to_list entry ++ rest)
