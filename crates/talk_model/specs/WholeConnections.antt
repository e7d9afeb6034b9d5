-- Connections whose bytes are whole requests to their end: which are answered, and how the connection ends.
use Rattle.std.specs.Prelude.{◌≡◌, ◌⊎◌, ℕ, zero, suc, List, [], ◌∷◌, if◌then◌else◌}
use Rattle.std.specs.Option.{option_map_or}
use Rattle.std.specs.List.{AllZip, concat}
use Rattle.http_front.specs.declared.request.Request.{Request}
use Rattle.http_front.specs.Requests.{IsRequest}
use Rattle.http_front.specs.Users.{Table}
use Rattle.talk_model.specs.declared.ends.End.{End}
use Rattle.talk_model.specs.declared.ends.End.TheVariants.{Closed, CloseAsked, Spent, NotBuilt}
use Rattle.talk_model.specs.Requests.{Meaning, meaning_of}

-- The bytes are these requests, one after another, and nothing else.
abbrev pub AreWhole : List ℕ → List Request → Type 0
AreWhole bytes requests = (pieces : List (List ℕ)) × (bytes ≡ concat pieces) × AllZip IsRequest pieces requests

module _ (t : Table) where
  -- what is wanted of those that are answered, of so many at most: up to the first that asks to close, and ahead of the first whose form is not built
  abbrev pub answered : ℕ → List Request → List Meaning
  answered zero rs = []
  answered (suc n) [] = []
  answered (suc n) (r ∷ rs) = option_map_or (λ (w : Meaning). w ∷ (if w.close then [] else answered n rs)) (meaning_of t r) []

  -- how the connection ends
  abbrev pub end_behind : ℕ → List Request → End
  end_behind zero rs = Spent
  end_behind (suc n) [] = Closed
  end_behind (suc n) (r ∷ rs) = option_map_or (λ (w : Meaning). if w.close then CloseAsked else end_behind n rs) (meaning_of t r) NotBuilt

-- the source ended behind a request, a request asked to close, or all were answered that a connection may have
abbrev pub IsGoodEnd : End → Type 0
IsGoodEnd end = (end ≡ Closed) ⊎ ((end ≡ CloseAsked) ⊎ (end ≡ Spent))
