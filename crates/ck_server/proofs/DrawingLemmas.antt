-- Draws in a row.
use Rattle.std.proofs.Common.{◌≡◌, ℕ, List, [], ◌∷◌, ◌++◌, map, refl, sym, ap, ◌∙◌, subst, append-nil}
use Rattle.std.specs.Prelude.{true, false, Result, Ok, Err}
use Rattle.std.proofs.lemmas.List.{map_push}
use Rattle.ck_devices.specs.declared.faults.Failed.{Failed}
use Rattle.ck_devices.specs.Runs.{GivesInTurn}
use Rattle.talk_model.specs.Given.{draws_by, Draws}

-- one more that was given
gives_more : {D A : Type 0} (gives : D → A → D → Type 0) (before mid after : D) (xs : List A) (x : A)
    → GivesInTurn gives before xs mid → gives mid x after → GivesInTurn gives before (xs ++ x ∷ []) after
gives_more gives before mid after [] x given one = (after, subst (λ d. gives d x after) given one, refl)
gives_more gives before mid after (y ∷ ys) x given one = (given.0, given.1, gives_more gives given.0 mid after ys x given.2 one)

module _ {R : Type 0} (gives : R → Result (List ℕ) Failed → R → Type 0) (count : R → ℕ) (before mid after : R) (words : List (List ℕ))
    (given : GivesInTurn (Draws gives count) before (draws_by words true) mid) where
  abbrev ok : List ℕ → Result (List ℕ) Failed
  ok w = Ok w

  -- the words so far, and one draw more
  one_more : (draw : Result (List ℕ) Failed) → Draws gives count mid draw after → GivesInTurn (Draws gives count) before (map ok words ++ draw ∷ []) after
  one_more draw one =
      gives_more (Draws gives count) before mid after (map ok words) draw
      (subst (λ (ws : List (Result (List ℕ) Failed)). GivesInTurn (Draws gives count) before ws mid) (append-nil (map ok words)) given) one

  -- one more word
  pub word_drawn : (more : List (List ℕ)) (word : List ℕ) → more ≡ words ++ word ∷ [] → Draws gives count mid (Ok word) after
      → GivesInTurn (Draws gives count) before (draws_by more true) after
  word_drawn more word pushed one =
      subst (λ (ws : List (Result (List ℕ) Failed)). GivesInTurn (Draws gives count) before ws after)
      (sym (append-nil (map ok more) ∙ (ap (map ok) pushed ∙ map_push ok words word))) (one_more (Ok word) one)

  -- a draw that failed
  pub draw_failed : (fault : Failed) → Draws gives count mid (Err fault) after → GivesInTurn (Draws gives count) before (draws_by words false) after
  draw_failed fault one = one_more (Err fault) one
