-- What was given for requests, one after another.
use Rattle.std.proofs.Common.{◌≡◌, ℕ, List, [], ◌∷◌, ◌++◌, map, refl, sym, ap, subst, ◌∙◌, append_assoc, Result}
use Rattle.ck_devices.specs.declared.faults.Failed.{Failed}
use Rattle.ck_devices.specs.Runs.{GivesInTurn}
use Rattle.talk_model.specs.Given.{Given, draws_by, draws_of, GaveFor}

gives_on : {D A : Type 0} (gives : D → A → D → Type 0) (a b c : D) (xs ys : List A) → GivesInTurn gives a xs b → GivesInTurn gives b ys c → GivesInTurn gives a (xs ++ ys) c
gives_on gives a b c [] ys p q = subst (λ d. GivesInTurn gives d ys c) p q
gives_on gives a b c (x ∷ xs) ys p q = (p.0, p.1, gives_on gives p.0 b c xs ys p.2 q)

moments_on : (xs ys : List Given) → map (λ (g : Given). g.moment) (xs ++ ys) ≡ map (λ (g : Given). g.moment) xs ++ map (λ (g : Given). g.moment) ys
moments_on [] ys = refl
moments_on (x ∷ xs) ys = ap (λ l. x.moment ∷ l) (moments_on xs ys)

draws_on : (xs ys : List Given) → draws_of (xs ++ ys) ≡ draws_of xs ++ draws_of ys
draws_on [] ys = refl
draws_on (x ∷ xs) ys = ap (λ l. draws_by x.words x.drawn ++ l) (draws_on xs ys) ∙ sym (append_assoc (draws_by x.words x.drawn) (draws_of xs) (draws_of ys))

-- for some, and then for others
pub gave_on : {C R : Type 0} (clock : C → ℕ → C → Type 0) (draws : R → Result (List ℕ) Failed → R → Type 0) (a b c : C) (r s t : R) (xs ys : List Given) → GaveFor clock draws a b r s xs → GaveFor clock draws b c s t ys
    → GaveFor clock draws a c r t (xs ++ ys)
gave_on clock draws a b c r s t xs ys p q = record {
  moments = subst (λ l. GivesInTurn clock a l c) (sym (moments_on xs ys)) (gives_on clock a b c _ _ p.moments q.moments);
  words = subst (λ l. GivesInTurn draws r l t) (sym (draws_on xs ys)) (gives_on draws r s t _ _ p.words q.words);
}
