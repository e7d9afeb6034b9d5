-- References in lists of values.
use Rattle.std.proofs.Common.{◌≡◌, ℕ, List, [], ◌∷◌, ◌++◌, Bool, true, false, ◌||◌, refl, sym, ap, ◌∙◌, Some, None, Option}
use Rattle.std.specs.Prelude.{flat_map}
use Rattle.std.specs.Option.{option_map_or}
use Rattle.std.specs.List.{list_any}
use Rattle.name_rules.specs.Options.{is_some_and}
use Rattle.record_model.specs.declared.value.RefTo.{RefTo}
use Rattle.record_model.specs.declared.value.Value.{Value, out-Value}
use Rattle.zone_model.specs.References.{single_references, references_in}
use Rattle.zone_model.specs.Putting.{after_wishes}
use Rattle.zone_judging.specs.Wishes.{AreInOrder, is_kept_and}
use Rattle.zone_judging.specs.Holding.{refers}
use Rattle.zone_judging.proofs.TotalLemmas.{given, anywhere, any_after}

or_joined : (a b c : Bool) → (a || (b || c)) ≡ ((a || b) || c)
or_joined true b c = refl
or_joined false b c = refl

any_joined : (test : RefTo → Bool) (xs ys : List RefTo) → list_any test (xs ++ ys) ≡ (list_any test xs || list_any test ys)
any_joined test [] ys = refl
any_joined test (x ∷ xs) ys = ap (λ b. test x || b) (any_joined test xs ys) ∙ or_joined (test x) (list_any test xs) (list_any test ys)

pub any_flat : (test : RefTo → Bool) (values : List Value) → list_any test (flat_map (λ v. single_references (out-Value v)) values) ≡ list_any (λ v. list_any test (single_references (out-Value v))) values
any_flat test [] = refl
any_flat test (v ∷ values) = any_joined test (single_references (out-Value v)) (flat_map (λ w. single_references (out-Value w)) values)
    ∙ ap (λ b. list_any test (single_references (out-Value v)) || b) (any_flat test values)

-- ---- after wishes

given_alike : (test : RefTo → Bool) (o : Option Value) → is_some_and (λ v. list_any test (references_in v)) o ≡ option_map_or (λ v. list_any test (references_in v)) o false
given_alike test None = refl
given_alike test (Some v) = refl

all_given : (test : RefTo → Bool) (ws : List (List ℕ × Option Value)) → list_any (λ (wish : List ℕ × Option Value). is_some_and (λ v. list_any test (references_in v)) wish.1) ws ≡ list_any (given anywhere (refers test)) ws
all_given test [] = refl
all_given test (w ∷ ws) = ap (λ b. b || list_any (λ (wish : List ℕ × Option Value). is_some_and (λ v. list_any test (references_in v)) wish.1) ws) (given_alike test w.1)
    ∙ ap (λ b. given anywhere (refers test) w || b) (all_given test ws)

-- some reference passes after wishes: in a field that stays, or in one that is given
pub any_after_wishes : (test : RefTo → Bool) (fs : List (List ℕ × Value)) (ws : List (List ℕ × Option Value)) → AreInOrder ws
    → list_any (refers test) (after_wishes fs ws) ≡ (list_any (is_kept_and ws (refers test)) fs || list_any (λ (wish : List ℕ × Option Value). is_some_and (λ v. list_any test (references_in v)) wish.1) ws)
any_after_wishes test fs ws ordered = any_after ws (refers test) fs ordered ∙ ap (λ b. list_any (is_kept_and ws (refers test)) fs || b) (sym (all_given test ws))
