-- Change tags as texts, by their last digits.
use Rattle.std.proofs.Common.{◌≡◌, ℕ, List, [], ◌∷◌, ◌++◌, Bool, true, false, ◌&&◌, ◌≤◌, ◌<◌, ◌+◌, ◌/◌, ◌%◌, ◌^◌, nat_eq, refl, ap, ◌∙◌, arith, length}
use Rattle.std.specs.Fmt.{decimal}
use Rattle.std.proofs.lemmas.Fmt.{decimal_digit, decimal_step, decimal_nonempty}
use Rattle.zone_model.specs.Names.{same}

and_turned : (a b c : Bool) → (a && (b && c)) ≡ (b && (a && c))
and_turned true b c = refl
and_turned false true c = refl
and_turned false false c = refl

and_nothing : (a b : Bool) → (a && false) ≡ (b && false)
and_nothing true true = refl
and_nothing true false = refl
and_nothing false true = refl
and_nothing false false = refl

ends_first : (bs : List ℕ) (y : ℕ) → same [] (bs ++ y ∷ []) ≡ false
ends_first [] y = refl
ends_first (b ∷ bs) y = refl

ends_last : (fs : List ℕ) (x : ℕ) → same (fs ++ x ∷ []) [] ≡ false
ends_last [] x = refl
ends_last (a ∷ fs) x = refl

pub same_last : (front ds : List ℕ) (x y : ℕ) → same (front ++ x ∷ []) (ds ++ y ∷ []) ≡ (nat_eq x y && same front ds)
same_last [] [] x y = refl
same_last [] (d ∷ ds) x y = ap (λ b. nat_eq x d && b) (ends_first ds y) ∙ and_nothing (nat_eq x d) (nat_eq x y)
same_last (a ∷ fs) [] x y = ap (λ b. nat_eq a y && b) (ends_last fs x) ∙ and_nothing (nat_eq a y) (nat_eq x y)
same_last (a ∷ fs) (d ∷ ds) x y = ap (λ b. nat_eq a d && b) (same_last fs ds x y) ∙ and_turned (nat_eq a d) (nat_eq x y) (same fs ds)

pub one_digit : (front : List ℕ) (x n : ℕ) → n < 10 → same (front ++ x ∷ []) (decimal n) ≡ (nat_eq x (48 + n) && same front [])
one_digit front x n few = ap (same (front ++ x ∷ [])) (decimal_digit n few) ∙ same_last front [] x (48 + n)

pub more_digits : (front : List ℕ) (x n : ℕ) → 10 ≤ n → n < 2 ^ 64 → same (front ++ x ∷ []) (decimal n) ≡ (nat_eq x (48 + n % 10) && same front (decimal (n / 10)))
more_digits front x n many small = ap (same (front ++ x ∷ [])) (decimal_step n many small) ∙ same_last front (decimal (n / 10)) x (48 + n % 10)

some_digit : (ds : List ℕ) → 0 < length ds → same [] ds ≡ false
some_digit [] some = absurd (omega (arith, some))
some_digit (d ∷ ds) some = refl

pub no_digits : (n : ℕ) → n < 2 ^ 64 → same [] (decimal n) ≡ false
no_digits n small = some_digit (decimal n) (decimal_nonempty n small)

-- ---- a text by its last digit

pub one_is : (text front : List ℕ) (x n : ℕ) → text ≡ front ++ x ∷ [] → n < 10 → same text (decimal n) ≡ (nat_eq x (48 + n) && same front [])
one_is text front x n is few = ap (λ t. same t (decimal n)) is ∙ one_digit front x n few

pub more_are : (text front : List ℕ) (x n : ℕ) → text ≡ front ++ x ∷ [] → 10 ≤ n → n < 2 ^ 64 → same text (decimal n) ≡ (nat_eq x (48 + n % 10) && same front (decimal (n / 10)))
more_are text front x n is many small = ap (λ t. same t (decimal n)) is ∙ more_digits front x n many small

pub none_is : (text : List ℕ) (n : ℕ) → length text ≡ 0 → n < 2 ^ 64 → same text (decimal n) ≡ false
none_is [] n none small = no_digits n small
none_is (t ∷ text) n none small = absurd (omega (arith, none))
