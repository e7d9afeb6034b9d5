-- Lists that grow, and the items of a seat.
use Rattle.std.proofs.Common.{◌≡◌, ◌≢◌, ℕ, ◌≤◌, nat_eq, List, [], ◌∷◌, ◌++◌, length, sym, refl, ap, ◌∙◌, arith, Bool, true, false, append-nil, append_assoc, ne_eqb, eq-eqb, cond, length-append, Option, Some, None}
use Rattle.std.proofs.lemmas.List.Elements.{filter-append}
use Rattle.zone_locks.specs.Growing.{StartsWith, own, own_of, AreOf, GrownBy, after_front}

pub left_nil : {A : Type 0} (xs ys : List A) → xs ++ ys ≡ [] → xs ≡ []
left_nil [] ys e = refl
left_nil (x ∷ xs) ys e = absurd (cc)

pub begins_itself : {A : Type 0} (xs : List A) → StartsWith xs xs
begins_itself xs = ([], sym (append-nil xs))

pub begins_more : {A : Type 0} (xs ys zs : List A) → StartsWith ys xs → StartsWith (ys ++ zs) xs
begins_more xs ys zs f = (f.0 ++ zs, ap (λ l. l ++ zs) f.1 ∙ append_assoc xs f.0 zs)

abbrev tail_of : {A : Type 0} → List A → List A
tail_of [] = []
tail_of (x ∷ xs) = xs

tail_same : {A : Type 0} {x y : A} {xs ys : List A} → x ∷ xs ≡ y ∷ ys → xs ≡ ys
tail_same e = ap tail_of e

abbrev head_or : {A : Type 0} → A → List A → A
head_or d [] = d
head_or d (x ∷ xs) = x

head_same : {A : Type 0} {x y : A} {xs ys : List A} → x ∷ xs ≡ y ∷ ys → x ≡ y
head_same {x = x} e = ap (head_or x) e

-- what a list has after its front
pub after_is : {A : Type 0} (front more : List A) → after_front front (front ++ more) ≡ more
after_is [] more = refl
after_is (x ∷ xs) more = after_is xs more

-- a front that is no shorter is the whole
pub front_whole : {A : Type 0} (log front : List A) → StartsWith log front → length log ≤ length front → front ≡ log
front_whole {A = A} log front f le = sym (f.1 ∙ (ap (λ l. front ++ l) (empty f.0 (omega (arith, ap length f.1, length-append front f.0, le))) ∙ append-nil front))
  where
    empty : (xs : List A) → length xs ≡ 0 → xs ≡ []
    empty [] e = refl
    empty (x ∷ xs) e = absurd (omega arith)

-- of two beginnings of one list one is a beginning of the other
pub begin_alike : {A : Type 0} (log xs ys more more' : List A) → log ≡ xs ++ more → log ≡ ys ++ more' → length xs ≤ length ys → StartsWith ys xs
begin_alike log [] ys more more' a b le = (ys, refl)
begin_alike log (x ∷ xs) [] more more' a b le = absurd (omega arith)
begin_alike [] (x ∷ xs) (y ∷ ys) more more' a b le = absurd (cc)
begin_alike (z ∷ log) (x ∷ xs) (y ∷ ys) more more' a b le =
    let t = begin_alike log xs ys more more' (tail_same a) (tail_same b) (omega arith) in
    (t.0, λ i. (head_same (sym b ∙ a)) i ∷ t.1 i)

module _ {I : Type 0} (seat_of : I → ℕ) where
  pub own-append : (n : ℕ) (xs ys : List I) → own seat_of n (xs ++ ys) ≡ own seat_of n xs ++ own seat_of n ys
  own-append n xs ys = filter-append (λ (x : I). nat_eq (seat_of x) n) xs ys

  pub own_front : (n : ℕ) (log xs : List I) → StartsWith log xs → own seat_of n log ≡ [] → own seat_of n xs ≡ []
  own_front n log xs f e = left_nil (own seat_of n xs) (own seat_of n f.0) (sym (own-append n xs f.0) ∙ (ap (own seat_of n) (sym f.1) ∙ e))

  pub own_others : (k : ℕ) (added : List I) → AreOf seat_of k added → (j : ℕ) → j ≢ k → own seat_of j added ≡ []
  own_others k [] all j ne = refl
  own_others k (x ∷ xs) all j ne =
      let no_head : nat_eq (seat_of x) j ≡ false = ne_eqb (seat_of x) j (λ e. ne (sym e ∙ all.0)) in
      ap (λ b. cond b (x ∷ own seat_of j xs) (own seat_of j xs)) no_head ∙ own_others k xs all.1 j ne

  -- the items of a seat that has added nothing
  pub own_of_same : (log log' : List I) (seat : Option ℕ) → ((k : ℕ) → seat ≡ Some k → own seat_of k log' ≡ own seat_of k log) → own_of seat_of seat log' ≡ own_of seat_of seat log
  own_of_same log log' None f = refl
  own_of_same log log' (Some k) f = f k refl

  pub own_all : (k : ℕ) (added : List I) → AreOf seat_of k added → own seat_of k added ≡ added
  own_all k [] all = refl
  own_all k (x ∷ xs) all = ap (λ b. cond b (x ∷ own seat_of k xs) (own seat_of k xs)) (eq-eqb (seat_of x) k all.0) ∙ ap (λ l. x ∷ l) (own_all k xs all.1)

  pub own-le : (k : ℕ) (xs : List I) → length (own seat_of k xs) ≤ length xs
  own-le k [] = omega arith
  own-le k (x ∷ xs) = by_head (own-le k xs) (nat_eq (seat_of x) k)
    where
      by_head : length (own seat_of k xs) ≤ length xs → (b : Bool) → length (cond b (x ∷ own seat_of k xs) (own seat_of k xs)) ≤ length (x ∷ xs)
      by_head h true = omega (arith, h)
      by_head h false = omega (arith, h)

  -- a list grows by nothing, or by one item of the seat
  pub grown_by_none : (seat : ℕ) (items : List I) → GrownBy seat_of seat items items
  grown_by_none seat items = ([], sym (append-nil items), tt)

  pub grown_by_one : (seat : ℕ) (item : I) (items : List I) → seat_of item ≡ seat → GrownBy seat_of seat items (items ++ item ∷ [])
  grown_by_one seat item items is = (item ∷ [], refl, (is, tt))
