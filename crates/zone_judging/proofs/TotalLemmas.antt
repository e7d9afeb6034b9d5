-- Totals over the fields of a record after a put: sums, and whether some field passes a test.
use Rattle.std.proofs.Common.{◌≡◌, ℕ, List, [], ◌∷◌, ◌++◌, Bool, true, false, cond, not, ◌||◌, ◌+◌, arith, refl, sym, ap, ◌∙◌, Some, None, Option, ⊎_elim, map}
use Rattle.std.specs.Prelude.{filter, fold, if◌then◌else◌}
use Rattle.std.specs.List.{list_any, list_all, sum_by}
use Rattle.std.specs.Option.{option_map_or}
use Rattle.std.proofs.lemmas.Bool.{both_ways, and_parts}
use Rattle.ck_base.specs.Order.{is_before}
use Rattle.record_model.specs.declared.value.Value.{Value}
use Rattle.zone_model.specs.Names.{same}
use Rattle.zone_model.specs.Putting.{after_wish, after_wishes}
use Rattle.name_rules.proofs.NameLemmas.{three_ways, before-asym}
use Rattle.zone_laws.proofs.RecordLaws.{same-comm, before_differs}
use Rattle.zone_judging.specs.Wishes.{AreInOrder, is_wished}

abbrev Field : Type 0
Field = List ℕ × Value

abbrev Wish : Type 0
Wish = List ℕ × Option Value

-- the name of a wish is none of those behind it
pub unwished : (w : Wish) (ws : List Wish) → list_all (is_before w.0) (map (λ (v : Wish). v.0) ws) ≡ true → is_wished ws w.0 ≡ false
unwished w [] ahead = refl
unwished w (v ∷ ws) ahead =
    let parts = and_parts (is_before w.0 v.0) _ ahead in
    ap (λ b. b || is_wished ws w.0) (before_differs w.0 v.0 parts.0) ∙ unwished w ws parts.1

-- what is added up: in any order, and nothing changes no total
pub record Adds (R : Type 0) : Type 0 where
  pub nothing : R
  pub plus : R → R → R
  pub left : (a : R) → plus nothing a ≡ a
  pub right : (a : R) → plus a nothing ≡ a
  pub assoc : (a b c : R) → plus (plus a b) c ≡ plus a (plus b c)
  pub comm : (a b : R) → plus a b ≡ plus b a

module _ {R : Type 0} (m : Adds R) where
  abbrev pub total : {X : Type 0} → (X → R) → List X → R
  total f [] = m.nothing
  total f (x ∷ xs) = m.plus (f x) (total f xs)

  abbrev pub kept : List Wish → (Field → R) → Field → R
  kept ws f g = if is_wished ws g.0 then m.nothing else f g

  abbrev pub given : (Field → R) → Wish → R
  given f w = option_map_or (λ v. f (w.0, v)) w.1 m.nothing

  joined : {X : Type 0} (f : X → R) (xs ys : List X) → total f (xs ++ ys) ≡ m.plus (total f xs) (total f ys)
  joined f [] ys = sym (m.left (total f ys))
  joined f (x ∷ xs) ys = ap (m.plus (f x)) (joined f xs ys) ∙ sym (m.assoc (f x) (total f xs) (total f ys))

  alike : {X : Type 0} (f h : X → R) → ((x : X) → f x ≡ h x) → (xs : List X) → total f xs ≡ total h xs
  alike f h same_at [] = refl
  alike f h same_at (x ∷ xs) = ap (λ a. m.plus a (total f xs)) (same_at x) ∙ ap (m.plus (h x)) (alike f h same_at xs)

  -- the first of two goes behind
  turned : (a b c : R) → m.plus a (m.plus b c) ≡ m.plus b (m.plus a c)
  turned a b c = sym (m.assoc a b c) ∙ ap (λ d. m.plus d c) (m.comm a b) ∙ m.assoc b a c

  without_step : (s : Bool) (f : Field → R) (g : Field) (some : List Field) (rest : R) → total f some ≡ rest → total f (cond (not s) (g ∷ some) some) ≡ m.plus (if s then m.nothing else f g) rest
  without_step true f g some rest is = is ∙ sym (m.left rest)
  without_step false f g some rest is = ap (m.plus (f g)) is

  -- without a field of that name
  without_name : (x : List ℕ) (f : Field → R) (fs : List Field) → total f (filter (λ (g : Field). not (same x g.0)) fs) ≡ total (λ (g : Field). if same x g.0 then m.nothing else f g) fs
  without_name x f [] = refl
  without_name x f (g ∷ fs) = without_step (same x g.0) f g (filter (λ (h : Field). not (same x h.0)) fs) _ (without_name x f fs)

  ahead_step : (b a s : Bool) (f : Field → R) (g : Field) (front back : List Field) (rest : R) → b ≡ true → a ≡ false → s ≡ false → m.plus (total f front) (total f back) ≡ rest
      → m.plus (total f (cond b (g ∷ front) front)) (total f (cond a (g ∷ back) back)) ≡ m.plus (if s then m.nothing else f g) rest
  ahead_step true false false f g front back rest eb ea es is = m.assoc (f g) (total f front) (total f back) ∙ ap (m.plus (f g)) is
  ahead_step false a s f g front back rest eb ea es is = absurd (both_ways false refl eb)
  ahead_step b true s f g front back rest eb ea es is = absurd (both_ways true ea refl)
  ahead_step b a true f g front back rest eb ea es is = absurd (both_ways true es refl)

  behind_step : (b a s : Bool) (f : Field → R) (g : Field) (front back : List Field) (rest : R) → b ≡ false → a ≡ true → s ≡ false → m.plus (total f front) (total f back) ≡ rest
      → m.plus (total f (cond b (g ∷ front) front)) (total f (cond a (g ∷ back) back)) ≡ m.plus (if s then m.nothing else f g) rest
  behind_step false true false f g front back rest eb ea es is = turned (total f front) (f g) (total f back) ∙ ap (m.plus (f g)) is
  behind_step true a s f g front back rest eb ea es is = absurd (both_ways true eb refl)
  behind_step b false s f g front back rest eb ea es is = absurd (both_ways false refl ea)
  behind_step b a true f g front back rest eb ea es is = absurd (both_ways true es refl)

  there_step : (b a s : Bool) (f : Field → R) (g : Field) (front back : List Field) (rest : R) → b ≡ false → a ≡ false → s ≡ true → m.plus (total f front) (total f back) ≡ rest
      → m.plus (total f (cond b (g ∷ front) front)) (total f (cond a (g ∷ back) back)) ≡ m.plus (if s then m.nothing else f g) rest
  there_step false false true f g front back rest eb ea es is = is ∙ sym (m.left rest)
  there_step true a s f g front back rest eb ea es is = absurd (both_ways true eb refl)
  there_step b true s f g front back rest eb ea es is = absurd (both_ways true ea refl)
  there_step b a false f g front back rest eb ea es is = absurd (both_ways false refl es)

  -- the fields before a name and those behind it
  sides : (x : List ℕ) (f : Field → R) (fs : List Field)
      → m.plus (total f (filter (λ (g : Field). is_before g.0 x) fs)) (total f (filter (λ (g : Field). is_before x g.0) fs)) ≡ total (λ (g : Field). if same x g.0 then m.nothing else f g) fs
  sides x f [] = m.left m.nothing
  sides x f (g ∷ fs) =
      let front = filter (λ (h : Field). is_before h.0 x) fs in
      let back = filter (λ (h : Field). is_before x h.0) fs in
      let rest = total (λ (h : Field). if same x h.0 then m.nothing else f h) fs in
      ⊎_elim
      (λ (e : is_before x g.0 ≡ true). behind_step (is_before g.0 x) (is_before x g.0) (same x g.0) f g front back rest (before-asym x g.0 e) e (before_differs x g.0 e) (sides x f fs))
      (⊎_elim
      (λ (e : same x g.0 ≡ true). there_step (is_before g.0 x) (is_before x g.0) (same x g.0) f g front back rest (not_before g.0 x (same-comm g.0 x ∙ e)) (not_before x g.0 e) e (sides x f fs))
      (λ (e : is_before g.0 x ≡ true). ahead_step (is_before g.0 x) (is_before x g.0) (same x g.0) f g front back rest e (before-asym g.0 x e) (same-comm x g.0 ∙ before_differs g.0 x e) (sides x f fs)))
      (three_ways x g.0)
    where
      no_step : (b : Bool) (y z : List ℕ) → is_before y z ≡ b → same y z ≡ true → b ≡ false
      no_step true y z is e = absurd (both_ways (same y z) (before_differs y z is) e)
      no_step false y z is e = refl

      not_before : (y z : List ℕ) → same y z ≡ true → is_before y z ≡ false
      not_before y z e = no_step (is_before y z) y z refl e

  -- one wish
  wish_by : (o : Option Value) (x : List ℕ) (f : Field → R) (fs : List Field) → total f (after_wish fs (x, o)) ≡ m.plus (total (λ (g : Field). if same x g.0 then m.nothing else f g) fs) (given f (x, o))
  wish_by None x f fs = without_name x f fs ∙ sym (m.right _)
  wish_by (Some v) x f fs =
      let front = filter (λ (g : Field). is_before g.0 x) fs in
      let back = filter (λ (g : Field). is_before x g.0) fs in
      joined f front ((x, v) ∷ back)
      ∙ turned (total f front) (f (x, v)) (total f back)
      ∙ m.comm (f (x, v)) (m.plus (total f front) (total f back))
      ∙ ap (λ t. m.plus t (f (x, v))) (sides x f fs)

  both_kept : (a b : Bool) (t : R) → (if a then m.nothing else (if b then m.nothing else t)) ≡ (if a || b then m.nothing else t)
  both_kept true b t = refl
  both_kept false b t = refl

  flipped : (x : List ℕ) (w : Wish) (ws : List Wish) (f : Field → R) (g : Field)
      → (if same w.0 g.0 then m.nothing else kept ws f g) ≡ kept (w ∷ ws) f g
  flipped x w ws f g = both_kept (same w.0 g.0) (is_wished ws g.0) (f g) ∙ ap (λ b. if b || is_wished ws g.0 then m.nothing else f g) (same-comm w.0 g.0)

  given_by : (o : Option Value) (x : List ℕ) (ws : List Wish) (f : Field → R) → is_wished ws x ≡ false → given (kept ws f) (x, o) ≡ given f (x, o)
  given_by None x ws f out = refl
  given_by (Some v) x ws f out = ap (λ b. if b then m.nothing else f (x, v)) out

  -- all wishes: what stays of the fields, and what is given
  pub after_all : (ws : List Wish) (f : Field → R) (fs : List Field) → AreInOrder ws → total f (after_wishes fs ws) ≡ m.plus (total (kept ws f) fs) (total (given f) ws)
  after_all [] f fs ordered = sym (m.right (total f fs))
  after_all (w ∷ ws) f fs ordered =
      let parts = and_parts (list_all (is_before w.0) (map (λ (v : Wish). v.0) ws)) _ ordered in
      after_all ws f (after_wish fs w) parts.1
      ∙ ap (λ t. m.plus t (total (given f) ws)) (wish_by w.1 w.0 (kept ws f) fs
      ∙ ap (λ t. m.plus t (given (kept ws f) w)) (alike _ (kept (w ∷ ws) f) (λ g. flipped w.0 w ws f g) fs)
      ∙ ap (m.plus (total (kept (w ∷ ws) f) fs)) (given_by w.1 w.0 ws f (unwished w ws parts.0)))
      ∙ m.assoc (total (kept (w ∷ ws) f) fs) (given f w) (total (given f) ws)

-- ---- whether some field passes

pub any_right : (a : Bool) → (a || false) ≡ a
any_right true = refl
any_right false = refl

pub any_assoc : (a b c : Bool) → ((a || b) || c) ≡ (a || (b || c))
any_assoc true b c = refl
any_assoc false b c = refl

pub any_comm : (a b : Bool) → (a || b) ≡ (b || a)
any_comm true true = refl
any_comm true false = refl
any_comm false true = refl
any_comm false false = refl

abbrev pub anywhere : Adds Bool
anywhere = record { nothing = false; plus = λ a b. a || b; left = λ a. refl; right = any_right; assoc = any_assoc; comm = any_comm }

any_total : {X : Type 0} (p : X → Bool) (xs : List X) → list_any p xs ≡ total anywhere p xs
any_total p [] = refl
any_total p (x ∷ xs) = ap (λ b. p x || b) (any_total p xs)

pub any_after : (ws : List Wish) (p : Field → Bool) (fs : List Field) → AreInOrder ws → list_any p (after_wishes fs ws) ≡ (list_any (kept anywhere ws p) fs || list_any (given anywhere p) ws)
any_after ws p fs ordered = any_total p (after_wishes fs ws) ∙ after_all anywhere ws p fs ordered
    ∙ ap (λ b. b || total anywhere (given anywhere p) ws) (sym (any_total (kept anywhere ws p) fs))
    ∙ ap (λ b. list_any (kept anywhere ws p) fs || b) (sym (any_total (given anywhere p) ws))

-- ---- sums

pub sum_comm : (a b : ℕ) → a + b ≡ b + a
sum_comm a b = omega arith

pub sum_assoc : (a b c : ℕ) → (a + b) + c ≡ a + (b + c)
sum_assoc a b c = omega arith

pub sum_left : (a : ℕ) → 0 + a ≡ a
sum_left a = omega arith

pub sum_right : (a : ℕ) → a + 0 ≡ a
sum_right a = omega arith

abbrev pub summed : Adds ℕ
summed = record { nothing = 0; plus = λ a b. a + b; left = sum_left; right = sum_right; assoc = sum_assoc; comm = sum_comm }

sum_from : {X : Type 0} (f : X → ℕ) (n : ℕ) (xs : List X) → fold (λ a x. a + f x) n xs ≡ n + total summed f xs
sum_from f n [] = sym (sum_right n)
sum_from f n (x ∷ xs) = sum_from f (n + f x) xs ∙ sum_assoc n (f x) (total summed f xs)

sum_total : {X : Type 0} (f : X → ℕ) (xs : List X) → sum_by f xs ≡ total summed f xs
sum_total f xs = sum_from f 0 xs ∙ sum_left (total summed f xs)

pub sum_after : (ws : List Wish) (f : Field → ℕ) (fs : List Field) → AreInOrder ws → sum_by f (after_wishes fs ws) ≡ sum_by (kept summed ws f) fs + sum_by (given summed f) ws
sum_after ws f fs ordered = sum_total f (after_wishes fs ws) ∙ after_all summed ws f fs ordered
    ∙ ap (λ n. n + total summed (given summed f) ws) (sym (sum_total (kept summed ws f) fs))
    ∙ ap (λ n. sum_by (kept summed ws f) fs + n) (sym (sum_total (given summed f) ws))
