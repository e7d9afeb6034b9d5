-- Records that are met one after another, in ascending order of names.
use Rattle.std.proofs.Common.{◌≡◌, ℕ, ◌<◌, List, [], ◌∷◌, ◌++◌, Bool, true, false, cond, ◌&&◌, ◌||◌, refl, sym, ap, ◌∙◌, subst, arith, Some, None, Option, length}
use Rattle.std.specs.Prelude.{filter, find}
use Rattle.std.specs.Option.{option_map_or}
use Rattle.std.specs.List.{list_any, list_all}
use Rattle.std.proofs.lemmas.Bool.{both_ways, and_parts}
use Rattle.ck_base.specs.Order.{is_before}
use Rattle.record_model.specs.declared.records.Record.{Record}
use Rattle.name_rules.proofs.NameLemmas.{before-trans, before-asym, before-irrefl}
use Rattle.zone_model.specs.Records.{names_in, IsAscending}
use Rattle.zone_judging.specs.declared.ties.Tie.{Tie}
use Rattle.zone_judging.specs.Ties.{is_tied, is_behind, next_tied}

-- those that stand above the name, or all
abbrev pub behind : Option (List ℕ) → List Record → List Record
behind after rows = filter (is_behind after) rows

abbrev found : (Record → Bool) → List Record → Option (List ℕ) → Option Record
found p rows after = find (λ (r : Record). is_behind after r && p r) rows

no_record : (r : Record) → None ≡ Some r → ⊥
no_record r e = both_ways false refl (ap (λ (o : Option Record). option_map_or (λ _. true) o false) e)

same_record : (q r : Record) → Some q ≡ Some r → q ≡ r
same_record q r e = ap (λ (o : Option Record). option_map_or (λ t. t) o q) e

kept_step : (b : Bool) (q : Record) (some rows : List Record) → b ≡ true → some ≡ rows → cond b (q ∷ some) some ≡ q ∷ rows
kept_step true q some rows e is = ap (λ (rs : List Record). q ∷ rs) is
kept_step false q some rows e is = absurd (both_ways false refl e)

dropped_step : (b : Bool) (q : Record) (some : List Record) → b ≡ false → cond b (q ∷ some) some ≡ some
dropped_step false q some e = refl
dropped_step true q some e = absurd (both_ways true e refl)

-- all stand above a name below which none does
all_behind : (y : List ℕ) (rows : List Record) → list_all (is_before y) (names_in rows) ≡ true → behind (Some y) rows ≡ rows
all_behind y [] e = refl
all_behind y (q ∷ rows) e = let parts = and_parts (is_before y q.name) _ e in kept_step (is_before y q.name) q (behind (Some y) rows) rows parts.0 (all_behind y rows parts.1)

-- and above what that one stands above
behind_by : (after : Option (List ℕ)) (y q : Record) → is_behind after y ≡ true → is_before y.name q.name ≡ true → is_behind after q ≡ true
behind_by None y q e f = refl
behind_by (Some x) y q e f = before-trans x y.name q.name e f

behind_all : (after : Option (List ℕ)) (y : Record) (rows : List Record) → is_behind after y ≡ true → list_all (is_before y.name) (names_in rows) ≡ true → behind after rows ≡ rows
behind_all after y [] e all = refl
behind_all after y (q ∷ rows) e all =
    let parts = and_parts (is_before y.name q.name) _ all in
    kept_step (is_behind after q) q (behind after rows) rows (behind_by after y q e parts.0) (behind_all after y rows e parts.1)

above_step : (b : Bool) (y : List ℕ) (q r : Record) (o : Option Record) → is_before y q.name ≡ true → (o ≡ Some r → is_before y r.name ≡ true) → cond b (Some q) o ≡ Some r → is_before y r.name ≡ true
above_step true y q r o one more e = subst (λ (t : Record). is_before y t.name ≡ true) (same_record q r e) one
above_step false y q r o one more e = more e

found_above : (p : Record → Bool) (y : List ℕ) (rows : List Record) (r : Record) → list_all (is_before y) (names_in rows) ≡ true → find p rows ≡ Some r → is_before y r.name ≡ true
found_above p y [] r all e = absurd (no_record r e)
found_above p y (q ∷ rows) r all e = let parts = and_parts (is_before y q.name) _ all in above_step (p q) y q r (find p rows) parts.0 (found_above p y rows r parts.1) e

-- The next one that passes: before it none does, and behind it stand those above its name.
pub record IsNext (p : Record → Bool) (rows : List Record) (after : Option (List ℕ)) (r : Record) : Type 0 where
  pub front : List Record
  pub is : behind after rows ≡ front ++ r ∷ behind (Some r.name) rows
  pub free : list_any p front ≡ false
  pub passes : p r ≡ true

next_step : (b t : Bool) (p : Record → Bool) (q r : Record) (rows : List Record) (after : Option (List ℕ)) → is_behind after q ≡ b → p q ≡ t → list_all (is_before q.name) (names_in rows) ≡ true
    → (found p rows after ≡ Some r → IsNext p rows after r) → found p rows after ≡ Some r → (b && t) ≡ false → IsNext p (q ∷ rows) after r
next_step true true p q r rows after is passes all more e off = absurd (both_ways true off refl)
next_step true false p q r rows after is passes all more e off =
    let rest = more e in
    let above : is_before r.name q.name ≡ false = before-asym q.name r.name (found_above (λ (t : Record). is_behind after t && p t) q.name rows r all e) in
    record {
      front = q ∷ rest.front;
      is = kept_step (is_behind after q) q (behind after rows) (rest.front ++ r ∷ behind (Some r.name) rows) is rest.is
          ∙ ap (λ (rs : List Record). (q ∷ rest.front) ++ r ∷ rs) (sym (dropped_step (is_before r.name q.name) q (behind (Some r.name) rows) above));
      free = ap (λ b. b || list_any p rest.front) passes ∙ rest.free;
      passes = rest.passes;
    }
next_step false t p q r rows after is passes all more e off =
    let rest = more e in
    let above : is_before r.name q.name ≡ false = before-asym q.name r.name (found_above (λ (t : Record). is_behind after t && p t) q.name rows r all e) in
    record {
      front = rest.front;
      is = dropped_step (is_behind after q) q (behind after rows) is ∙ rest.is
          ∙ ap (λ (rs : List Record). rest.front ++ r ∷ rs) (sym (dropped_step (is_before r.name q.name) q (behind (Some r.name) rows) above));
      free = rest.free;
      passes = rest.passes;
    }

next_here : (p : Record → Bool) (q : Record) (rows : List Record) (after : Option (List ℕ)) → list_all (is_before q.name) (names_in rows) ≡ true → (is_behind after q ≡ true) × (p q ≡ true) → IsNext p (q ∷ rows) after q
next_here p q rows after all both = record {
  front = [];
  is = kept_step (is_behind after q) q (behind after rows) rows both.0 (behind_all after q rows both.0 all)
      ∙ ap (λ (rs : List Record). q ∷ rs) (sym (dropped_step (is_before q.name q.name) q (behind (Some q.name) rows) (before-irrefl q.name) ∙ all_behind q.name rows all));
  free = refl;
  passes = both.1;
}

next_by : (b : Bool) (p : Record → Bool) (q r : Record) (rows : List Record) (after : Option (List ℕ)) → (is_behind after q && p q) ≡ b → list_all (is_before q.name) (names_in rows) ≡ true
    → (found p rows after ≡ Some r → IsNext p rows after r) → cond b (Some q) (found p rows after) ≡ Some r → IsNext p (q ∷ rows) after r
next_by true p q r rows after is all more e = subst (IsNext p (q ∷ rows) after) (same_record q r e) (next_here p q rows after all (and_parts (is_behind after q) (p q) is))
next_by false p q r rows after is all more e = next_step (is_behind after q) (p q) p q r rows after refl refl all more e is

next_found : (p : Record → Bool) (rows : List Record) (after : Option (List ℕ)) (r : Record) → IsAscending rows → found p rows after ≡ Some r → IsNext p rows after r
next_found p [] after r up e = absurd (no_record r e)
next_found p (q ∷ rows) after r up e =
    let parts = and_parts (list_all (is_before q.name) (names_in rows)) _ up in
    next_by (is_behind after q && p q) p q r rows after refl parts.0 (next_found p rows after r parts.1) e

pub next_is : (tie : Tie) (x : List ℕ) (rows : List Record) (after : Option (List ℕ)) (r : Record) → IsAscending rows → next_tied rows tie x after ≡ Some r → IsNext (is_tied tie x) rows after r
next_is tie x rows after r up e = next_found (is_tied tie x) rows after r up e

-- ---- a test of all that are tied, step by step

any_joined : (t : Record → Bool) (front back : List Record) → list_any t (front ++ back) ≡ (list_any t front || list_any t back)
any_joined t [] back = refl
any_joined t (q ∷ front) back = ap (λ b. t q || b) (any_joined t front back) ∙ moved (t q) (list_any t front) (list_any t back)
  where
    moved : (a b c : Bool) → (a || (b || c)) ≡ ((a || b) || c)
    moved true b c = refl
    moved false b c = refl

none_step : (a b rest : Bool) → (a || rest) ≡ false → (a && b) ≡ false
none_step false b rest e = refl
none_step true b rest e = absurd (both_ways true e refl)

none_rest : (a rest : Bool) → (a || rest) ≡ false → rest ≡ false
none_rest false rest e = e
none_rest true rest e = absurd (both_ways true e refl)

none_both : (p h : Record → Bool) (rows : List Record) → list_any p rows ≡ false → list_any (λ (r : Record). p r && h r) rows ≡ false
none_both p h [] e = refl
none_both p h (q ∷ rows) e = ap (λ b. b || list_any (λ (r : Record). p r && h r) rows) (none_step (p q) (h q) (list_any p rows) e) ∙ none_both p h rows (none_rest (p q) (list_any p rows) e)

abbrev both : (Record → Bool) → (Record → Bool) → Record → Bool
both p h r = p r && h r

at_next : (p h : Record → Bool) (rows : List Record) (after : Option (List ℕ)) (r : Record) → IsNext p rows after r
    → list_any (both p h) (behind after rows) ≡ (h r || list_any (both p h) (behind (Some r.name) rows))
at_next p h rows after r next =
    ap (list_any (both p h)) next.is ∙ any_joined (both p h) next.front (r ∷ behind (Some r.name) rows)
    ∙ ap (λ b. b || (both p h r || list_any (both p h) (behind (Some r.name) rows))) (none_both p h next.front next.free)
    ∙ ap (λ b. (b && h r) || list_any (both p h) (behind (Some r.name) rows)) next.passes

none_left_step : (b t : Bool) (p h : Record → Bool) (q : Record) (some : List Record) (o : Option Record) → p q ≡ t → (o ≡ None → list_any (both p h) some ≡ false) → cond (b && t) (Some q) o ≡ None
    → list_any (both p h) (cond b (q ∷ some) some) ≡ false
none_left_step true true p h q some o is more e = absurd (no_record q (sym e))
none_left_step true false p h q some o is more e = ap (λ b. (b && h q) || list_any (both p h) some) is ∙ more e
none_left_step false t p h q some o is more e = more e

none_left : (p h : Record → Bool) (rows : List Record) (after : Option (List ℕ)) → found p rows after ≡ None → list_any (both p h) (behind after rows) ≡ false
none_left p h [] after e = refl
none_left p h (q ∷ rows) after e = none_left_step (is_behind after q) (p q) p h q (behind after rows) (found p rows after) refl (none_left p h rows after) e

module _ (tie : Tie) (x : List ℕ) (h : Record → Bool) (rows : List Record) where
  -- what of those above a name is tied so, and passes the test too
  abbrev pub any_behind : Option (List ℕ) → Bool
  any_behind after = list_any (λ (r : Record). is_tied tie x r && h r) (behind after rows)

  pub step_ended : (after : Option (List ℕ)) → next_tied rows tie x after ≡ None → any_behind after ≡ false
  step_ended after e = none_left (is_tied tie x) h rows after e

  pub step_met : (after : Option (List ℕ)) (r : Record) → IsAscending rows → next_tied rows tie x after ≡ Some r → h r ≡ true → any_behind after ≡ true
  step_met after r up e hit = at_next (is_tied tie x) h rows after r (next_is tie x rows after r up e) ∙ ap (λ b. b || any_behind (Some r.name)) hit

  pub step_on : (after : Option (List ℕ)) (r : Record) → IsAscending rows → next_tied rows tie x after ≡ Some r → h r ≡ false → any_behind after ≡ any_behind (Some r.name)
  step_on after r up e miss = at_next (is_tied tie x) h rows after r (next_is tie x rows after r up e) ∙ ap (λ b. b || any_behind (Some r.name)) miss

pub at_tied : (tie : Tie) (x : List ℕ) (h : Record → Bool) (rows : List Record) (after : Option (List ℕ)) (r : Record) → IsAscending rows → next_tied rows tie x after ≡ Some r
    → any_behind tie x h rows after ≡ (h r || any_behind tie x h rows (Some r.name))
at_tied tie x h rows after r up e = at_next (is_tied tie x) h rows after r (next_is tie x rows after r up e)

all_left : (rows : List Record) → behind None rows ≡ rows
all_left [] = refl
all_left (q ∷ rows) = ap (λ (rs : List Record). q ∷ rs) (all_left rows)

pub any_start : (tie : Tie) (x : List ℕ) (h : Record → Bool) (rows : List Record) → any_behind tie x h rows None ≡ list_any (λ (r : Record). is_tied tie x r && h r) rows
any_start tie x h rows = ap (list_any (λ (r : Record). is_tied tie x r && h r)) (all_left rows)

joined_length : (front : List Record) (r : Record) (back : List Record) → length back < length (front ++ r ∷ back)
joined_length [] r back = omega arith
joined_length (q ∷ front) r back =
    let rest : length back < length (front ++ r ∷ back) = joined_length front r back in
    omega (arith, rest)

-- fewer are left at each step
pub step_smaller : (tie : Tie) (x : List ℕ) (rows : List Record) (after : Option (List ℕ)) (r : Record) → IsAscending rows → next_tied rows tie x after ≡ Some r → length (behind (Some r.name) rows) < length (behind after rows)
step_smaller tie x rows after r up e =
    let next = next_is tie x rows after r up e in
    subst (λ (rs : List Record). length (behind (Some r.name) rows) < length rs) (sym next.is) (joined_length next.front r (behind (Some r.name) rows))
