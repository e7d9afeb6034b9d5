-- Names to which those of records are added, one after another.
use Rattle.std.proofs.Common.{◌≡◌, ℕ, suc, ◌<◌, ◌≤◌, ◌+◌, List, [], ◌∷◌, ◌++◌, Bool, true, false, cond, not, ◌&&◌, ◌||◌, refl, sym, ap, ◌∙◌, subst, arith, Some, None, Option, length, take, get_or}
use Rattle.std.specs.Prelude.{filter, find, Result, Ok, Err, IfOk, if◌then◌else◌}
use Rattle.std.specs.Option.{option_map_or}
use Rattle.std.specs.List.{list_any}
use Rattle.std.proofs.lemmas.Bool.{both_ways}
use Rattle.std.proofs.lemmas.List.{append-nil, append_assoc, take_more}
use Rattle.record_model.specs.declared.records.Record.{Record}
use Rattle.name_rules.proofs.NameLemmas.{same-true, same-refl}
use Rattle.zone_model.specs.Names.{same, is_in}
use Rattle.zone_model.specs.Records.{is_there, IsAscending}
use Rattle.zone_model.specs.Working.{is_share_of}
use Rattle.zone_laws.proofs.RecordLaws.{same-comm}
use Rattle.zone_judging.specs.declared.ties.Tie.{Tie}
use Rattle.zone_judging.specs.Ties.{is_tied, is_behind, next_tied}
use Rattle.zone_judging.specs.Removal.{names_one, with_last, with_untaken, goes_along, goes_below, goes_as_share, left, IsGrown, HasJoined}
use Rattle.zone_judging.proofs.StepLemmas.{any_behind, any_start, step_ended, at_tied}

-- ---- one name more

or_false : (a : Bool) → (a || false) ≡ a
or_false true = refl
or_false false = refl

or_assoc : (a b c : Bool) → ((a || b) || c) ≡ (a || (b || c))
or_assoc true b c = refl
or_assoc false b c = refl

pub in_last : (names : List (List ℕ)) (x y : List ℕ) → is_in (names ++ x ∷ []) y ≡ (is_in names y || same y x)
in_last [] x y = or_false (same y x)
in_last (z ∷ names) x y = ap (λ b. same y z || b) (in_last names x y) ∙ sym (or_assoc (same y z) (is_in names y) (same y x))

there_by : (s : Bool) (names : List (List ℕ)) (x y : List ℕ) → same y x ≡ s → is_in names x ≡ true → is_in names y ≡ (is_in names y || s)
there_by true names x y is e = subst (λ z. is_in names z ≡ true) (sym (same-true y x is)) e ∙ sym (or_all (is_in names y))
  where
    or_all : (a : Bool) → (a || true) ≡ true
    or_all true = refl
    or_all false = refl
there_by false names x y is e = sym (or_false (is_in names y))

with_by : (b : Bool) (names : List (List ℕ)) (x y : List ℕ) → is_in names x ≡ b → is_in (if b then names else names ++ x ∷ []) y ≡ (is_in names y || same y x)
with_by true names x y e = there_by (same y x) names x y refl e
with_by false names x y e = in_last names x y

pub with_in : (names : List (List ℕ)) (x y : List ℕ) → is_in (with_last names x) y ≡ (is_in names y || same y x)
with_in names x y = with_by (is_in names x) names x y refl

-- ---- fewer records are left

no_more_step : (b s : Bool) (q : Record) (some rows : List Record) → length some ≤ length rows → length (cond (not (b || s)) (q ∷ some) some) ≤ length (cond (not b) (q ∷ rows) rows)
no_more_step true s q some rows few = few
no_more_step false true q some rows few = omega (arith, few)
no_more_step false false q some rows few = omega (arith, few)

no_more : (rows : List Record) (names : List (List ℕ)) (x : List ℕ) → left rows (names ++ x ∷ []) ≤ left rows names
no_more [] names x = omega arith
no_more (q ∷ rows) names x =
    subst (λ b. length (cond (not b) (q ∷ filter (λ (r : Record). not (is_in (names ++ x ∷ []) r.name)) rows) (filter (λ (r : Record). not (is_in (names ++ x ∷ []) r.name)) rows)) ≤ left (q ∷ rows) names)
    (sym (in_last names x q.name))
    (no_more_step (is_in names q.name) (same q.name x) q _ _ (no_more rows names x))

fewer_here : (b s : Bool) (q : Record) (some rows : List Record) → b ≡ false → s ≡ true → length some ≤ length rows → length (cond (not (b || s)) (q ∷ some) some) < length (cond (not b) (q ∷ rows) rows)
fewer_here false true q some rows new here few = omega (arith, few)
fewer_here true s q some rows new here few = absurd (both_ways true new refl)
fewer_here false false q some rows new here few = absurd (both_ways false refl here)

fewer_later : (b s : Bool) (q : Record) (some rows : List Record) → length some < length rows → length (cond (not (b || s)) (q ∷ some) some) < length (cond (not b) (q ∷ rows) rows)
fewer_later true s q some rows few = few
fewer_later false true q some rows few = omega (arith, few)
fewer_later false false q some rows few = omega (arith, few)

fewer_by : (s : Bool) (q : Record) (rows : List Record) (names : List (List ℕ)) (x : List ℕ) → same x q.name ≡ s → is_in names x ≡ false → (s || is_there rows x) ≡ true
    → (is_there rows x ≡ true → left rows (names ++ x ∷ []) < left rows names)
    → length (cond (not (is_in names q.name || same q.name x)) (q ∷ filter (λ (r : Record). not (is_in (names ++ x ∷ []) r.name)) rows) (filter (λ (r : Record). not (is_in (names ++ x ∷ []) r.name)) rows)) < left (q ∷ rows) names
fewer_by true q rows names x is new there more =
    fewer_here (is_in names q.name) (same q.name x) q _ _ (subst (λ y. is_in names y ≡ false) (same-true x q.name is) new) (same-comm q.name x ∙ is) (no_more rows names x)
fewer_by false q rows names x is new there more = fewer_later (is_in names q.name) (same q.name x) q _ _ (more there)

fewer : (rows : List Record) (names : List (List ℕ)) (x : List ℕ) → is_in names x ≡ false → is_there rows x ≡ true → left rows (names ++ x ∷ []) < left rows names
fewer [] names x new there = absurd (both_ways false refl there)
fewer (q ∷ rows) names x new there =
    subst (λ b. length (cond (not b) (q ∷ filter (λ (r : Record). not (is_in (names ++ x ∷ []) r.name)) rows) (filter (λ (r : Record). not (is_in (names ++ x ∷ []) r.name)) rows)) < left (q ∷ rows) names)
    (sym (in_last names x q.name))
    (fewer_by (same x q.name) q rows names x refl new there (λ e. fewer rows names x new e))

last_length : (names : List (List ℕ)) (x : List ℕ) → length (names ++ x ∷ []) ≡ suc (length names)
last_length [] x = refl
last_length (y ∷ names) x = ap suc (last_length names x)

few_by : (b : Bool) (rows : List Record) (names : List (List ℕ)) (x : List ℕ) → is_in names x ≡ b → is_there rows x ≡ true
    → left rows (if b then names else names ++ x ∷ []) + length (if b then names else names ++ x ∷ []) ≤ left rows names + length names
few_by true rows names x e there = omega arith
few_by false rows names x e there = omega (arith, last_length names x, fewer rows names x e there)

with_few : (rows : List Record) (names : List (List ℕ)) (x : List ℕ) → is_there rows x ≡ true → left rows (with_last names x) + length (with_last names x) ≤ left rows names + length names
with_few rows names x there = few_by (is_in names x) rows names x refl there

front_by : (b : Bool) (old names : List (List ℕ)) (x : List ℕ) → (more : List (List ℕ)) → names ≡ old ++ more → (later : List (List ℕ)) × ((if b then names else names ++ x ∷ []) ≡ old ++ later)
front_by true old names x more is = (more, is)
front_by false old names x more is = (more ++ x ∷ [], ap (λ ns. ns ++ x ∷ []) is ∙ append_assoc old more (x ∷ []))

-- ---- those that are tied, step by step

-- What has been added so far, up to that name; those behind it are still to come.
pub record IsGrowing (rows : List Record) (tie : Tie) (a : List ℕ) (passes : Record → Bool) (old names : List (List ℕ)) (after : Option (List ℕ)) : Type 0 where
  pub more : List (List ℕ)
  pub front : names ≡ old ++ more
  pub names_so : (y : List ℕ) → (is_in names y || any_behind tie a (λ (r : Record). passes r && same y r.name) rows after) ≡ (is_in old y || any_behind tie a (λ (r : Record). passes r && same y r.name) rows None)
  pub few : left rows names + length names ≤ left rows old + length old

pub growing_start : (rows : List Record) (tie : Tie) (a : List ℕ) (passes : Record → Bool) (old : List (List ℕ)) → IsGrowing rows tie a passes old old None
growing_start rows tie a passes old = record { more = []; front = sym (append-nil old); names_so = λ y. refl; few = omega arith }

found_step : (b : Bool) (q r : Record) (rest : Bool) (o : Option Record) → (o ≡ Some r → rest ≡ true) → cond b (Some q) o ≡ Some r → (same r.name q.name || rest) ≡ true
found_step true q r rest o more e = ap (λ (t : Record). same r.name t.name || rest) (same_row q r e) ∙ ap (λ b. b || rest) (same-refl r.name)
  where
    same_row : (s t : Record) → Some s ≡ Some t → s ≡ t
    same_row s t f = ap (λ (p : Option Record). option_map_or (λ u. u) p s) f
found_step false q r rest o more e = ap (λ b. same r.name q.name || b) (more e) ∙ or_all (same r.name q.name)
  where
    or_all : (a : Bool) → (a || true) ≡ true
    or_all true = refl
    or_all false = refl

pub found_there : (p : Record → Bool) (rows : List Record) (r : Record) → find p rows ≡ Some r → is_there rows r.name ≡ true
found_there p [] r e = absurd (both_ways false refl (ap (λ (o : Option Record). option_map_or (λ _. true) o false) e))
found_there p (q ∷ rows) r e = found_step (p q) q r (is_there rows r.name) (find p rows) (found_there p rows r) e

module _ (rows : List Record) (tie : Tie) (a : List ℕ) (passes : Record → Bool) (old names : List (List ℕ)) (after : Option (List ℕ)) (r : Record) (up : IsAscending rows)
    (at : next_tied rows tie a after ≡ Some r) (so : IsGrowing rows tie a passes old names after) where
  abbrev rest : List ℕ → Bool
  rest y = any_behind tie a (λ (q : Record). passes q && same y q.name) rows (Some r.name)

  stepped : (y : List ℕ) → (is_in names y || ((passes r && same y r.name) || rest y)) ≡ (is_in old y || any_behind tie a (λ (q : Record). passes q && same y q.name) rows None)
  stepped y = ap (λ b. is_in names y || b) (sym (at_tied tie a (λ (q : Record). passes q && same y q.name) rows after r up at)) ∙ so.names_so y

  pub growing_add : passes r ≡ true → IsGrowing rows tie a passes old (with_last names r.name) (Some r.name)
  growing_add e =
      let later = front_by (is_in names r.name) old names r.name so.more so.front in
      record {
        more = later.0;
        front = later.1;
        names_so = λ y. ap (λ b. b || rest y) (with_in names r.name y) ∙ or_assoc (is_in names y) (same y r.name) (rest y)
            ∙ ap (λ b. is_in names y || ((b && same y r.name) || rest y)) (sym e) ∙ stepped y;
        few = omega (arith, with_few rows names r.name (found_there (λ (q : Record). is_behind after q && is_tied tie a q) rows r at), so.few);
      }

  pub growing_skip : passes r ≡ false → IsGrowing rows tie a passes old names (Some r.name)
  growing_skip e = record {
    more = so.more;
    front = so.front;
    names_so = λ y. ap (λ b. is_in names y || ((b && same y r.name) || rest y)) (sym e) ∙ stepped y;
    few = so.few;
  }

growing_by : (b : Bool) (rows : List Record) (tie : Tie) (a : List ℕ) (taken old names : List (List ℕ)) (after : Option (List ℕ)) (r : Record) → is_in taken r.name ≡ b → IsAscending rows → next_tied rows tie a after ≡ Some r
    → IsGrowing rows tie a (λ (q : Record). not (is_in taken q.name)) old names after → IsGrowing rows tie a (λ (q : Record). not (is_in taken q.name)) old (if b then names else with_last names r.name) (Some r.name)
growing_by true rows tie a taken old names after r is up at so = growing_skip rows tie a (λ (q : Record). not (is_in taken q.name)) old names after r up at so (ap not is)
growing_by false rows tie a taken old names after r is up at so = growing_add rows tie a (λ (q : Record). not (is_in taken q.name)) old names after r up at so (ap not is)

pub growing_next : (rows : List Record) (tie : Tie) (a : List ℕ) (taken old names : List (List ℕ)) (after : Option (List ℕ)) (r : Record) → IsAscending rows → next_tied rows tie a after ≡ Some r
    → IsGrowing rows tie a (λ (q : Record). not (is_in taken q.name)) old names after → IsGrowing rows tie a (λ (q : Record). not (is_in taken q.name)) old (with_untaken taken names r.name) (Some r.name)
growing_next rows tie a taken old names after r up at so = growing_by (is_in taken r.name) rows tie a taken old names after r refl up at so

and_assoc : (a b c : Bool) → (a && (b && c)) ≡ ((a && b) && c)
and_assoc true b c = refl
and_assoc false b c = refl

any_alike : {X : Type 0} (p q : X → Bool) → ((x : X) → p x ≡ q x) → (xs : List X) → list_any p xs ≡ list_any q xs
any_alike p q is [] = refl
any_alike p q is (x ∷ xs) = ap (λ b. b || list_any p xs) (is x) ∙ ap (λ b. q x || b) (any_alike p q is xs)

pub growing_end : (rows : List Record) (tie : Tie) (a : List ℕ) (passes : Record → Bool) (old names : List (List ℕ)) (after : Option (List ℕ)) → next_tied rows tie a after ≡ None
    → IsGrowing rows tie a passes old names after → IsGrown rows (λ (r : Record). is_tied tie a r && passes r) old names
growing_end rows tie a passes old names after none so = record {
  more = so.more;
  front = so.front;
  names = λ y.
      sym (or_false (is_in names y))
      ∙ ap (λ b. is_in names y || b) (sym (step_ended tie a (λ (r : Record). passes r && same y r.name) rows after none))
      ∙ so.names_so y
      ∙ ap (λ b. is_in old y || b) (any_start tie a (λ (r : Record). passes r && same y r.name) rows
      ∙ any_alike (λ (r : Record). is_tied tie a r && (passes r && same y r.name)) (λ (r : Record). (is_tied tie a r && passes r) && same y r.name) (λ r. and_assoc (is_tied tie a r) (passes r) (same y r.name)) rows);
  few = so.few;
}

-- ---- one growth after another

or_and : (a b c : Bool) → ((a || b) && c) ≡ ((a && c) || (b && c))
or_and true true true = refl
or_and true true false = refl
or_and true false true = refl
or_and true false false = refl
or_and false b c = refl

four : (a b c d : Bool) → ((a || b) || (c || d)) ≡ ((a || c) || (b || d))
four true b c d = refl
four false true true d = refl
four false true false d = refl
four false false c d = refl

either : (p q : Record → Bool) (rows : List Record) (y : List ℕ) → (names_one p rows y || names_one q rows y) ≡ names_one (λ (r : Record). p r || q r) rows y
either p q [] y = refl
either p q (r ∷ rows) y = four (p r && same y r.name) (names_one p rows y) (q r && same y r.name) (names_one q rows y)
    ∙ ap (λ b. b || (names_one p rows y || names_one q rows y)) (sym (or_and (p r) (q r) (same y r.name)))
    ∙ ap (λ b. ((p r || q r) && same y r.name) || b) (either p q rows y)

-- what grows twice, where both tests together say t
pub grown_both : (rows : List Record) (p q t : Record → Bool) (a b c : List (List ℕ)) → ((r : Record) → (p r || q r) ≡ t r) → IsGrown rows p a b → IsGrown rows q b c → IsGrown rows t a c
grown_both rows p q t a b c is one two = record {
  more = one.more ++ two.more;
  front = two.front ∙ ap (λ ns. ns ++ two.more) one.front ∙ append_assoc a one.more two.more;
  names = λ y. two.names y ∙ ap (λ k. k || names_one q rows y) (one.names y) ∙ or_assoc (is_in a y) (names_one p rows y) (names_one q rows y)
      ∙ ap (λ k. is_in a y || k) (either p q rows y ∙ any_alike (λ (r : Record). (p r || q r) && same y r.name) (λ (r : Record). t r && same y r.name) (λ r. ap (λ k. k && same y r.name) (is r)) rows);
  few = omega (arith, one.few, two.few);
}

-- ---- one record, or none

pub grown_none : (rows : List Record) (test : Record → Bool) (old : List (List ℕ)) → ((y : List ℕ) → names_one test rows y ≡ false) → IsGrown rows test old old
grown_none rows test old none = record {
  more = [];
  front = sym (append-nil old);
  names = λ y. sym (or_false (is_in old y)) ∙ ap (λ b. is_in old y || b) (sym (none y));
  few = omega arith;
}

pub grown_one : (rows : List Record) (test : Record → Bool) (old : List (List ℕ)) (x : List ℕ) → is_there rows x ≡ true → ((y : List ℕ) → names_one test rows y ≡ same y x) → IsGrown rows test old (with_last old x)
grown_one rows test old x there one =
    let later = front_by (is_in old x) old old x [] (sym (append-nil old)) in
    record {
      more = later.0;
      front = later.1;
      names = λ y. with_in old x y ∙ ap (λ b. is_in old y || b) (sym (one y));
      few = with_few rows old x there;
    }

-- ---- what goes along, in two steps

two_ways : (n g s : Bool) → ((g && n) || (n && s)) ≡ (n && (g || s))
two_ways true true s = refl
two_ways true false s = refl
two_ways false true s = refl
two_ways false false s = refl

pub grown_along : (rows : List Record) (taken : List (List ℕ)) (a : List ℕ) (old mid new : List (List ℕ)) → IsGrown rows (λ (r : Record). is_tied Tie.GoesWith a r && not (is_in taken r.name)) old mid
    → IsGrown rows (goes_as_share taken a) mid new → IsGrown rows (goes_along taken a) old new
grown_along rows taken a old mid new one two = grown_both rows (λ (r : Record). is_tied Tie.GoesWith a r && not (is_in taken r.name)) (goes_as_share taken a) (goes_along taken a) old mid new
    (λ r. two_ways (not (is_in taken r.name)) (is_tied Tie.GoesWith a r) (is_share_of a r)) one two

and_all : (c d : Bool) → ((c && true) || d) ≡ (c || d)
and_all true d = refl
and_all false d = refl

pub grown_below : (rows : List Record) (taken : List (List ℕ)) (a : List ℕ) (old mid new : List (List ℕ)) → IsGrown rows (λ (r : Record). is_tied Tie.Child a r && not (is_in [] r.name)) old mid
    → IsGrown rows (goes_along taken a) mid new → IsGrown rows (goes_below taken a) old new
grown_below rows taken a old mid new one two = grown_both rows (λ (r : Record). is_tied Tie.Child a r && not (is_in [] r.name)) (goes_along taken a) (goes_below taken a) old mid new
    (λ r. and_all (is_tied Tie.Child a r) (goes_along taken a r)) one two

-- ---- names that have joined

pub if_ok : {T E : Type 0} {P Q : T → Type 0} → ((x : T) → P x → Q x) → (r : Result T E) → IfOk r P → IfOk r Q
if_ok more (Ok x) p = more x p
if_ok more (Err e) p = p

alike_there : (s : Bool) (rows : List Record) (name y : List ℕ) → same y name ≡ s → (is_there rows name && s) ≡ (is_there rows y && s)
alike_there true rows name y is = ap (λ z. is_there rows z && true) (sym (same-true y name is))
alike_there false rows name y is = nothing (is_there rows name) ∙ sym (nothing (is_there rows y))
  where
    nothing : (a : Bool) → (a && false) ≡ false
    nothing true = refl
    nothing false = refl

joined_again : (o t a s : Bool) → ((o || (t && a)) || (t && s)) ≡ (o || (t && (a || s)))
joined_again true t a s = refl
joined_again false true a s = refl
joined_again false false a s = refl

pub joined_more : (rows : List Record) (taken old mid new : List (List ℕ)) (i : ℕ) (name : List ℕ) → i < length taken → name ≡ get_or taken i name
    → HasJoined (λ y. is_there rows y && is_in (take i taken) y) old mid → HasJoined (λ y. is_there rows name && same y name) mid new
    → HasJoined (λ y. is_there rows y && is_in (take (i + 1) taken) y) old new
joined_more rows taken old mid new i name some is one two y =
    two y ∙ ap (λ b. b || (is_there rows name && same y name)) (one y)
    ∙ ap (λ b. (is_in old y || (is_there rows y && is_in (take i taken) y)) || b) (alike_there (same y name) rows name y refl)
    ∙ joined_again (is_in old y) (is_there rows y) (is_in (take i taken) y) (same y name)
    ∙ ap (λ b. is_in old y || (is_there rows y && b)) (sym (in_last (take i taken) name y) ∙ ap (λ ns. is_in ns y) (ap (λ n. take i taken ++ n ∷ []) is ∙ sym (take_more taken i name some)))

pub joined_there : (rows : List Record) (old new : List (List ℕ)) (name : List ℕ) → is_there rows name ≡ true → new ≡ with_last old name → HasJoined (λ y. is_there rows name && same y name) old new
joined_there rows old new name there is y = ap (λ ns. is_in ns y) is ∙ with_in old name y ∙ ap (λ b. is_in old y || (b && same y name)) (sym there)
