-- What spreads from the names that deletions take is the least set of the cascade.
use Rattle.std.proofs.Common.{◌≡◌, ℕ, ◌<◌, ◌≤◌, ◌+◌, List, [], ◌∷◌, ◌++◌, Bool, true, false, cond, not, ◌&&◌, ◌||◌, refl, sym, ap, ◌∙◌, subst, arith, Some, None, Option, inl, inr, ⊎_elim, map, length, take, get_or}
use Rattle.std.specs.Prelude.{◌⊎◌, filter, is_some, option_and_then}
use Rattle.std.specs.Option.{option_map_or}
use Rattle.std.specs.List.{list_any}
use Rattle.std.proofs.lemmas.Bool.{both_ways, and_parts, and_from, or_cases, or_left, or_right}
use Rattle.std.proofs.lemmas.List.{take_all, take_more, take-append-le}
use Rattle.std.proofs.lemmas.List.Folds.{list_any_at}
use Rattle.record_model.specs.declared.records.Record.{Record}
use Rattle.name_rules.specs.Options.{is_some_and}
use Rattle.name_rules.specs.Parents.{IsAbove, here, up}
use Rattle.name_rules.proofs.NameLemmas.{same-true, same-refl, any-in}
use Rattle.zone_model.specs.Names.{same, is_in}
use Rattle.zone_model.specs.Records.{record_at, is_there}
use Rattle.zone_model.specs.References.{goes_with}
use Rattle.zone_model.specs.Working.{is_share_of}
use Rattle.zone_model.specs.Ancestry.{links_of, is_ancestor}
use Rattle.zone_model.specs.Cascade.{takes_along, is_due, IsClosed, IsLeast}
use Rattle.zone_laws.proofs.RecordLaws.{found-name}
use Rattle.zone_laws.proofs.JudgeLaws.{there-found}
use Rattle.zone_laws.proofs.TestLaws.{some_and_so}
use Rattle.zone_laws.proofs.MarkLaws.{any-found, any-from}
use Rattle.zone_laws.proofs.AncestryLaws.{is_ancestor_from, is_ancestor_gives, parent_of-record}
use Rattle.zone_judging.specs.declared.ties.Tie.{Tie}
use Rattle.zone_judging.specs.Ties.{is_tied}
use Rattle.zone_judging.specs.Removal.{AreWhole, names_one, goes_along, goes_below, goes_first, IsGrown, IsSpread, HasJoined}
use Rattle.zone_judging.proofs.PermitLemmas.{passing}
use Rattle.zone_judging.proofs.GrowLemmas.{in_last}

-- ---- what spreads, step by step

-- What goes below the first so many of the names is among them.
pub record IsSpreading (rows : List Record) (taken old names : List (List ℕ)) (at : ℕ) : Type 0 where
  pub within : (y : List ℕ) → is_in old y ≡ true → is_in names y ≡ true
  pub done : (x y : List ℕ) → is_in (take at names) x ≡ true → names_one (goes_below taken x) rows y ≡ true → is_in names y ≡ true
  pub least : (p : List ℕ → Bool) → ((y : List ℕ) → is_in old y ≡ true → p y ≡ true)
      → ((x y : List ℕ) → p x ≡ true → names_one (goes_below taken x) rows y ≡ true → p y ≡ true)
      → (y : List ℕ) → is_in names y ≡ true → p y ≡ true

pub spreading_start : (rows : List Record) (taken old : List (List ℕ)) → IsSpreading rows taken old old 0
spreading_start rows taken old = record {
  within = λ y e. e;
  done = λ x y e. absurd (both_ways false refl e);
  least = λ p first more y e. first y e;
}

module _ (rows : List Record) (taken old names new : List (List ℕ)) (at : ℕ) (name : List ℕ) (some : at < length names) (is : name ≡ get_or names at name)
    (so : IsSpreading rows taken old names at) (grown : IsGrown rows (goes_below taken name) names new) where
  kept_in : (y : List ℕ) → is_in names y ≡ true → is_in new y ≡ true
  kept_in y e = grown.names y ∙ or_left (is_in names y) _ e

  name_in : is_in names name ≡ true
  name_in = list_any_at (same name) names at name some (ap (same name) (sym is) ∙ same-refl name)

  front_is : take (at + 1) new ≡ take at names ++ name ∷ []
  front_is =
      let few : at + 1 ≤ length names = omega (arith, some) in
      ap (take (at + 1)) grown.front ∙ take-append-le (at + 1) names grown.more few ∙ take_more names at name some ∙ ap (λ n. take at names ++ n ∷ []) (sym is)

  done_by : (x y : List ℕ) → (is_in (take at names) x ≡ true) ⊎ (same x name ≡ true) → names_one (goes_below taken x) rows y ≡ true → is_in new y ≡ true
  done_by x y (inl e) below = kept_in y (so.done x y e below)
  done_by x y (inr e) below = grown.names y ∙ or_right (is_in names y) _ (subst (λ z. names_one (goes_below taken z) rows y ≡ true) (same-true x name e) below)

  least_by : (p : List ℕ → Bool) → ((y : List ℕ) → is_in old y ≡ true → p y ≡ true)
      → ((x y : List ℕ) → p x ≡ true → names_one (goes_below taken x) rows y ≡ true → p y ≡ true)
      → (y : List ℕ) → (is_in names y ≡ true) ⊎ (names_one (goes_below taken name) rows y ≡ true) → p y ≡ true
  least_by p first more y (inl e) = so.least p first more y e
  least_by p first more y (inr e) = more name y (so.least p first more name name_in) e

  pub spreading_next : IsSpreading rows taken old new (at + 1)
  spreading_next = record {
    within = λ y e. kept_in y (so.within y e);
    done = λ x y e below. done_by x y (or_cases (is_in (take at names) x) (same x name) (sym (in_last (take at names) name x) ∙ ap (λ ns. is_in ns x) (sym front_is) ∙ e)) below;
    least = λ p first more y e. least_by p first more y (or_cases (is_in names y) _ (sym (grown.names y) ∙ e));
  }

pub spreading_end : (rows : List Record) (taken old names : List (List ℕ)) (at : ℕ) → length names ≤ at → IsSpreading rows taken old names at → IsSpread rows taken old names
spreading_end rows taken old names at all so = record {
  within = so.within;
  closed = λ x y e below. so.done x y (ap (λ ns. is_in ns x) (take_all at names all) ∙ e) below;
  least = so.least;
}

-- ---- the least set

due_step : (b s : Bool) (q : Record) (some : List Record) (x : List ℕ) (rest : Bool) → same x q.name ≡ s → is_in (map (λ (r : Record). r.name) some) x ≡ rest
    → is_in (map (λ (r : Record). r.name) (cond b (q ∷ some) some)) x ≡ ((b && s) || rest)
due_step true s q some x rest is more = ap (λ k. k || is_in (map (λ (r : Record). r.name) some) x) is ∙ ap (λ k. s || k) more
due_step false s q some x rest is more = more

in_named : (p : Record → Bool) (rows : List Record) (x : List ℕ) → is_in (map (λ (r : Record). r.name) (filter p rows)) x ≡ names_one p rows x
in_named p [] x = refl
in_named p (q ∷ rows) x = due_step (p q) (same x q.name) q (filter p rows) x (names_one p rows x) refl (in_named p rows x)

there_record : (o : Option Record) (rows : List Record) (x : List ℕ) → record_at rows x ≡ o → is_there rows x ≡ true → (r : Record) × (record_at rows x ≡ Some r)
there_record (Some r) rows x at e = (r, at)
there_record None rows x at e = absurd (both_ways (is_there rows x) (there-found rows x ∙ ap is_some at) e)

true_not : (b : Bool) → b ≡ false → not b ≡ true
true_not false e = refl
true_not true e = absurd (both_ways true e refl)

module _ (rows : List Record) (taken first spread all : List (List ℕ)) (whole : AreWhole rows taken)
    (begun : HasJoined (λ y. list_any (goes_first rows taken y) taken) [] first)
    (is_spread : IsSpread rows taken first spread)
    (ended : HasJoined (λ y. is_there rows y && is_in taken y) spread all) where
  one : (p : Record → Bool) (x : List ℕ) (r : Record) → record_at rows x ≡ Some r → p r ≡ true → names_one p rows x ≡ true
  one p x r at e = any-from (λ (q : Record). p q && same x q.name) rows x r at (and_from (p r) (same x r.name) e (found-name rows x r at))

  its_record : (p : Record → Bool) (x : List ℕ) → names_one p rows x ≡ true → (r : Record) × (record_at rows x ≡ Some r) × (p r ≡ true) × (x ≡ r.name)
  its_record p x e =
      let q = any-found (λ (r : Record). p r && same x r.name) rows whole.ordered e in
      let parts = and_parts (p q.0) (same x q.0.name) q.2 in
      let name : x ≡ q.0.name = same-true x q.0.name parts.1 in
      (q.0, subst (λ y. record_at rows y ≡ Some q.0) (sym name) q.1, parts.0, name)

  there_from : (x : List ℕ) (r : Record) → record_at rows x ≡ Some r → is_there rows x ≡ true
  there_from x r at = any-from (λ (q : Record). same x q.name) rows x r at (found-name rows x r at)

  spread_in : (x : List ℕ) → is_in spread x ≡ true → is_in all x ≡ true
  spread_in x e = ended x ∙ or_left (is_in spread x) _ e

  taken_in : (x : List ℕ) → is_there rows x ≡ true → is_in taken x ≡ true → is_in all x ≡ true
  taken_in x there e = ended x ∙ or_right (is_in spread x) _ (and_from (is_there rows x) (is_in taken x) there e)

  -- ---- it is closed

  along_by : (m x : List ℕ) (r : Record) → record_at rows x ≡ Some r → goes_along taken m r ≡ true → (is_in spread m ≡ true) ⊎ ((is_there rows m && is_in taken m) ≡ true) → is_in all x ≡ true
  along_by m x r at e (inl within) = spread_in x (is_spread.closed m x within (one (goes_below taken m) x r at (or_right (is_tied Tie.Child m r) (goes_along taken m r) e)))
  along_by m x r at e (inr both) =
      let parts = and_parts (is_there rows m) (is_in taken m) both in
      spread_in x (is_spread.within x (begun x ∙ any-in (goes_first rows taken x) taken m parts.1
      (and_from (is_there rows m) _ parts.0 (one (goes_along taken m) x r at e))))

  along_in : (b : Bool) (m x : List ℕ) (r : Record) → record_at rows x ≡ Some r → x ≡ r.name → is_in taken r.name ≡ b → (goes_with m r || is_share_of m r) ≡ true → is_in all m ≡ true → is_in all x ≡ true
  along_in true m x r at name takes e within = taken_in x (there_from x r at) (subst (λ y. is_in taken y ≡ true) (sym name) takes)
  along_in false m x r at name takes e within =
      along_by m x r at (and_from (not (is_in taken r.name)) _ (true_not (is_in taken r.name) takes) e) (or_cases (is_in spread m) _ (sym (ended m) ∙ within))

  child_in : (o : Option Record) (x p : List ℕ) → record_at rows x ≡ o → option_and_then (λ (r : Record). r.parent) o ≡ Some p → is_in spread p ≡ true → is_in spread x ≡ true
  child_in None x p at e within = absurd (both_ways false refl (ap (λ (o : Option (List ℕ)). option_map_or (λ _. true) o false) e))
  child_in (Some r) x p at e within =
      is_spread.closed p x within (one (goes_below taken p) x r at (or_left (is_tied Tie.Child p r) (goes_along taken p r) (ap (is_some_and (same p)) e ∙ same-refl p)))

  up_in : (m p : List ℕ) → IsAbove (links_of rows) m p → is_in spread m ≡ true → is_in spread p ≡ true
  up_in m p (here _ e) within = subst (λ y. is_in spread y ≡ true) e within
  up_in m p (up _ q at rest) within = child_in (record_at rows p) p q refl (sym (parent_of-record rows p) ∙ at) (up_in m q rest within)

  untaken_in : (m : List ℕ) → not (is_in taken m) ≡ true → (is_in spread m ≡ true) ⊎ ((is_there rows m && is_in taken m) ≡ true) → is_in spread m ≡ true
  untaken_in m e (inl within) = within
  untaken_in m e (inr both) = absurd (both_ways false refl (sym (ap not (and_parts (is_there rows m) (is_in taken m) both).1) ∙ e))

  below_in : (m x : List ℕ) (r : Record) → record_at rows x ≡ Some r → (not (is_in taken m) && is_some_and (is_ancestor rows m) r.parent) ≡ true → is_in all m ≡ true → is_in all x ≡ true
  below_in m x r at e within =
      let parts = and_parts (not (is_in taken m)) _ e in
      let p = some_and_so (is_ancestor rows m) r.parent parts.1 in
      let root : is_in spread m ≡ true = untaken_in m parts.0 (or_cases (is_in spread m) _ (sym (ended m) ∙ within)) in
      spread_in x (child_in (Some r) x p.0 at p.1 (up_in m p.0 (is_ancestor_gives rows m p.0 p.2) root))

  along_or_below : (m x : List ℕ) (r : Record) → record_at rows x ≡ Some r → x ≡ r.name → takes_along rows taken m r ≡ true → is_in all m ≡ true → is_in all x ≡ true
  along_or_below m x r at name e within = ⊎_elim
      (λ (h : goes_with m r ≡ true). along_in (is_in taken r.name) m x r at name refl (or_left (goes_with m r) (is_share_of m r) h) within)
      (λ (h : ((not (is_in taken m) && is_some_and (is_ancestor rows m) r.parent) || is_share_of m r) ≡ true). ⊎_elim
      (λ (k : (not (is_in taken m) && is_some_and (is_ancestor rows m) r.parent) ≡ true). below_in m x r at k within)
      (λ (k : is_share_of m r ≡ true). along_in (is_in taken r.name) m x r at name refl (or_right (goes_with m r) (is_share_of m r) k) within)
      (or_cases (not (is_in taken m) && is_some_and (is_ancestor rows m) r.parent) (is_share_of m r) h))
      (or_cases (goes_with m r) _ e)

  closed : IsClosed rows taken all
  closed x e =
      let r = its_record (is_due rows taken all) x (sym (in_named (is_due rows taken all) rows x) ∙ e) in
      ⊎_elim
      (λ (h : is_in taken r.0.name ≡ true). taken_in x (there_from x r.0 r.1) (subst (λ y. is_in taken y ≡ true) (sym r.3) h))
      (λ (h : list_any (λ m. takes_along rows taken m r.0) all ≡ true).
      let m = passing (λ n. takes_along rows taken n r.0) all h in
      along_or_below m.name x r.0 r.1 r.3 m.passes m.within)
      (or_cases (is_in taken r.0.name) _ r.2)

  -- ---- it is within all that are

  module _ (others : List (List ℕ)) (shut : IsClosed rows taken others) where
    due_in : (x : List ℕ) (r : Record) → record_at rows x ≡ Some r → is_due rows taken others r ≡ true → is_in others x ≡ true
    due_in x r at e = shut x (in_named (is_due rows taken others) rows x ∙ one (is_due rows taken others) x r at e)

    own_in : (x : List ℕ) → is_there rows x ≡ true → is_in taken x ≡ true → is_in others x ≡ true
    own_in x there e =
        let r = there_record (record_at rows x) rows x refl there in
        due_in x r.0 r.1 (or_left (is_in taken r.0.name) _ (subst (λ y. is_in taken y ≡ true) (same-true x r.0.name (found-name rows x r.0 r.1)) e))

    with_in : (m x : List ℕ) (r : Record) → record_at rows x ≡ Some r → is_in others m ≡ true → takes_along rows taken m r ≡ true → is_in others x ≡ true
    with_in m x r at within e = due_in x r at (or_right (is_in taken r.name) _ (any-in (λ n. takes_along rows taken n r) others m within e))

    -- x is below one of them that no deletion takes
    abbrev deep : List ℕ → Bool
    deep x = list_any (λ m. not (is_in taken m) && is_ancestor rows m x) others

    abbrev sound : List ℕ → Bool
    sound x = is_in others x && deep x

    itself_deep : (x : List ℕ) → is_in others x ≡ true → not (is_in taken x) ≡ true → deep x ≡ true
    itself_deep x within e = any-in (λ m. not (is_in taken m) && is_ancestor rows m x) others x within (and_from (not (is_in taken x)) (is_ancestor rows x x) e (is_ancestor_from rows x x (here x refl)))

    along_sound : (m x : List ℕ) (r : Record) → record_at rows x ≡ Some r → x ≡ r.name → is_in others m ≡ true → goes_along taken m r ≡ true → sound x ≡ true
    along_sound m x r at name within e =
        let parts = and_parts (not (is_in taken r.name)) (goes_with m r || is_share_of m r) e in
        let along : takes_along rows taken m r ≡ true = ⊎_elim
        (λ (h : goes_with m r ≡ true). or_left (goes_with m r) _ h)
        (λ (h : is_share_of m r ≡ true). or_right (goes_with m r) _ (or_right (not (is_in taken m) && is_some_and (is_ancestor rows m) r.parent) (is_share_of m r) h))
        (or_cases (goes_with m r) (is_share_of m r) parts.1) in
        let there : is_in others x ≡ true = with_in m x r at within along in
        and_from (is_in others x) (deep x) there (itself_deep x there (subst (λ y. not (is_in taken y) ≡ true) (sym name) parts.0))

    first_sound : (x : List ℕ) → is_in first x ≡ true → sound x ≡ true
    first_sound x e =
        let t = passing (goes_first rows taken x) taken (sym (begun x) ∙ e) in
        let parts = and_parts (is_there rows t.name) _ t.passes in
        let r = its_record (goes_along taken t.name) x parts.1 in
        along_sound t.name x r.0 r.1 r.3 (own_in t.name parts.0 t.within) r.2

    child_sound : (p x : List ℕ) (r : Record) → record_at rows x ≡ Some r → r.parent ≡ Some p → deep p ≡ true → sound x ≡ true
    child_sound p x r at is e =
        let m = passing (λ n. not (is_in taken n) && is_ancestor rows n p) others e in
        let parts = and_parts (not (is_in taken m.name)) (is_ancestor rows m.name p) m.passes in
        let along : (not (is_in taken m.name) && is_some_and (is_ancestor rows m.name) r.parent) ≡ true =
        and_from (not (is_in taken m.name)) _ parts.0 (ap (is_some_and (is_ancestor rows m.name)) is ∙ parts.1) in
        let there : is_in others x ≡ true = with_in m.name x r at m.within (or_right (goes_with m.name r) _ (or_left (not (is_in taken m.name) && is_some_and (is_ancestor rows m.name) r.parent) (is_share_of m.name r) along)) in
        let above : is_ancestor rows m.name x ≡ true =
        is_ancestor_from rows m.name x (up x p (parent_of-record rows x ∙ ap (option_and_then (λ (q : Record). q.parent)) at ∙ is) (is_ancestor_gives rows m.name p parts.1)) in
        and_from (is_in others x) (deep x) there (any-in (λ n. not (is_in taken n) && is_ancestor rows n x) others m.name m.within (and_from (not (is_in taken m.name)) _ parts.0 above))

    parent_so : (p : List ℕ) (o : Option (List ℕ)) → is_some_and (same p) o ≡ true → o ≡ Some p
    parent_so p None e = absurd (both_ways false refl e)
    parent_so p (Some q) e = ap Some (sym (same-true p q e))

    below_sound : (p x : List ℕ) → sound p ≡ true → names_one (goes_below taken p) rows x ≡ true → sound x ≡ true
    below_sound p x so e =
        let both = and_parts (is_in others p) (deep p) so in
        let r = its_record (goes_below taken p) x e in
        ⊎_elim
        (λ (h : is_tied Tie.Child p r.0 ≡ true). child_sound p x r.0 r.1 (parent_so p r.0.parent h) both.1)
        (λ (h : goes_along taken p r.0 ≡ true). along_sound p x r.0 r.1 r.3 both.0 h)
        (or_cases (is_tied Tie.Child p r.0) (goes_along taken p r.0) r.2)

    within_others : (x : List ℕ) → is_in all x ≡ true → is_in others x ≡ true
    within_others x e = ⊎_elim
        (λ (h : is_in spread x ≡ true). (and_parts (is_in others x) (deep x) (is_spread.least sound first_sound below_sound x h)).0)
        (λ (h : (is_there rows x && is_in taken x) ≡ true). let parts = and_parts (is_there rows x) (is_in taken x) h in own_in x parts.0 parts.1)
        (or_cases (is_in spread x) _ (sym (ended x) ∙ e))

  pub is_least : IsLeast rows taken all
  is_least = record { closed = closed; least = λ others shut x e. within_others others shut x e }
