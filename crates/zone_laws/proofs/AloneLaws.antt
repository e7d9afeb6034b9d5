-- Records among others of other names, where no share is new and nothing is removed.
use Rattle.std.proofs.Common.{◌≡◌, ℕ, suc, List, [], ◌∷◌, ◌++◌, Bool, true, false, cond, not, ◌&&◌, ◌||◌, refl, ap, ◌∙◌, subst, Some, None, Option, map, zero}
use Rattle.std.specs.Prelude.{filter, filter_map, find, is_some}
use Rattle.std.specs.List.{list_any, list_all, cons_option}
use Rattle.std.proofs.Math.Bool.{and-false}
use Rattle.std.proofs.lemmas.Bool.{both_ways, and_parts}
use Rattle.std.proofs.lemmas.List.Folds.{list_any-append}
use Rattle.std.proofs.lemmas.List.Elements.{filter-append, filter_map-append}
use Rattle.ck_base.specs.Order.{is_before}
use Rattle.record_model.specs.declared.records.Record.{Record}
use Rattle.zone_model.specs.declared.commits.Write.{Write}
use Rattle.zone_model.specs.Names.{same}
use Rattle.zone_model.specs.Records.{is_there, IsAscending, with_record, names_in}
use Rattle.zone_model.specs.Working.{is_share_of}
use Rattle.zone_model.specs.Cascade.{is_due, due, reached}
use Rattle.name_rules.proofs.NameLemmas.{same-true, same-sym_false}
use Rattle.zone_laws.proofs.RecordLaws.{found-name, all-found, before_differs}
use Rattle.zone_laws.proofs.JudgeLaws.{there-found}

-- ---- tests that nothing passes

pub any_none : {X : Type 0} (p : X → Bool) (xs : List X) → ((x : X) → p x ≡ false) → list_any p xs ≡ false
any_none p [] none = refl
any_none p (x ∷ xs) none = λ i. none x i || any_none p xs none i

pub some_not : (o : Option Record) → is_some o ≡ false → o ≡ None
some_not None e = refl
some_not (Some r) e = absurd (both_ways true e refl)

found_none_step : (b : Bool) (r : Record) (o : Option Record) (rest : Bool) → (b || rest) ≡ false → (rest ≡ false → o ≡ None) → cond b (Some r) o ≡ None
found_none_step true r o rest e ih = absurd (both_ways true e refl)
found_none_step false r o rest e ih = ih e

pub find_none : (p : Record → Bool) (rows : List Record) → list_any p rows ≡ false → find p rows ≡ None
find_none p [] e = refl
find_none p (r ∷ rows) e = found_none_step (p r) r (find p rows) (list_any p rows) e (find_none p rows)

pub map_same : (f : Record → Record) → ((r : Record) → f r ≡ r) → (rows : List Record) → map f rows ≡ rows
map_same f each [] = refl
map_same f each (r ∷ rows) = λ i. each r i ∷ map_same f each rows i

-- ---- a record among others of other names

filtered_step : (t : Bool) (p : Record → Bool) (r : Record) (some : List Record) → (t ≡ true → p r ≡ false) → filter p some ≡ [] → filter p (cond t (r ∷ some) some) ≡ []
filtered_step true p r some off ih = ap (λ b. cond b (r ∷ filter p some) (filter p some)) (off refl) ∙ ih
filtered_step false p r some off ih = ih

filtered_off : (p t : Record → Bool) (rows : List Record) → ((r : Record) → t r ≡ true → p r ≡ false) → filter p (filter t rows) ≡ []
filtered_off p t [] off = refl
filtered_off p t (r ∷ rows) off = filtered_step (t r) p r (filter t rows) (off r) (filtered_off p t rows off)

mapped_step : (t : Bool) (f : Record → Option Write) (r : Record) (some : List Record) → (t ≡ true → f r ≡ None) → filter_map f some ≡ [] → filter_map f (cond t (r ∷ some) some) ≡ []
mapped_step true f r some off ih = ap (λ o. cons_option o (filter_map f some)) (off refl) ∙ ih
mapped_step false f r some off ih = ih

mapped_off : (f : Record → Option Write) (t : Record → Bool) (rows : List Record) → ((r : Record) → t r ≡ true → f r ≡ None) → filter_map f (filter t rows) ≡ []
mapped_off f t [] off = refl
mapped_off f t (r ∷ rows) off = mapped_step (t r) f r (filter t rows) (off r) (mapped_off f t rows off)

later_differs : (x y : List ℕ) → is_before x y ≡ true → same y x ≡ false
later_differs x y e = same-sym_false x y (before_differs x y e)

module _ (rows : List Record) (r : Record) where
  abbrev front : List Record
  front = filter (λ (q : Record). is_before q.name r.name) rows

  abbrev back : List Record
  back = filter (λ (q : Record). is_before r.name q.name) rows

  -- of the records with this one a test keeps this one at most
  pub filtered_alone : (p : Record → Bool) → ((q : Record) → same q.name r.name ≡ false → p q ≡ false) → filter p (with_record rows r) ≡ cond (p r) (r ∷ []) []
  filtered_alone p off =
      let before = filtered_off p (λ (q : Record). is_before q.name r.name) rows (λ q e. off q (before_differs q.name r.name e)) in
      let after = filtered_off p (λ (q : Record). is_before r.name q.name) rows (λ q e. off q (later_differs r.name q.name e)) in
      filter-append p front (r ∷ back) ∙ (λ i. before i ++ cond (p r) (r ∷ after i) (after i))

  -- and a choice writes it at most
  pub mapped_alone : (f : Record → Option Write) → ((q : Record) → same q.name r.name ≡ false → f q ≡ None) → filter_map f (with_record rows r) ≡ cons_option (f r) []
  mapped_alone f off =
      let before = mapped_off f (λ (q : Record). is_before q.name r.name) rows (λ q e. off q (before_differs q.name r.name e)) in
      let after = mapped_off f (λ (q : Record). is_before r.name q.name) rows (λ q e. off q (later_differs r.name q.name e)) in
      filter_map-append f front (r ∷ back) ∙ (λ i. before i ++ cons_option (f r) (after i))

-- ---- no share is new

each_there : (rows : List Record) → IsAscending rows → list_all (λ (s : Record). is_there rows s.name) rows ≡ true
each_there rows ascend = all-found (λ (s : Record). is_there rows s.name) rows ascend
    (λ x r e. subst (λ y. is_there rows y ≡ true) (same-true x r.name (found-name rows x r e)) (there-found rows x ∙ ap is_some e))

new_step : (b t q : Bool) (test : Record → Bool) (s : Record) (some : List Record) → test s ≡ (t && not q) → q ≡ true → list_any test some ≡ false → list_any test (cond b (s ∷ some) some) ≡ false
new_step true t q test s some is there ih = (λ i. is i || ih i) ∙ (λ i. (t && not (there i)) || false) ∙ ap (λ b. b || false) (and-false t)
new_step false t q test s some is there ih = ih

none_new : (t q keeps : Record → Bool) (rows : List Record) → list_all q rows ≡ true → list_any (λ (s : Record). t s && not (q s)) (filter keeps rows) ≡ false
none_new t q keeps [] all = refl
none_new t q keeps (s ∷ rows) all =
    let parts = and_parts (q s) _ all in
    new_step (keeps s) (t s) (q s) (λ (s : Record). t s && not (q s)) s (filter keeps rows) refl parts.0 (none_new t q keeps rows parts.1)

pub no_new_share : (rows : List Record) (r : Record) (x : List ℕ) → IsAscending rows → is_share_of x r ≡ false → list_any (λ (s : Record). is_share_of x s && not (is_there rows s.name)) (with_record rows r) ≡ false
no_new_share rows r x ascend off =
    let test : Record → Bool = λ (s : Record). is_share_of x s && not (is_there rows s.name) in
    let before = none_new (is_share_of x) (λ (s : Record). is_there rows s.name) (λ (q : Record). is_before q.name r.name) rows (each_there rows ascend) in
    let after = none_new (is_share_of x) (λ (s : Record). is_there rows s.name) (λ (q : Record). is_before r.name q.name) rows (each_there rows ascend) in
    list_any-append test (front rows r) (r ∷ back rows r) ∙ (λ i. before i || ((off i && not (is_there rows r.name)) || after i))

-- ---- nothing is removed

none_due : (rows some : List Record) → filter (is_due rows [] []) some ≡ []
none_due rows [] = refl
none_due rows (r ∷ some) = none_due rows some

pub none_reached : (rows : List Record) (n : ℕ) → reached rows [] n ≡ []
none_reached rows zero = refl
none_reached rows (suc n) = ap (due rows []) (none_reached rows n) ∙ ap names_in (none_due rows rows)
