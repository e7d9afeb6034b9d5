-- The fields that a draft gives, and the first record that it describes.
use Rattle.std.proofs.Common.{◌≡◌, ℕ, ◌<◌, ◌≤◌, ◌^◌, ◌-◌, List, [], ◌∷◌, ◌++◌, Bool, true, false, cond, not, ◌||◌, refl, sym, ap, ◌∙◌, arith, Some, None, Option, map, append-nil, append_assoc}
use Rattle.std.specs.Prelude.{filter, min, nat_lt, unwrap_or, is_none, if◌then◌else◌}
use Rattle.std.specs.List.{list_all, cons_option}
use Rattle.std.proofs.lemmas.Bool.{and_parts, and_from, lt-ltb, le-ltb}
use Rattle.ck_base.specs.Order.{is_before, are_ascending}
use Rattle.record_model.specs.declared.value.Value.{Value}
use Rattle.record_model.specs.declared.draft.Draft.{Draft}
use Rattle.record_model.specs.declared.records.Record.{Record}
use Rattle.record_model.specs.DraftForms.{AreWishes}
use Rattle.record_model.specs.RecordSizes.{size_of_record}
use Rattle.zone_model.specs.Limits.{most_record_size}
use Rattle.zone_model.specs.Names.{same}
use Rattle.zone_model.specs.Putting.{after_wish, after_wishes}
use Rattle.plain_creates.specs.PlainCreates.{drafted_record, created_record, is_too_large}
use Rattle.zone_laws.proofs.NameLaws.{before-asym, same-sym_false}
use Rattle.zone_laws.proofs.RecordLaws.{before_differs}
use Rattle.zone_board.specs.Creations.{given_field, given_fields, first_of_type, first_record}

-- ---- fields

abbrev Field : Type 0
Field = List ℕ × Value

abbrev Wish : Type 0
Wish = List ℕ × Option Value

-- the name stands after those of all the fields
abbrev are_before : List Field → List ℕ → Bool
are_before fields x = list_all (λ (f : Field). is_before f.0 x) fields

all_pass : (t : Field → Bool) (fields : List Field) → list_all t fields ≡ true → filter t fields ≡ fields
all_pass t [] all = refl
all_pass t (f ∷ fields) all =
    let parts = and_parts (t f) _ all in
    ap (λ b. cond b (f ∷ filter t fields) (filter t fields)) parts.0 ∙ ap (λ fs. f ∷ fs) (all_pass t fields parts.1)

none_pass : (t u : Field → Bool) (fields : List Field) → ((f : Field) → u f ≡ true → t f ≡ false) → list_all u fields ≡ true → filter t fields ≡ []
none_pass t u [] off all = refl
none_pass t u (f ∷ fields) off all =
    let parts = and_parts (u f) _ all in
    ap (λ b. cond b (f ∷ filter t fields) (filter t fields)) (off f parts.0) ∙ none_pass t u fields off parts.1

all_weaker : (t u : Field → Bool) (fields : List Field) → ((f : Field) → u f ≡ true → t f ≡ true) → list_all u fields ≡ true → list_all t fields ≡ true
all_weaker t u [] on all = refl
all_weaker t u (f ∷ fields) on all = let parts = and_parts (u f) _ all in and_from (t f) _ (on f parts.0) (all_weaker t u fields on parts.1)

-- a wish whose name stands after those of all fields adds its field at the end, if it gives one
one_given : (fields : List Field) (x : List ℕ) (o : Option Value) → are_before fields x ≡ true → after_wish fields (x, o) ≡ fields ++ cons_option (given_field (x, o)) []
one_given fields x None low =
    all_pass (λ (g : Field). not (same x g.0)) fields (all_weaker (λ (g : Field). not (same x g.0)) (λ (g : Field). is_before g.0 x) fields (λ f e. ap not (same-sym_false f.0 x (before_differs f.0 x e))) low)
    ∙ sym (append-nil fields)
one_given fields x (Some v) low = λ i.
    all_pass (λ (g : Field). is_before g.0 x) fields low i
    ++ (x, v) ∷ none_pass (λ (g : Field). is_before x g.0) (λ (g : Field). is_before g.0 x) fields (λ f e. before-asym f.0 x e) low i

-- the fields and those that the wish gives stand before whatever stands after the wish
still_before : (fields : List Field) (w : Wish) (x : List ℕ) → are_before fields x ≡ true → is_before w.0 x ≡ true → are_before (fields ++ cons_option (given_field w) []) x ≡ true
still_before [] (y, None) x low one = refl
still_before [] (y, Some v) x low one = and_from (is_before y x) _ one refl
still_before (f ∷ fields) w x low one = let parts = and_parts (is_before f.0 x) _ low in and_from (is_before f.0 x) _ parts.0 (still_before fields w x parts.1 one)

abbrev names_of : List Wish → List (List ℕ)
names_of wishes = map (λ (wish : Wish). wish.0) wishes

abbrev all_before : List Field → List Wish → Bool
all_before fields wishes = list_all (are_before fields) (names_of wishes)

all_still_before : (fields : List Field) (w : Wish) (wishes : List Wish) → all_before fields wishes ≡ true → list_all (is_before w.0) (names_of wishes) ≡ true → all_before (fields ++ cons_option (given_field w) []) wishes ≡ true
all_still_before fields w [] low ones = refl
all_still_before fields w (v ∷ wishes) low ones =
    let lows = and_parts (are_before fields v.0) _ low in
    let parts = and_parts (is_before w.0 v.0) _ ones in
    and_from (are_before (fields ++ cons_option (given_field w) []) v.0) _ (still_before fields w v.0 lows.0 parts.0) (all_still_before fields w wishes lows.1 parts.1)

joined : (fields : List Field) (o : Option Field) (rest : List Field) → (fields ++ cons_option o []) ++ rest ≡ fields ++ cons_option o rest
joined fields None rest = ap (λ fs. fs ++ rest) (append-nil fields)
joined fields (Some f) rest = append_assoc fields (f ∷ []) rest

given_after : (fields : List Field) (wishes : List Wish) → all_before fields wishes ≡ true → are_ascending (names_of wishes) ≡ true → after_wishes fields wishes ≡ fields ++ given_fields wishes
given_after fields [] low ascend = sym (append-nil fields)
given_after fields (w ∷ wishes) low ascend =
    let lows = and_parts (are_before fields w.0) _ low in
    let parts = and_parts (list_all (is_before w.0) (names_of wishes)) _ ascend in
    ap (λ fs. after_wishes fs wishes) (one_given fields w.0 w.1 lows.0)
    ∙ given_after (fields ++ cons_option (given_field w) []) wishes (all_still_before fields w wishes lows.1 parts.0) parts.1
    ∙ joined fields (given_field w) (given_fields wishes)

all_after_none : (names : List (List ℕ)) → list_all (are_before []) names ≡ true
all_after_none [] = refl
all_after_none (x ∷ names) = all_after_none names

-- wishes in order of their names leave what they give, in order
pub given : (wishes : List Wish) → AreWishes wishes → after_wishes [] wishes ≡ given_fields wishes
given wishes are = given_after [] wishes (all_after_none (names_of wishes)) are.1

-- ---- the first record

module _ (user : List ℕ) (moment : ℕ) (name rtype : List ℕ) (d : Draft) (row : Record) (typed : d.rtype ≡ Some rtype) (are : AreWishes d.fields)
    (wishes : List Wish) (same_wishes : wishes ≡ d.fields) (is : row ≡ first_of_type user moment name rtype (given_fields wishes)) where
  created_is : created_record user moment (λ _. 0) name d ≡ row
  created_is = (λ i. first_of_type user moment name (unwrap_or (typed i) []) (given d.fields are i)) ∙ ap (λ ws. first_of_type user moment name rtype (given_fields ws)) (sym same_wishes) ∙ sym is

  size_is : size_of_record (drafted_record name d) ≡ size_of_record row
  size_is = ap size_of_record created_is

  first_by : (large : Bool) → is_too_large d ≡ large → first_record user moment name d ≡ (if large then None else Some row)
  first_by large e i = if is_none (typed i) || e i then None else Some (created_is i)

  pub too_large : (size : ℕ) → size ≡ min (size_of_record row) (2 ^ 64 - 1) → most_record_size < size → None ≡ first_record user moment name d
  too_large size told over = sym (first_by true (ap (nat_lt most_record_size) size_is ∙ lt-ltb most_record_size (size_of_record row) (omega arith)))

  pub is_first : (size : ℕ) → size ≡ min (size_of_record row) (2 ^ 64 - 1) → size ≤ most_record_size → Some row ≡ first_record user moment name d
  is_first size told within = sym (first_by false (ap (nat_lt most_record_size) size_is ∙ le-ltb most_record_size (size_of_record row) (omega arith)))
