-- The fields that a request gives, one after another.
use Rattle.std.proofs.Common.{◌≡◌, ℕ, List, [], ◌∷◌, ◌++◌, length, map, Bool, true, false, ◌==◌, nat_lt, Option, None, Some, String, Global, string_bytes, Less, refl, sym, ap, ◌∙◌, append_assoc, append-nil}
use Rattle.std.specs.Prelude.{Result, Ok, Err, if◌then◌else◌, ok_or}
use Rattle.std.specs.Result.{result_ok}
use Rattle.std.specs.List.{AllByRecursion, list_all}
use Rattle.std.specs.List.Sorted.{IsStrictlySortedBy}
use Rattle.std.specs.Map.{keys_of}
use Rattle.std.specs.String.{string_cmp}
use Rattle.std.specs.Ordering.{is_lt}
use Rattle.std.proofs.lemmas.Bool.{and_from}
use Rattle.serde_json.specs.Data.{Data}
use Rattle.serde_json.specs.View.{view, members_view}
use Rattle.serde_json.specs.declared.value.Value.{Value as Json}
use Rattle.ck_base.specs.Names.{first_outside}
use Rattle.ck_base.specs.Reading.{unless_outside, name_of}
use Rattle.ck_base.specs.declared.name.NameFault.{NameFault}
use Rattle.ck_base.specs.declared.name.NameFault.TheVariants.{Empty, TooLong}
use Rattle.ck_base.specs.declared.key.ZoneKey.{ZoneKey}
use Rattle.field_values.specs.declared.fault.FieldFault.{FieldFault}
use Rattle.record_model.specs.declared.value.Value.{Value}
use Rattle.field_values.specs.Reading.{field_of}
use Rattle.field_values.specs.Results.{result_map, result_and_then, each_or_first_error}
use Rattle.ck_records.specs.declared.fault.RecordFault.{RecordFault}
use Rattle.ck_records.specs.declared.fault.RecordFault.TheVariants.{BadKey}
use Rattle.ck_records.specs.declared.fault.RecordKey.TheVariants.{Fields}
use Rattle.ck_base.specs.Order.{is_before, are_ascending}
use Rattle.ck_records.specs.DraftFields.{entries, in_field, wish_of}

abbrev pub Entry : Type 0
Entry = String Global × Json

abbrev pub Wish : Type 0
Wish = List ℕ × Option Value

abbrev pub seen : Entry → List ℕ × Data
seen e = (string_bytes e.0, view e.1)

behind_more : {A E : Type 0} (done : List A) (x : A) (rest : Result (List A) E)
    → result_map (λ xs. done ++ xs) (result_map (λ xs. x ∷ xs) rest) ≡ result_map (λ xs. (done ++ x ∷ []) ++ xs) rest
behind_more done x (Ok xs) = ap Ok (sym (append_assoc done (x ∷ []) xs))
behind_more done x (Err e) = refl

-- a member was read that stands next
pub wish_read : {A E : Type 0} (read : List ℕ × Data → Result A E) (all : Result (List A) E) (e : Entry) (now left : List Entry) (done more : List A) (x : A) (name : List ℕ)
    → now ≡ e ∷ left → name ≡ string_bytes e.0 → Ok x ≡ read (name, view e.1) → more ≡ done ++ x ∷ []
    → all ≡ result_map (λ rest. done ++ rest) (each_or_first_error read (entries (members_view now)))
    → all ≡ result_map (λ rest. more ++ rest) (each_or_first_error read (entries (members_view left)))
wish_read read all e now left done more x name first named is pushed so_far =
    let later = each_or_first_error read (entries (members_view left)) in
    let was : read (seen e) ≡ Ok x = ap (λ n. read (n, view e.1)) (sym named) ∙ sym is in
    so_far ∙ ap (λ es. result_map (λ rest. done ++ rest) (each_or_first_error read (entries (members_view es)))) first
    ∙ ap (λ r. result_map (λ rest. done ++ rest) (result_and_then (λ y. result_map (λ ys. y ∷ ys) later) r)) was
    ∙ behind_more done x later ∙ ap (λ xs. result_map (λ rest. xs ++ rest) later) (sym pushed)

-- ---- the fields ascend as the members do

pub name_kept : (bytes name : List ℕ) → name_of bytes ≡ Ok name → name ≡ bytes
name_kept bytes name e = by (length bytes == 0) (nat_lt 255 (length bytes)) (first_outside bytes) e where
  by : (none long : Bool) (outside : Option ℕ) → (if none then Err Empty else (if long then Err (TooLong (length bytes)) else unless_outside bytes outside)) ≡ Ok name → name ≡ bytes
  by true long outside e = absurd (cc e)
  by false true outside e = absurd (cc e)
  by false false None e = cc e
  by false false (Some at) e = absurd (cc e)

-- what was read has the name of the member
wish_named : (here : ZoneKey) (caller : List ℕ) (entry : List ℕ × Data) (w : Wish) → wish_of here caller entry ≡ Ok w → w.0 ≡ entry.0
wish_named here caller entry w e = by (name_of entry.0) (field_of here caller entry.1) refl e where
  by : (name : Result (List ℕ) NameFault) (field : Result (Option Value) FieldFault) → name_of entry.0 ≡ name
      → result_and_then (λ n. result_and_then (λ v. Ok (n, v)) (in_field n field)) (ok_or (result_ok name) (BadKey Fields)) ≡ Ok w → w.0 ≡ entry.0
  by (Ok n) (Ok v) is e = let same : n ≡ w.0 = cc e in sym same ∙ name_kept entry.0 n is
  by (Ok n) (Err fault) is e = absurd (cc e)
  by (Err fault) field is e = absurd (cc e)

wishes_named : (here : ZoneKey) (caller : List ℕ) (es : List (List ℕ × Data)) (ws : List Wish) → each_or_first_error (wish_of here caller) es ≡ Ok ws
    → map (λ (w : Wish). w.0) ws ≡ map (λ (e : List ℕ × Data). e.0) es
wishes_named here caller [] ws e = let none : [] ≡ ws = cc e in ap (λ xs. map (λ (w : Wish). w.0) xs) (sym none)
wishes_named here caller (x ∷ xs) ws e = by (wish_of here caller x) (each_or_first_error (wish_of here caller) xs) refl refl e (wishes_named here caller xs) where
  by : (first : Result Wish RecordFault) (rest : Result (List Wish) RecordFault) → wish_of here caller x ≡ first → each_or_first_error (wish_of here caller) xs ≡ rest
      → result_and_then (λ y. result_map (λ ys. y ∷ ys) rest) first ≡ Ok ws
      → ((ys : List Wish) → each_or_first_error (wish_of here caller) xs ≡ Ok ys → map (λ (w : Wish). w.0) ys ≡ map (λ (e : List ℕ × Data). e.0) xs)
      → map (λ (w : Wish). w.0) ws ≡ x.0 ∷ map (λ (e : List ℕ × Data). e.0) xs
  by (Ok y) (Ok ys) is later e more = let all : y ∷ ys ≡ ws = cc e in ap (λ zs. map (λ (w : Wish). w.0) zs) (sym all)
      ∙ ap (λ n. n ∷ map (λ (w : Wish). w.0) ys) (wish_named here caller x y is) ∙ ap (λ ns. x.0 ∷ ns) (more ys later)
  by (Ok y) (Err fault) is later e more = absurd (cc e)
  by (Err fault) rest is later e more = absurd (cc e)

all_after : (k : String Global) (es : List Entry) → AllByRecursion (λ y. string_cmp k y ≡ Less) (keys_of es) → list_all (is_before (string_bytes k)) (map (λ (e : List ℕ × Data). e.0) (entries (members_view es))) ≡ true
all_after k [] h = refl
all_after k (e ∷ es) h = and_from (is_before (string_bytes k) (string_bytes e.0)) _ (ap is_lt h.0) (all_after k es h.1)

members_ascend : (es : List Entry) → IsStrictlySortedBy string_cmp (keys_of es) → are_ascending (map (λ (e : List ℕ × Data). e.0) (entries (members_view es))) ≡ true
unfolding IsStrictlySortedBy
members_ascend [] h = refl
members_ascend (e ∷ es) h = and_from (list_all (is_before (string_bytes e.0)) (map (λ (x : List ℕ × Data). x.0) (entries (members_view es)))) _ (all_after e.0 es h.0) (members_ascend es h.1)

-- the members of an object ascend, and so do the fields that they are
pub wishes_ascend : (here : ZoneKey) (caller : List ℕ) (es left : List Entry) (ws : List Wish) → IsStrictlySortedBy string_cmp (keys_of es) → left ≡ []
    → each_or_first_error (wish_of here caller) (entries (members_view es)) ≡ result_map (λ rest. ws ++ rest) (each_or_first_error (wish_of here caller) (entries (members_view left)))
    → are_ascending (map (λ (w : Wish). w.0) ws) ≡ true
wishes_ascend here caller es left ws sorted done so_far =
    let all : each_or_first_error (wish_of here caller) (entries (members_view es)) ≡ Ok ws =
    so_far ∙ ap (λ xs. result_map (λ rest. ws ++ rest) (each_or_first_error (wish_of here caller) (entries (members_view xs)))) done ∙ ap Ok (append-nil ws) in
    ap are_ascending (wishes_named here caller (entries (members_view es)) ws all) ∙ members_ascend es sorted
