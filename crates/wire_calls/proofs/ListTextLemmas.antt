-- What is read of the text of a list.
use Rattle.std.proofs.Common.{◌≡◌, ◌≤◌, ℕ, suc, max, false, List, [], ◌∷◌, map, length, take, drop, get_or, slice_get, ◌<◌, ◌+◌, ◌++◌, nat_lt, true, Bool, subst, Option, Some, option_and_then, refl, sym, ap, ap₂, ◌∙◌, append-nil, arith}
use Rattle.std.specs.Prelude.{remove, IfOk, Result, Ok, Err}
use Rattle.std.specs.List.{AllByRecursion}
use Rattle.std.proofs.lemmas.Bool.{or_parts, lt-ltb}
use Rattle.std.proofs.lemmas.List.{append_assoc, drop_more, take_more}
use Rattle.json.specs.Token.{Token}
use Rattle.json.specs.Lex.{tokens}
use Rattle.json.specs.Json as json
use Rattle.json.specs.Tree as tree
use Rattle.json.proofs.Printed.Tokens.{tokens-print}
use Rattle.json.proofs.Printed.Trees.{value-json_tokens, ArePrintable-json_tokens}
use Rattle.json.proofs.Numbered.{value-HasNumbers, ArePrintableOrBad-tokens}
use Rattle.serde_json.specs.Data.{Data, null, boolean, number, string, array, object, Items, no_items, item, Members, no_members, member, depth, items_depth, members_depth}
use Rattle.serde_json.specs.Read.{read, of_json, of_items, max_depth}
use Rattle.serde_json.specs.View.{items_of}
use Rattle.serde_json.specs.Written.{outline, items_outline, members_outline, has_float, items_have_float, compact_text, items_text, comma_if}
use Rattle.serde_json.proofs.Texts.{tokens_from_order, print-outline}
use Rattle.wire_calls.specs.Lists.{list_data, IsRead}

-- ---- JSON nests as deep as its tree

mutual
  outline_depth : (d : Data) → tree.depth (outline d) ≡ depth d
  outline_depth null = refl
  outline_depth (boolean b) = refl
  outline_depth (number n) = refl
  outline_depth (string s) = refl
  outline_depth (array ds) = ap suc (items_outline_depth ds)
  outline_depth (object ms) = ap suc (members_outline_depth ms)

  items_outline_depth : (ds : Items) → tree.items_depth (items_outline ds) ≡ items_depth ds
  items_outline_depth no_items = refl
  items_outline_depth (item d ds) = ap₂ max (outline_depth d) (items_outline_depth ds)

  members_outline_depth : (ms : Members) → tree.members_depth (members_outline ms) ≡ members_depth ms
  members_outline_depth no_members = refl
  members_outline_depth (member k d ms) = ap₂ max (outline_depth d) (members_outline_depth ms)

-- ---- a text with the tokens of the tree

-- the tree has numbers, and is read as the JSON
abbrev IsTold : Data → Type 0
IsTold d = tree.HasNumbers (outline d) × (of_json (outline d) ≡ Some d)

abbrev whole : Option (json.Json × List Token) → Option Data
whole o = option_and_then of_json (option_and_then (λ p. json.if_last p.0 p.1) o)

parsed : (d : Data) (text : List ℕ) → tokens text ≡ tree.json_tokens (outline d) → depth d ≤ max_depth → json.value max_depth (tokens text) ≡ Some (outline d, [])
parsed d text same shallow =
    ap (json.value max_depth) (same ∙ sym (append-nil (tree.json_tokens (outline d)))) ∙ value-json_tokens (outline d) max_depth [] (omega (arith, outline_depth d))

told : (d : Data) → IsRead d → has_float d ≡ false → depth d ≤ max_depth → IsTold d
told d is no_float shallow =
    let found = parsed d (compact_text d) (tokens_from_order (compact_text d) d is.in_order no_float) shallow in
    (value-HasNumbers max_depth (tokens (compact_text d)) [] (outline d) (ArePrintableOrBad-tokens (compact_text d)) found, sym (ap whole found) ∙ is.reads shallow)

read_told : (d : Data) → IsTold d → depth d ≤ max_depth → read (compact_text d) ≡ Some d
read_told d is shallow =
    let same : tokens (compact_text d) ≡ tree.json_tokens (outline d) = ap tokens (sym (print-outline d)) ∙ tokens-print (tree.json_tokens (outline d)) (ArePrintable-json_tokens (outline d) is.0) in
    ap whole (parsed d (compact_text d) same shallow) ∙ is.1

-- ---- lists

items_told : (ds : List Data) → AllByRecursion IsRead ds → items_have_float (items_of ds) ≡ false → items_depth (items_of ds) ≤ max_depth
    → tree.ItemsHaveNumbers (items_outline (items_of ds)) × (of_items (items_outline (items_of ds)) ≡ Some (items_of ds))
items_told [] all no_float shallow = (tt, refl)
items_told (d ∷ ds) all no_float shallow =
    let no_floats = or_parts (has_float d) _ no_float in
    let one = told d all.0 no_floats.0 (omega (arith, shallow)) in
    let others = items_told ds all.1 no_floats.1 (omega (arith, shallow)) in
    ((one.0, others.0), rw (one.1, others.1) refl)

-- the text of a list alone is read as it, where that of each entry is
pub list_read : (name : List ℕ) (ds : List Data) → AllByRecursion IsRead ds → has_float (list_data name ds) ≡ false → depth (list_data name ds) ≤ max_depth
    → read (compact_text (list_data name ds)) ≡ Some (list_data name ds)
list_read name ds all no_float shallow =
    let no_floats = or_parts (items_have_float (items_of ds)) false no_float in
    let items = items_told ds all no_floats.0 (omega (arith, shallow)) in
    read_told (list_data name ds) ((items.0, tt), rw items.1 refl) shallow

-- the first entry is taken out, and its JSON made
pub taken : {T A E : Type 0} (seen : A → Data) (write : T → Data) (xs rest : List T) (x : T) (answer : Result A E) → slice_get xs 0 ≡ Some x → rest ≡ remove xs 0
    → IfOk answer (λ a. seen a ≡ write x) → IfOk answer (λ a. map write xs ≡ seen a ∷ map write rest)
taken seen write [] rest x (Ok a) got is_rest is = absurd (cc got)
taken seen write (y ∷ xs) rest x (Ok a) got is_rest is =
    let here : y ≡ x = cc got in
    ap₂ (λ d ds. d ∷ ds) (ap write here ∙ sym is) (ap (map write) (sym is_rest))
taken seen write xs rest x (Err fault) got is_rest is = tt

-- ---- one entry more is written

all_more : (P : Data → Type 0) (xs : List Data) (d : Data) → AllByRecursion P xs → P d → AllByRecursion P (xs ++ d ∷ [])
all_more P [] d all is = (is, tt)
all_more P (x ∷ xs) d all is = (all.0, all_more P xs d all.1 is)

module _ (xs : List Data) (i : ℕ) (d : Data) (es : List Data) (within : i < length xs) (left : d ∷ es ≡ drop i xs) where
  at_front : d ∷ es ≡ get_or xs i d ∷ drop (i + 1) xs
  at_front = left ∙ drop_more xs i d within

  pub left_more : es ≡ drop (i + 1) xs
  left_more = cc at_front

  pub read_more : AllByRecursion IsRead (take i xs) → IsRead d → AllByRecursion IsRead (take (i + 1) xs)
  read_more all is =
      let same : d ≡ get_or xs i d = cc at_front in
      subst (AllByRecursion IsRead) (sym (take_more xs i d within)) (all_more IsRead (take i xs) (get_or xs i d) all (subst IsRead same is))

pub text_more : (so_far now whole : List ℕ) (ds : List Data) (i : ℕ) (d : Data) (es : List Data) → so_far ++ items_text (nat_lt 0 i) (items_of ds) ≡ whole → ds ≡ d ∷ es
    → now ≡ so_far ++ (comma_if (nat_lt 0 i) ++ compact_text d) → now ++ items_text (nat_lt 0 (i + 1)) (items_of es) ≡ whole
text_more so_far now whole ds i d es is left more =
    let comma = comma_if (nat_lt 0 i) in
    let rest = items_text true (items_of es) in
    let later : nat_lt 0 (i + 1) ≡ true = lt-ltb 0 (i + 1) (omega arith) in
    let as_one : so_far ++ (comma ++ (compact_text d ++ rest)) ≡ whole = ap (λ (ds : List Data). so_far ++ items_text (nat_lt 0 i) (items_of ds)) (sym left) ∙ is in
    ap (λ b. now ++ items_text b (items_of es)) later ∙ ap (λ x. x ++ rest) more ∙ append_assoc so_far (comma ++ compact_text d) rest
    ∙ ap (λ x. so_far ++ x) (append_assoc comma (compact_text d) rest) ∙ as_one
