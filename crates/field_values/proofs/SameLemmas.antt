-- Two pieces of JSON are the same where their texts are.
use Rattle.std.proofs.Common.{◌≡◌, ℕ, suc, max, ◌≤◌, List, [], false, Option, Some, option_map, refl, sym, ap, subst, ◌∙◌, arith, append-nil}
use Rattle.json.specs.Token.{Token}
use Rattle.json.specs.Json as json
use Rattle.json.specs.Tree as tree
use Rattle.json.proofs.Printed.Trees.{value-json_tokens}
use Rattle.serde_json.specs.Data.{Data, null, boolean, number, string, array, object, Items, no_items, item, Members, no_members, member, depth, items_depth, members_depth}
use Rattle.serde_json.specs.Read.{read, max_depth}
use Rattle.serde_json.specs.Written.{outline, items_outline, members_outline, blank, blank_items, blank_members, has_float, compact_text, IsInOrder}
use Rattle.field_values.specs.Exact.{IsExact}

-- ---- a text tells how deep its JSON nests

mutual
  depth-outline : (d : Data) → tree.depth (outline d) ≡ depth d
  depth-outline null = refl
  depth-outline (boolean b) = refl
  depth-outline (number n) = refl
  depth-outline (string s) = refl
  depth-outline (array ds) = ap suc (items_depth-outline ds)
  depth-outline (object ms) = ap suc (members_depth-outline ms)

  items_depth-outline : (ds : Items) → tree.items_depth (items_outline ds) ≡ items_depth ds
  items_depth-outline no_items = refl
  items_depth-outline (item d ds) = rw (depth-outline d, items_depth-outline ds) refl

  members_depth-outline : (ms : Members) → tree.members_depth (members_outline ms) ≡ members_depth ms
  members_depth-outline no_members = refl
  members_depth-outline (member k d ms) = rw (depth-outline d, members_depth-outline ms) refl

mutual
  depth-blank : (j : json.Json) → tree.depth (blank j) ≡ tree.depth j
  depth-blank json.null = refl
  depth-blank (json.boolean b) = refl
  depth-blank (json.number s) = refl
  depth-blank (json.string s) = refl
  depth-blank (json.array js) = ap suc (items_depth-blank js)
  depth-blank (json.object ms) = ap suc (members_depth-blank ms)

  items_depth-blank : (js : json.Items) → tree.items_depth (blank_items js) ≡ tree.items_depth js
  items_depth-blank json.no_items = refl
  items_depth-blank (json.item j js) = rw (depth-blank j, items_depth-blank js) refl

  members_depth-blank : (ms : json.Members) → tree.members_depth (blank_members ms) ≡ tree.members_depth ms
  members_depth-blank json.no_members = refl
  members_depth-blank (json.member k j ms) = rw (depth-blank j, members_depth-blank ms) refl

-- the value that tokens begin with
abbrev first_value : ℕ → List Token → Option json.Json
first_value most ts = option_map (λ (p : json.Json × List Token). p.0) (json.value most ts)

reads_first : (j : json.Json) (most : ℕ) → tree.depth j ≤ most → first_value most (tree.json_tokens j) ≡ Some j
reads_first j most within = ap (first_value most) (sym (append-nil (tree.json_tokens j))) ∙ ap (option_map (λ (p : json.Json × List Token). p.0)) (value-json_tokens j most [] within)

same_tokens : (j k : json.Json) → tree.json_tokens j ≡ tree.json_tokens k → j ≡ k
same_tokens j k same =
    let most = max (tree.depth j) (tree.depth k) in
    cc (reads_first j most (omega arith), reads_first k most (omega arith), ap (first_value most) same)

same_depth : (text : List ℕ) (a b : Data) → IsInOrder text a → IsInOrder text b → depth a ≡ depth b
same_depth text a b (j, tokens_j, blank_j) (k, tokens_k, blank_k) =
    sym (depth-outline a) ∙ ap tree.depth (sym blank_j) ∙ depth-blank j ∙ ap tree.depth (same_tokens j k (sym tokens_j ∙ tokens_k))
    ∙ sym (depth-blank k) ∙ ap tree.depth blank_k ∙ depth-outline b

-- ---- texts of JSON

-- what the text of a piece of JSON tells
pub record IsTextOf (text : List ℕ) (d : Data) : Type 0 where
  pub exact : has_float d ≡ false → text ≡ compact_text d
  pub order : IsInOrder text d
  pub reads : depth d ≤ max_depth → read text ≡ Some d

pub same_from_texts : (s t : List ℕ) (a b : Data) → IsTextOf s a → IsTextOf t b → IsExact b → s ≡ t → a ≡ b
same_from_texts s t a b of_a of_b is same =
    let deep : depth a ≡ depth b = same_depth t a b (subst (λ text. IsInOrder text a) same of_a.order) of_b.order in
    let one : read s ≡ Some a = of_a.reads (omega (arith, deep, is.shallow)) in
    cc (one, of_b.reads is.shallow, ap read same)

pub texts_from_same : (s t : List ℕ) (a b : Data) → IsTextOf s a → IsTextOf t b → IsExact b → a ≡ b → s ≡ t
texts_from_same s t a b of_a of_b is same = of_a.exact (ap has_float same ∙ is.whole) ∙ ap compact_text same ∙ sym (of_b.exact is.whole)
