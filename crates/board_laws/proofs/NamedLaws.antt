-- Of which words the names and the GUIDs of operations are made.
use Rattle.std.proofs.Common.{◌≡◌, ℕ, ◌+◌, ◌<◌, ◌≤◌, List, [], ◌∷◌, ◌++◌, length, drop, Bool, true, false, cond, ◌||◌, refl, sym, ap, ◌∙◌, subst, arith, Some, None, Option, inl, inr, slice_get}
use Rattle.std.specs.Prelude.{◌⊎◌, is_some, is_none, not, unwrap_or, get_or, if◌then◌else◌}
use Rattle.std.proofs.lemmas.Bool.{both_ways, and_parts, and_from}
use Rattle.std.proofs.lemmas.Option.{same_Some, slice_get-get_or}
use Rattle.std.proofs.lemmas.List.{drop-drop, get_or-drop}
use Rattle.std.proofs.lemmas.List.Sums.{sum_by-cons, sum_by-append}
use Rattle.ck_base.specs.Names.{lock_of_names}
use Rattle.zone_model.specs.declared.operations.Op.{Op}
use Rattle.zone_model.specs.Requests.{is_create, is_deletion}
use Rattle.zone_model.specs.OpForms.{IsMeantOp}
use Rattle.drawn_names.specs.Drawing.{draws_name, draws_guid, one_if, words_for, words_drawn, name_of_word, guid_of_word, first_word, words_after, named_by, named_ops}
use Rattle.board_laws.specs.Drawn.{IsOfWord, words_taken, IsNameless, GivesRoot, IsDrawnBehind, NamesAreDrawn}
use Rattle.board_laws.proofs.DrawnLaws.{named-length}

-- ---- how many words

pub enough_taken : (ops : List Op) → words_drawn ops ≡ words_taken ops
enough_taken [] = refl
enough_taken (op ∷ ops) = omega (
  arith,
  sum_by-cons words_for op ops,
  sum_by-cons (λ (o : Op). cond (draws_name o) 1 0) op ops,
  sum_by-cons (λ (o : Op). cond (draws_guid o) 1 0) op ops,
  enough_taken ops,
)

-- ---- the words of one operation

first_is : (words : List (List ℕ)) → first_word words ≡ get_or words 0 []
first_is [] = refl
first_is (word ∷ words) = refl

of_word : (make : List ℕ → List ℕ) (words : List (List ℕ)) (n : ℕ) → n < length words → IsOfWord make words n (make (first_word (drop n words)))
of_word make words n within = record {
  word = get_or words n [];
  at = slice_get-get_or words n [] within;
  is = ap make (first_is (drop n words) ∙ get_or-drop n words 0 [] ∙ ap (λ k. get_or words k []) (omega arith));
}

module _ (before : List Op) (op : Op) (words : List (List ℕ)) where
  abbrev its_words : List (List ℕ)
  its_words = drop (words_drawn before) words

  create_by : (c : Bool) (o : Option (List ℕ)) → o ≡ None → (c || is_some o) ≡ true → c ≡ true
  create_by true o none e = refl
  create_by false o none e = sym (ap is_some none) ∙ e

  own_name : (o : Option (List ℕ)) → op.draft.name ≡ o → (is_create op.kind || is_some op.draft.name) ≡ true → words_drawn before + words_for op ≤ length words
      → (op.draft.name ≡ Some (unwrap_or op.draft.name (name_of_word (first_word its_words))))
      ⊎ (IsNameless op × IsOfWord name_of_word words (words_taken before) (unwrap_or op.draft.name (name_of_word (first_word its_words))))
  own_name (Some name) is meant room = inl (is ∙ ap (λ o. Some (unwrap_or o (name_of_word (first_word its_words)))) (sym is))
  own_name None is meant room =
      let create = create_by (is_create op.kind) op.draft.name is meant in
      let draws : draws_name op ≡ true = and_from (is_create op.kind) _ create (ap is_none is) in
      let one : one_if (draws_name op) ≡ 1 = ap one_if draws in
      let word = of_word name_of_word words (words_drawn before) (omega (arith, room, one)) in
      inr (
        record { create = create; none = is },
        subst (λ t. IsOfWord name_of_word words (words_taken before) t) (ap (λ o. unwrap_or o (name_of_word (first_word its_words))) (sym is))
            (subst (λ n. IsOfWord name_of_word words n (name_of_word (first_word its_words))) (enough_taken before) word),
      )

  own_guid : (lock : ℕ) (b : Bool) → draws_guid op ≡ b → words_drawn before + words_for op ≤ length words
      → (GivesRoot op × IsOfWord (guid_of_word lock) words (words_taken before + one_if (draws_name op)) (if b then guid_of_word lock (first_word (drop (one_if (draws_name op)) its_words)) else []))
      ⊎ ((draws_guid op ≡ false) × ((if b then guid_of_word lock (first_word (drop (one_if (draws_name op)) its_words)) else []) ≡ []))
  own_guid lock false is room = inr (is, refl)
  own_guid lock true is room =
      let parts = and_parts (not (is_deletion op.kind)) _ is in
      let one : one_if (draws_guid op) ≡ 1 = ap one_if is in
      let n = words_drawn before + one_if (draws_name op) in
      let word = of_word (guid_of_word lock) words n (omega (arith, room, one)) in
      let behind : first_word (drop n words) ≡ first_word (drop (one_if (draws_name op)) its_words) = ap first_word (sym (drop-drop (one_if (draws_name op)) (words_drawn before) words)) in
      inl (
        record { put = put_by (is_deletion op.kind) parts.0; root = parts.1 },
        subst (λ w. IsOfWord (guid_of_word lock) words (words_taken before + one_if (draws_name op)) (guid_of_word lock w)) behind
            (subst (λ k. IsOfWord (guid_of_word lock) words (k + one_if (draws_name op)) (guid_of_word lock (first_word (drop n words)))) (enough_taken before) word),
      )
    where
      put_by : (b : Bool) → not b ≡ true → b ≡ false
      put_by true e = absurd (both_ways false refl e)
      put_by false e = refl

  drawn_behind : (lock : ℕ) → IsMeantOp op → words_drawn before + words_for op ≤ length words → IsDrawnBehind lock before op words (named_by lock (op, its_words))
  drawn_behind lock meant room = record {
    kind = refl;
    draft = refl;
    name = own_name op.draft.name refl meant.named room;
    guid = own_guid lock (draws_guid op) refl room;
  }

-- ---- among the others

named_at : (lock : ℕ) (before after : List Op) (op : Op) (words : List (List ℕ))
    → slice_get (named_ops lock (before ++ op ∷ after) words) (length before) ≡ Some (named_by lock (op, drop (words_drawn before) words))
named_at lock [] after op words = refl
named_at lock (b ∷ before) after op words =
    named_at lock before after op (words_after b words)
    ∙ ap (λ ws. Some (named_by lock (op, ws))) (drop-drop (words_drawn before) (words_for b) words ∙ ap (λ n. drop n words) (sym (sum_by-cons words_for b before)))

room_for : (before after : List Op) (op : Op) (n : ℕ) → words_drawn (before ++ op ∷ after) ≤ n → words_drawn before + words_for op ≤ n
room_for before after op n few = omega (arith, few, sum_by-append words_for before (op ∷ after), sum_by-cons words_for op after)

pub names_drawn : NamesAreDrawn
names_drawn = record {
  count = λ key ops words. named-length (lock_of_names key.owner key.zone) ops words;
  enough = enough_taken;
  each = λ key before after op words named meant few at.
      let lock = lock_of_names key.owner key.zone in
      subst (IsDrawnBehind lock before op words) (same_Some _ named (sym (named_at lock before after op words) ∙ at))
      (drawn_behind before op words lock meant (room_for before after op (length words) few));
}
