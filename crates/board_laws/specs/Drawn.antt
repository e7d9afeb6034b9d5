-- Of which words the names and the GUIDs of operations are made.
use Rattle.std.specs.Prelude.{◌≡◌, ◌≤◌, ◌⊎◌, ℕ, ◌+◌, true, false, List, [], ◌∷◌, ◌++◌, length, count_by, slice_get, None, Some, is_some}
use Rattle.ck_base.specs.Names.{lock_of_names}
use Rattle.ck_base.specs.declared.key.ZoneKey.{ZoneKey}
use Rattle.zone_model.specs.declared.operations.Op.{Op}
use Rattle.zone_model.specs.Requests.{NamedOp, is_create, is_deletion}
use Rattle.zone_model.specs.OpForms.{IsMeantOp}
use Rattle.drawn_names.specs.Drawing.{draws_name, draws_guid, one_if, words_drawn, name_of_word, guid_of_word}
use Rattle.board_model.specs.Asks.{ops_at}

-- the word at that place makes the text
pub record IsOfWord (make : List ℕ → List ℕ) (words : List (List ℕ)) (place : ℕ) (text : List ℕ) : Type 0 where
  pub word : List ℕ
  pub at : slice_get words place ≡ Some word
  pub is : text ≡ make word

-- as many words as operations take: one for each that draws a name, and one for each that draws a GUID
abbrev pub words_taken : List Op → ℕ
words_taken ops = count_by draws_name ops + count_by draws_guid ops

-- a create without a name
pub record IsNameless (op : Op) : Type 0 where
  pub create : is_create op.kind ≡ true
  pub none : op.draft.name ≡ None

-- a put that gives a root
pub record GivesRoot (op : Op) : Type 0 where
  pub put : is_deletion op.kind ≡ false
  pub root : is_some op.draft.for_root ≡ true

-- Behind what the operations before it take, the words are its own: the first is that of its name, if it has none, and the next that of its
-- GUID. It keeps its kind and its draft.
pub record IsDrawnBehind (lock : ℕ) (before : List Op) (op : Op) (words : List (List ℕ)) (named : NamedOp) : Type 0 where
  pub kind : named.kind ≡ op.kind
  pub draft : named.draft ≡ op.draft
  pub name : (op.draft.name ≡ Some named.name) ⊎ (IsNameless op × IsOfWord name_of_word words (words_taken before) named.name)
  pub guid : (GivesRoot op × IsOfWord (guid_of_word lock) words (words_taken before + one_if (draws_name op)) named.guid)
      ⊎ ((draws_guid op ≡ false) × (named.guid ≡ []))

-- The operations of a part at a lock, once names and GUIDs are drawn, are as many as are given, in their order, and each is named by itself or by its
-- own word, where the words are enough.
pub record NamesAreDrawn : Type 0 where
  pub count : (key : ZoneKey) (ops : List Op) (words : List (List ℕ)) → length (ops_at key ops words) ≡ length ops
  pub enough : (ops : List Op) → words_drawn ops ≡ words_taken ops
  pub each : (key : ZoneKey) (before after : List Op) (op : Op) (words : List (List ℕ)) (named : NamedOp)
      → IsMeantOp op → words_drawn (before ++ op ∷ after) ≤ length words
      → slice_get (ops_at key (before ++ op ∷ after) words) (length before) ≡ Some named
      → IsDrawnBehind (lock_of_names key.owner key.zone) before op words named
