-- What random words are drawn for: the names of new records, and the GUIDs of new shares.
-- A name is a random UUID of RFC 9562, section 5.4, in its text form; a GUID is this project's own.
use Rattle.std.specs.Prelude.{ℕ, Bool, ◌+◌, ◌&&◌, List, [], ◌∷◌, not, is_none, is_some, unwrap_or, drop, map, sum_by, if◌then◌else◌}
use Rattle.uuid.specs.declared.Variant.TheVariants.{RFC4122}
use Rattle.uuid.specs.declared.Version.TheVariants.{Random}
use Rattle.uuid.specs.Parts.{with_variant, with_version}
use Rattle.uuid.specs.Text.{hex_digit, lower, simple_text, hyphenated_text}
use Rattle.zone_model.specs.declared.operations.Op.{Op}
use Rattle.zone_model.specs.Requests.{NamedOp, is_create, is_deletion}

-- a create without a name draws one
abbrev pub draws_name : Op → Bool
draws_name op = is_create op.kind && is_none op.draft.name

-- a put that gives a root draws a GUID
abbrev pub draws_guid : Op → Bool
draws_guid op = not (is_deletion op.kind) && is_some op.draft.for_root

abbrev pub one_if : Bool → ℕ
one_if b = if b then 1 else 0

-- how many words an operation draws: one for a name, then one for a GUID
abbrev pub words_for : Op → ℕ
words_for op = one_if (draws_name op) + one_if (draws_guid op)

abbrev pub words_drawn : List Op → ℕ
words_drawn ops = sum_by words_for ops

-- the name that a word makes
abbrev pub name_of_word : List ℕ → List ℕ
name_of_word word = hyphenated_text lower (with_version (with_variant word RFC4122) Random)

-- the GUID that a word makes at a lock
abbrev pub guid_of_word : ℕ → List ℕ → List ℕ
guid_of_word lock word = hex_digit lower lock ∷ simple_text lower word

abbrev pub first_word : List (List ℕ) → List ℕ
first_word [] = []
first_word (word ∷ words) = word

-- the words that are left after an operation
abbrev pub words_after : Op → List (List ℕ) → List (List ℕ)
words_after op words = drop (words_for op) words

-- each operation with the words that are left for it and those behind it
abbrev pub with_words : List Op → List (List ℕ) → List (Op × List (List ℕ))
with_words [] words = []
with_words (op ∷ ops) words = (op, words) ∷ with_words ops (words_after op words)

-- the name that an operation gives, or else that of its word
abbrev pub drawn_name : Op → List (List ℕ) → List ℕ
drawn_name op words = unwrap_or op.draft.name (name_of_word (first_word words))

-- the GUID of an operation that draws one, behind the word of its name
abbrev pub drawn_guid : ℕ → Op → List (List ℕ) → List ℕ
drawn_guid lock op words = if draws_guid op then guid_of_word lock (first_word (drop (one_if (draws_name op)) words)) else []

abbrev pub named_by : ℕ → Op × List (List ℕ) → NamedOp
named_by lock x = record { kind = x.0.kind; draft = x.0.draft; name = drawn_name x.0 x.1; guid = drawn_guid lock x.0 x.1 }

-- the operations of a request at a lock, each with its name and its GUID
abbrev pub named_ops : ℕ → List Op → List (List ℕ) → List NamedOp
named_ops lock ops words = map (named_by lock) (with_words ops words)

-- the names of the operations' records, those among them that words make
abbrev pub names_of : List Op → List (List ℕ) → List (List ℕ)
names_of ops words = map (λ (x : Op × List (List ℕ)). drawn_name x.0 x.1) (with_words ops words)
