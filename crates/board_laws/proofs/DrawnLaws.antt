-- The operations of a request have names in their form, and GUIDs where they give roots, once these are drawn.
use Rattle.std.proofs.Common.{◌≡◌, ℕ, zero, suc, ◌+◌, ◌-◌, ◌<◌, List, [], ◌∷◌, ◌++◌, length, Bool, true, false, cond, not, ◌&&◌, refl, sym, ap, ◌∙◌, subst, arith, Some, None, Option}
use Rattle.std.specs.Prelude.{drop, is_some, unwrap_or, IfSome, nat_lt, nat_le, if◌then◌else◌}
use Rattle.std.specs.List.{list_all, position_or_len, AllByRecursion}
use Rattle.std.proofs.lemmas.Bool.{both_ways, and_parts, and_from, or_left, or_right, ltb-true, ltb-false, le-leb, le-ltb}
use Rattle.uuid.specs.declared.Variant.TheVariants.{RFC4122}
use Rattle.uuid.specs.declared.Version.TheVariants.{Random}
use Rattle.uuid.specs.Parts.{with_variant, with_version}
use Rattle.uuid.specs.Text.{by_index, hex_digit, lower, nibble, digit_place, is_hyphen_place, hyphen}
use Rattle.uuid.proofs.TextLemmas.{by_index_length, nibble_small}
use Rattle.ck_base.specs.Names.{is_name_byte, first_outside, IsName}
use Rattle.ck_base.specs.Guids.{is_hex_digit, IsGuid}
use Rattle.record_model.specs.declared.draft.Draft.{Draft}
use Rattle.zone_model.specs.declared.operations.Op.{Op}
use Rattle.zone_model.specs.Requests.{is_deletion}
use Rattle.zone_model.specs.OpForms.{IsMeantWhere, IsMeantOp}
use Rattle.zone_laws.specs.MeantRequests.{AreNamed, IsDrawn}
use Rattle.drawn_names.specs.Drawing.{draws_name, draws_guid, one_if, name_of_word, guid_of_word, first_word, words_after, named_by, named_ops}

-- ---- texts of words

all_snoc : (p : ℕ → Bool) (xs : List ℕ) (x : ℕ) → list_all p xs ≡ true → p x ≡ true → list_all p (xs ++ x ∷ []) ≡ true
all_snoc p [] x all one = and_from (p x) true one refl
all_snoc p (y ∷ ys) x all one = let parts = and_parts (p y) _ all in and_from (p y) _ parts.0 (all_snoc p ys x parts.1 one)

by_index_all : (n : ℕ) (f : ℕ → ℕ) (p : ℕ → Bool) → ((k : ℕ) → p (f k) ≡ true) → list_all p (by_index n f) ≡ true
unfolding by_index
by_index_all zero f p each = refl
by_index_all (suc n) f p each = all_snoc p (by_index n f) (f n) (by_index_all n f p each) (each n)

all_inside : (xs : List ℕ) → list_all is_name_byte xs ≡ true → position_or_len (λ b. not (is_name_byte b)) xs ≡ length xs
all_inside [] all = refl
all_inside (x ∷ xs) all =
    let parts = and_parts (is_name_byte x) _ all in
    ap (λ b. cond (not (not b)) (1 + position_or_len (λ b. not (is_name_byte b)) xs) 0) parts.0 ∙ omega (arith, all_inside xs parts.1)

none_outside : (xs : List ℕ) → list_all is_name_byte xs ≡ true → first_outside xs ≡ None
none_outside xs all = ap (λ n. cond (nat_lt n (length xs)) (Some n) None) (all_inside xs all) ∙ ap (λ b. cond b (Some (length xs)) None) (le-ltb (length xs) (length xs) (omega arith))

hex_by : (b : Bool) (d : ℕ) → nat_lt d 10 ≡ b → d < 16 → is_hex_digit (if b then 48 + d else lower + d - 10) ≡ true
hex_by true d is small = or_left _ _ (and_from _ _ (le-leb 48 (48 + d) (omega arith)) (le-leb (48 + d) 57 (omega (arith, ltb-true d 10 is))))
hex_by false d is small = or_right (nat_le 48 (97 + d - 10) && nat_le (97 + d - 10) 57) _
    (and_from _ _ (le-leb 97 (97 + d - 10) (omega (arith, ltb-false d 10 is))) (le-leb (97 + d - 10) 102 (omega (arith, small))))

hex_is : (d : ℕ) → d < 16 → is_hex_digit (hex_digit lower d) ≡ true
hex_is d small = hex_by (nat_lt d 10) d refl small

byte_by : (b : Bool) (d : ℕ) → nat_lt d 10 ≡ b → d < 16 → is_name_byte (if b then 48 + d else lower + d - 10) ≡ true
byte_by true d is small = and_from _ _ (le-leb 32 (48 + d) (omega arith)) (le-leb (48 + d) 126 (omega (arith, small)))
byte_by false d is small = and_from _ _ (le-leb 32 (97 + d - 10) (omega arith)) (le-leb (97 + d - 10) 126 (omega (arith, small)))

character_by : (h : Bool) (d : ℕ) → d < 16 → is_name_byte (if h then hyphen else hex_digit lower d) ≡ true
character_by true d small = refl
character_by false d small = byte_by (nat_lt d 10) d refl small

-- a word makes a name
pub word-name : (word : List ℕ) → IsName (name_of_word word)
word-name word =
    let xs = with_version (with_variant word RFC4122) Random in
    let f : ℕ → ℕ = λ k. if is_hyphen_place k then hyphen else hex_digit lower (nibble xs (digit_place k)) in
    let long : length (by_index 36 f) ≡ 36 = by_index_length 36 f in
    (omega (arith, long), omega (arith, long), none_outside (by_index 36 f) (by_index_all 36 f is_name_byte (λ k. character_by (is_hyphen_place k) (nibble xs (digit_place k)) (nibble_small xs (digit_place k)))))

-- and a GUID
pub word-guid : (lock : ℕ) (word : List ℕ) → lock < 16 → IsGuid (guid_of_word lock word)
word-guid lock word small =
    let f : ℕ → ℕ = λ k. hex_digit lower (nibble word k) in
    (ap suc (by_index_length 32 f), and_from (is_hex_digit (hex_digit lower lock)) _ (hex_is lock small) (by_index_all 32 f is_hex_digit (λ k. hex_is (nibble word k) (nibble_small word k))))

-- ---- operations with their names

drawn_by : (o : Option (List ℕ)) (word : List ℕ) → IfSome o IsName → IsName (unwrap_or o (name_of_word word))
drawn_by None word form = word-name word
drawn_by (Some name) word form = form

-- a name that is given has its form, in puts and in deletions
given_form : (b : Bool) (d : Draft) → IsMeantWhere b d → IfSome d.name IsName
given_form true d meant = subst (λ (e : Draft). IfSome e.name IsName) (sym meant.is) meant.name
given_form false d meant = meant.name

guid_by : (b : Bool) (lock : ℕ) (word : List ℕ) → lock < 16 → b ≡ true → IsGuid (if b then guid_of_word lock word else [])
guid_by true lock word small is = word-guid lock word small
guid_by false lock word small is = absurd (both_ways false refl is)

-- only a put gives a root
gives_by : (b : Bool) (d : Draft) → IsMeantWhere b d → is_some d.for_root ≡ true → (not b && is_some d.for_root) ≡ true
gives_by true d meant rooted = absurd (both_ways (is_some d.for_root) (ap (λ (e : Draft). is_some e.for_root) meant.is) rooted)
gives_by false d meant rooted = rooted

one_drawn : (lock : ℕ) (op : Op) (words : List (List ℕ)) → lock < 16 → IsMeantOp op → IsDrawn (named_by lock (op, words))
one_drawn lock op words small meant = record {
  name = drawn_by op.draft.name (first_word words) (given_form (is_deletion op.kind) op.draft meant.draft);
  guid = λ rooted. guid_by (draws_guid op) lock (first_word (drop (one_if (draws_name op)) words)) small (gives_by (is_deletion op.kind) op.draft meant.draft rooted);
}

-- ---- all of them

pub all_drawn : (lock : ℕ) (ops : List Op) (words : List (List ℕ)) → lock < 16 → AllByRecursion IsMeantOp ops → AllByRecursion IsDrawn (named_ops lock ops words)
all_drawn lock [] words small meant = tt
all_drawn lock (op ∷ ops) words small meant = (one_drawn lock op words small meant.0, all_drawn lock ops (words_after op words) small meant.1)

pub named_as_given : (lock : ℕ) (ops : List Op) (words : List (List ℕ)) → AreNamed ops (named_ops lock ops words)
named_as_given lock [] words = refl
named_as_given lock (op ∷ ops) words = ap (λ rest. op ∷ rest) (named_as_given lock ops (words_after op words))

pub named-length : (lock : ℕ) (ops : List Op) (words : List (List ℕ)) → length (named_ops lock ops words) ≡ length ops
named-length lock [] words = refl
named-length lock (op ∷ ops) words = ap suc (named-length lock ops (words_after op words))
