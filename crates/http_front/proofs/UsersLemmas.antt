-- The pieces of a text, parts, lines and tables.
use Rattle.std.proofs.Common.{inl, inr, ◌≡◌, ◌≢◌, ◌⊎◌, ℕ, suc, ◌+◌, ◌<◌, ◌≤◌, Bool, true, false, cond, not, ◌&&◌, nat_le, ◌==◌, List, [], ◌∷◌, ◌++◌, length, take, drop, get_or, Option, None, Some, Result, Ok, Err, IfErr, refl, sym, ◌∙◌, ap, subst, arith, lit<, codes, append_assoc}
use Rattle.std.proofs.lemmas.Bool.{cases_lt, cases_Bool, lt-ltb, le-ltb, le-leb, leb-true, eqb-true, ne_eqb, eq-eqb, cond-true, cond-false, and_parts, and_from, and_left, and_right, or_from, or_cases, not_from_true, false_from_ne_true}
use Rattle.std.proofs.lemmas.Cmp.{nat_list_eq_equiv}
use Rattle.std.proofs.lemmas.Slice.Eq.{bytes_eq-Decides}
use Rattle.std.proofs.lemmas.List.{append-nil, map-append}
use Rattle.std.proofs.lemmas.List.Elements.{All-nil, All-cons, All-append, All-head, All-tail}
use Rattle.std.proofs.lemmas.List.Sums.{fails_before_first, AllPass-from_list_all, position_or_len_is}
use Rattle.std.proofs.lemmas.List.Splits.{slice_split_none, slice_split_at, slice_split_first, length-slice_split, join_with_byte-slice_split}
use Rattle.std.proofs.lemmas.Map.Keys.{IsDistinct-push, IsDistinct-head, IsDistinct-tail}
use Rattle.std.specs.Option.{is_none, option_map}
use Rattle.std.specs.Str.{bytes_eq}
use Rattle.std.specs.List.{All, AllByRecursion, AllPass, Contains, IsDistinct, find, flat_map, list_all, list_any, position, position_or_len, join_with_byte}
use Rattle.ck_base.specs.Names.{is_name_byte, first_outside}
use Rattle.ck_base.specs.Told.{IsToldUnless}
use Rattle.ck_base.specs.Reading.{name_of, unless_outside}
use Rattle.http_front.specs.declared.users.UsersFault.{UsersFault}
use Rattle.http_front.specs.declared.users.UsersFault.TheVariants.{BadLine, NoMemory}
use Rattle.http_front.specs.Users.{Table, pieces_at, lines_of, parts_of, is_part, is_part_byte, is_environment, is_user, user_of_token, tokens_of, names_of, user_text, opening_of, pair_of, users_of, table_with, table_of_lines, table_of, line_text, table_text, IsTable, IsNoTable}

abbrev pub Pairs : Type 0
Pairs = List (List ℕ × List ℕ)

-- ---- cutting

pub position_below : {X : Type 0} (p : X → Bool) (xs : List X) (at : ℕ) → position p xs ≡ Some at → (at ≡ position_or_len p xs) × (at < length xs)
position_below p xs at found =
    elim (cases_lt (position_or_len p xs) (length xs)) [
      | inl h ↦
          let e : position p xs ≡ Some (position_or_len p xs) = cond-true _ _ _ (lt-ltb _ _ h) in
          let same : at ≡ position_or_len p xs = cc in
          (same, rw same h)
      | inr h ↦
          let e : position p xs ≡ None = cond-false _ _ _ (le-ltb _ _ h) in
          cc
    ]

pub position_none : {X : Type 0} (p : X → Bool) (xs : List X) → position p xs ≡ None → length xs ≤ position_or_len p xs
position_none p xs none =
    elim (cases_lt (position_or_len p xs) (length xs)) [
      | inl h ↦
          let e : position p xs ≡ Some (position_or_len p xs) = cond-true _ _ _ (lt-ltb _ _ h) in
          cc
      | inr h ↦ h
    ]

-- without the byte the text is one piece
pub pieces_none : (c : ℕ) (xs : List ℕ) → position (λ b. b == c) xs ≡ None → pieces_at c xs ≡ xs ∷ []
pieces_none c xs none =
    let far : length xs ≤ position_or_len (λ b. b == c) xs = position_none _ xs none in
    slice_split_none (λ b. b == c) xs (λ k d inside. fails_before_first (λ b. b == c) xs k d (omega arith))

-- the first piece ends at the first such byte
pub pieces_some : (c : ℕ) (xs : List ℕ) (at : ℕ) → position (λ b. b == c) xs ≡ Some at → pieces_at c xs ≡ take at xs ∷ pieces_at c (drop (at + 1) xs)
pieces_some c xs at found =
    let here : (at ≡ position_or_len (λ b. b == c) xs) × (at < length xs) = position_below (λ b. b == c) xs at found in
    rw here.0 (slice_split_first (λ b. b == c) xs 0 (subst (λ (n : ℕ). n < length xs) here.0 here.1))

-- there is always a piece
pub some_piece : (c : ℕ) (xs : List ℕ) → pieces_at c xs ≢ []
some_piece c xs none = let more : length (pieces_at c xs) ≡ 0 = ap length none in absurd (omega (arith, length-slice_split (λ b. b == c) xs))

-- one piece is the whole text
pub one_piece : (c : ℕ) (xs piece : List ℕ) → pieces_at c xs ≡ piece ∷ [] → piece ≡ xs
one_piece c xs piece one = ap (join_with_byte c) (sym one) ∙ join_with_byte-slice_split c xs

-- ---- parts

part_byte_range : (b : ℕ) → is_part_byte b ≡ true → (0x21 ≤ b) × (b ≤ 0x7E)
part_byte_range b part =
    let both : (nat_le 0x21 b ≡ true) × (nat_le b 0x7E ≡ true) = and_parts _ _ part in
    (leb-true _ _ both.0, leb-true _ _ both.1)

part_facts : (bytes : List ℕ) → is_part bytes ≡ true → (1 ≤ length bytes) × (length bytes ≤ 255) × AllPass is_part_byte bytes
part_facts bytes part =
    let both : ((nat_le 1 (length bytes) && nat_le (length bytes) 255) ≡ true) × (list_all is_part_byte bytes ≡ true) = and_parts _ _ part in
    let sizes : (nat_le 1 (length bytes) ≡ true) × (nat_le (length bytes) 255 ≡ true) = and_parts _ _ both.0 in
    (leb-true _ _ sizes.0, leb-true _ _ sizes.1, AllPass-from_list_all is_part_byte bytes both.1)

none_at : (p : ℕ → Bool) (xs : List ℕ) → All (λ b. p b ≡ false) xs → position p xs ≡ None
none_at p xs none =
    let far : position_or_len p xs ≡ length xs = position_or_len_is p xs (length xs) 0 (omega arith) (λ k inside. none k 0 inside) (λ over. absurd (omega arith)) in
    cond-false _ _ _ (le-ltb (position_or_len p xs) (length xs) (omega arith))

-- a part is a name
pub part_is_name : (bytes : List ℕ) → is_part bytes ≡ true → name_of bytes ≡ Ok bytes
part_is_name bytes part =
    let facts : (1 ≤ length bytes) × (length bytes ≤ 255) × AllPass is_part_byte bytes = part_facts bytes part in
    let inside : first_outside bytes ≡ None =
    none_at (λ b. not (is_name_byte b)) bytes
    (λ k d below.
    let range : (0x21 ≤ get_or bytes k d) × (get_or bytes k d ≤ 0x7E) = part_byte_range _ (facts.2 k d below) in
    not_from_true _ (and_from _ _ (le-leb 0x20 (get_or bytes k d) (omega arith)) (le-leb (get_or bytes k d) 0x7E range.1)))
    in
    cond-false _ _ _ (ne_eqb (length bytes) 0 (λ (e : length bytes ≡ 0). omega arith))
    ∙ cond-false _ _ _ (le-ltb 255 (length bytes) facts.1)
    ∙ ap (unless_outside bytes) inside

-- a part has no space and no line feed
part_without : (c : ℕ) (bytes : List ℕ) → c < 0x21 → is_part bytes ≡ true → All (λ b. (b == c) ≡ false) bytes
part_without c bytes low part k d below =
    let range : (0x21 ≤ get_or bytes k d) × (get_or bytes k d ≤ 0x7E) = part_byte_range _ ((part_facts bytes part).2 k d below) in
    ne_eqb (get_or bytes k d) c (λ (e : get_or bytes k d ≡ c). omega arith)

pub part_is_one : (bytes : List ℕ) → is_part bytes ≡ true → parts_of bytes ≡ bytes ∷ []
part_is_one bytes part = slice_split_none (λ b. b == 0x20) bytes (part_without 0x20 bytes (lit< tt) part)

-- what is more than one part is no part
pub more_is_no_part : (bytes x y : List ℕ) (more : List (List ℕ)) → parts_of bytes ≡ x ∷ y ∷ more → is_part bytes ≡ false
more_is_no_part bytes x y more many =
    false_from_ne_true _ (λ part. let one : parts_of bytes ≡ bytes ∷ [] = part_is_one bytes part in cc)

-- ---- lines

-- a part behind the last space that was cut at, whatever else stands in it
pub opening_of_cut : (container environment last : List ℕ) (parts : List (List ℕ)) → parts_of last ≡ parts → opening_of (container ∷ environment ∷ parts) ≡ cond (is_part container && is_environment environment && is_part last) (Some (record { container = container; environment = environment; api_token = last; users = [] })) None
opening_of_cut container environment last [] cut = absurd (some_piece 0x20 last cut)
opening_of_cut container environment last (x ∷ []) cut =
    let same : x ≡ last = one_piece 0x20 last x cut in
    rw same refl
opening_of_cut container environment last (x ∷ y ∷ more) cut =
    sym (cond-false _ _ _ (and_right _ _ (more_is_no_part last x y more cut)))

pub pair_of_cut : (earlier : List (List ℕ × List ℕ)) (token last : List ℕ) (parts : List (List ℕ)) → parts_of last ≡ parts → pair_of earlier (token ∷ parts) ≡ cond (is_part token && is_user last && is_none (user_of_token earlier token)) (Some (token, last)) None
pair_of_cut earlier token last [] cut = absurd (some_piece 0x20 last cut)
pair_of_cut earlier token last (x ∷ []) cut =
    let same : x ≡ last = one_piece 0x20 last x cut in
    rw same refl
pair_of_cut earlier token last (x ∷ y ∷ more) cut =
    sym (cond-false _ _ _ (and_left _ _ (and_right _ _ (and_left _ _ (more_is_no_part last x y more cut)))))

-- what three parts of a line say
pub opening_of_line : (line container rest environment last : List ℕ) → parts_of line ≡ container ∷ parts_of rest → parts_of rest ≡ environment ∷ parts_of last → opening_of (parts_of line) ≡ cond (is_part container && is_environment environment && is_part last) (Some (record { container = container; environment = environment; api_token = last; users = [] })) None
opening_of_line line container rest environment last one two =
    ap opening_of (one ∙ ap (λ parts. container ∷ parts) two) ∙ opening_of_cut container environment last _ refl

-- what two parts of a line say
pub pair_of_line : (earlier : List (List ℕ × List ℕ)) (line token last : List ℕ) → parts_of line ≡ token ∷ parts_of last → pair_of earlier (parts_of line) ≡ cond (is_part token && is_user last && is_none (user_of_token earlier token)) (Some (token, last)) None
pair_of_line earlier line token last one = ap (pair_of earlier) one ∙ pair_of_cut earlier token last _ refl

-- ---- the lines behind the first

pub users_of_bad : (n : ℕ) (earlier : List (List ℕ × List ℕ)) (line : List ℕ) (lines : List (List ℕ)) → lines ≢ [] → pair_of earlier (parts_of line) ≡ None → users_of n earlier (line ∷ lines) ≡ Err (BadLine n)
users_of_bad n earlier line [] some bad = absurd (some refl)
users_of_bad n earlier line (next ∷ more) some bad = rw (bad, users_of) refl

pub users_of_good : (n : ℕ) (earlier : List (List ℕ × List ℕ)) (line : List ℕ) (lines : List (List ℕ)) (pair : List ℕ × List ℕ) → lines ≢ [] → pair_of earlier (parts_of line) ≡ Some pair → users_of n earlier (line ∷ lines) ≡ users_of (n + 1) (earlier ++ pair ∷ []) lines
users_of_good n earlier line [] pair some good = absurd (some refl)
users_of_good n earlier line (next ∷ more) pair some good = rw (good, users_of) refl

pub table_of_cut : (first : List ℕ) (lines : List (List ℕ)) → lines ≢ [] → table_of_lines (first ∷ lines) ≡ table_with (opening_of (parts_of first)) (users_of 2 [] lines)
table_of_cut first [] some = absurd (some refl)
table_of_cut first (next ∷ more) some = refl

-- what a line says, where it is cut from the front of what is left
pub line_bad : (n : ℕ) (earlier : List (List ℕ × List ℕ)) (text line later : List ℕ) → pieces_at 0x0A text ≡ line ∷ pieces_at 0x0A later → pair_of earlier (parts_of line) ≡ None → users_of n earlier (lines_of text) ≡ Err (BadLine n)
line_bad n earlier text line later cut bad =
    ap (users_of n earlier) cut ∙ users_of_bad n earlier line (pieces_at 0x0A later) (some_piece 0x0A later) bad

pub line_good : (n : ℕ) (earlier : List (List ℕ × List ℕ)) (text line later : List ℕ) (pair : List ℕ × List ℕ) → pieces_at 0x0A text ≡ line ∷ pieces_at 0x0A later → pair_of earlier (parts_of line) ≡ Some pair → users_of n earlier (lines_of text) ≡ users_of (n + 1) (earlier ++ pair ∷ []) (lines_of later)
line_good n earlier text line later pair cut good =
    ap (users_of n earlier) cut ∙ users_of_good n earlier line (pieces_at 0x0A later) pair (some_piece 0x0A later) good

-- what a pair is made of
pub record IsNewPair (earlier : List (List ℕ × List ℕ)) (parts : List (List ℕ)) (pair : List ℕ × List ℕ) : Type 0 where
  pub parts_are : parts ≡ pair.0 ∷ pair.1 ∷ []
  pub token : is_part pair.0 ≡ true
  pub user : is_user pair.1 ≡ true
  pub fresh : is_none (user_of_token earlier pair.0) ≡ true

pub pair_facts : (earlier : List (List ℕ × List ℕ)) (parts : List (List ℕ)) (pair : List ℕ × List ℕ) → pair_of earlier parts ≡ Some pair → IsNewPair earlier parts pair
pair_facts earlier [] pair read = cc
pair_facts earlier (x ∷ []) pair read = cc
pair_facts earlier (token ∷ user ∷ []) pair read =
    elim (cases_Bool (is_part token && is_user user && is_none (user_of_token earlier token))) [
      | inl good ↦
          let made : pair_of earlier (token ∷ user ∷ []) ≡ Some (token, user) = cond-true _ _ _ good in
          let same : (token, user) ≡ pair = cc in
          let facts : ((is_part token && is_user user) ≡ true) × (is_none (user_of_token earlier token) ≡ true) = and_parts _ _ good in
          let names : (is_part token ≡ true) × (is_user user ≡ true) = and_parts _ _ facts.0 in
          subst (IsNewPair earlier (token ∷ user ∷ [])) same (record { parts_are = refl; token = names.0; user = names.1; fresh = facts.1 })
      | inr bad ↦
          let made : pair_of earlier (token ∷ user ∷ []) ≡ None = cond-false _ _ _ bad in
          cc
    ]
pair_facts earlier (x ∷ y ∷ z ∷ more) pair read = cc

-- a user is a part
pub user_is_part : (earlier : List (List ℕ × List ℕ)) (line : List ℕ) (pair : List ℕ × List ℕ) → pair_of earlier (parts_of line) ≡ Some pair → is_part pair.1 ≡ true
user_is_part earlier line pair read =
    let facts = pair_facts earlier (parts_of line) pair read in
    (and_parts _ _ facts.user).0

-- what a text says, where its first line is cut off
pub table_of_line : (text first later : List ℕ) → pieces_at 0x0A text ≡ first ∷ pieces_at 0x0A later → table_of text ≡ table_with (opening_of (parts_of first)) (users_of 2 [] (lines_of later))
table_of_line text first later cut =
    ap table_of_lines cut ∙ table_of_cut first (pieces_at 0x0A later) (some_piece 0x0A later)

-- the parts of the first line, and the pairs of the lines behind it
pub table_read : (text first later container environment token : List ℕ) (users : Pairs) → pieces_at 0x0A text ≡ first ∷ pieces_at 0x0A later → Some (record { container = container; environment = environment; api_token = token; users = [] }) ≡ opening_of (parts_of first) → Ok users ≡ users_of 2 [] (lines_of later) → table_of text ≡ Ok (record { container = container; environment = environment; api_token = token; users = users })
table_read text first later container environment token users cut opened read =
    table_of_line text first later cut
    ∙ ap (λ r. table_with r (users_of 2 [] (lines_of later))) (sym opened)
    ∙ ap (table_with (Some (record { container = container; environment = environment; api_token = token; users = [] }))) (sym read)

-- the parts of the first line, and the first bad line behind it
pub table_refused : (text first later container environment token : List ℕ) (fault : UsersFault) → pieces_at 0x0A text ≡ first ∷ pieces_at 0x0A later → Some (record { container = container; environment = environment; api_token = token; users = [] }) ≡ opening_of (parts_of first) → Err fault ≡ users_of 2 [] (lines_of later) → Err fault ≡ table_of text
table_refused text first later container environment token fault cut opened read =
    sym (table_of_line text first later cut
    ∙ ap (λ r. table_with r (users_of 2 [] (lines_of later))) (sym opened)
    ∙ ap (table_with (Some (record { container = container; environment = environment; api_token = token; users = [] }))) (sym read))

-- ---- where a table is read, the text is its text

-- what is so of the pairs of a table
pub record ArePairs (pairs : Pairs) : Type 0 where
  pub tokens : AllPass is_part (tokens_of pairs)
  pub users : AllPass is_user (names_of pairs)
  pub distinct : IsDistinct bytes_eq (tokens_of pairs)

no_pairs : ArePairs []
unfolding IsDistinct
no_pairs = record { tokens = All-nil _; users = All-nil _; distinct = tt }

one_more : {X : Type 0} (p : X → Bool) (xs : List X) (x : X) → AllPass p xs → p x ≡ true → AllPass p (xs ++ x ∷ [])
one_more p xs x all here = All-append (λ y. p y ≡ true) xs (x ∷ []) all (All-cons (λ y. p y ≡ true) x [] here (All-nil _))

-- a token that stands for no user is none of the tokens
not_taken : (users : Pairs) (token : List ℕ) → is_none (user_of_token users token) ≡ true → list_any (bytes_eq token) (tokens_of users) ≡ false
not_taken [] token none = refl
not_taken (pair ∷ users) token none =
    elim (cases_Bool (bytes_eq token pair.0)) [
      | inl same ↦
          let found : find (λ (other : List ℕ × List ℕ). bytes_eq token other.0) (pair ∷ users) ≡ Some pair = cond-true _ _ _ same in
          let some : is_none (user_of_token (pair ∷ users) token) ≡ false = rw found refl in
          cc
      | inr other ↦
          let further : find (λ (other : List ℕ × List ℕ). bytes_eq token other.0) (pair ∷ users) ≡ find (λ (other : List ℕ × List ℕ). bytes_eq token other.0) users = cond-false _ _ _ other in
          or_from _ _ other (not_taken users token (rw further at none))
    ]

more_pairs : (users : Pairs) (parts : List (List ℕ)) (pair : List ℕ × List ℕ) → ArePairs users → IsNewPair users parts pair → ArePairs (users ++ pair ∷ [])
more_pairs users parts pair good new =
    let tokens : tokens_of (users ++ pair ∷ []) ≡ tokens_of users ++ pair.0 ∷ [] = map-append _ users (pair ∷ []) in
    let names : names_of (users ++ pair ∷ []) ≡ names_of users ++ pair.1 ∷ [] = map-append _ users (pair ∷ []) in
    record {
      tokens = rw tokens (one_more is_part (tokens_of users) pair.0 good.tokens new.token);
      users = rw names (one_more is_user (names_of users) pair.1 good.users new.user);
      distinct = rw tokens (IsDistinct-push nat_list_eq_equiv (tokens_of users) pair.0 good.distinct (not_taken users pair.0 new.fresh));
    }

-- a line is its parts, with a space between them
parts_joined : (line : List ℕ) (parts : List (List ℕ)) → parts_of line ≡ parts → line ≡ join_with_byte 0x20 parts
parts_joined line parts cut = sym (join_with_byte-slice_split 0x20 line) ∙ ap (join_with_byte 0x20) cut

empty_of : (xs : List ℕ) → length xs ≡ 0 → xs ≡ []
empty_of [] none = refl
empty_of (x ∷ xs) none = absurd (omega arith)

cases_of_option : {X : Type 0} (o : Option X) → (o ≡ None) ⊎ ((x : X) × (o ≡ Some x))
cases_of_option None = inl refl
cases_of_option (Some x) = inr (x, refl)

-- the lines behind the first are the text of the pairs that they gave
users_spelled : (n : ℕ) (earlier : Pairs) (lines : List (List ℕ)) (users : Pairs) → users_of n earlier lines ≡ Ok users → ArePairs earlier → (more : Pairs) × (users ≡ earlier ++ more) × (join_with_byte 0x0A lines ≡ flat_map user_text more) × ArePairs users
users_spelled n earlier [] users read good =
    let same : earlier ≡ users = cc in
    ([], sym same ∙ sym (append-nil earlier), refl, subst ArePairs same good)
users_spelled n earlier (rest ∷ []) users read good =
    elim (cases_Bool (length rest == 0)) [
      | inl nothing ↦
          let ok : users_of n earlier (rest ∷ []) ≡ Ok earlier = cond-true _ _ _ nothing in
          let same : earlier ≡ users = cc in
          let none : rest ≡ [] = empty_of rest (eqb-true _ _ nothing) in
          ([], sym same ∙ sym (append-nil earlier), none, subst ArePairs same good)
      | inr something ↦
          let bad : users_of n earlier (rest ∷ []) ≡ Err (BadLine n) = cond-false _ _ _ something in
          cc
    ]
users_spelled n earlier (line ∷ next ∷ more) users read good =
    elim (cases_of_option (pair_of earlier (parts_of line))) [
      | inl none ↦
          let bad : users_of n earlier (line ∷ next ∷ more) ≡ Err (BadLine n) = users_of_bad n earlier line (next ∷ more) (λ e. cc) none in
          cc
      | inr found ↦
          let pair : List ℕ × List ℕ = found.0 in
          let new : IsNewPair earlier (parts_of line) pair = pair_facts earlier (parts_of line) pair found.1 in
          let later : users_of (n + 1) (earlier ++ pair ∷ []) (next ∷ more) ≡ Ok users = sym (users_of_good n earlier line (next ∷ more) pair (λ e. cc) found.1) ∙ read in
          let rest = users_spelled (n + 1) (earlier ++ pair ∷ []) (next ∷ more) users later (more_pairs earlier (parts_of line) pair good new) in
          let text : line ++ (0x0A ∷ join_with_byte 0x0A (next ∷ more)) ≡ user_text pair ++ flat_map user_text rest.0 =
          ap (λ l. l ++ (0x0A ∷ join_with_byte 0x0A (next ∷ more))) (parts_joined line _ new.parts_are)
          ∙ sym (append_assoc (join_with_byte 0x20 (pair.0 ∷ pair.1 ∷ [])) (0x0A ∷ []) (join_with_byte 0x0A (next ∷ more)))
          ∙ ap (λ l. user_text pair ++ l) rest.2
          in
          (pair ∷ rest.0, rest.1 ∙ append_assoc earlier (pair ∷ []) rest.0, text, rest.3)
    ]

-- what a first line is made of
record IsOpening (parts : List (List ℕ)) (table : Table) : Type 0 where
  parts_are : parts ≡ table.container ∷ table.environment ∷ table.api_token ∷ []
  container : is_part table.container ≡ true
  environment : is_environment table.environment ≡ true
  api_token : is_part table.api_token ≡ true

opening_facts : (parts : List (List ℕ)) (table : Table) → opening_of parts ≡ Some table → IsOpening parts table
opening_facts [] table read = cc
opening_facts (x ∷ []) table read = cc
opening_facts (x ∷ y ∷ []) table read = cc
opening_facts (container ∷ environment ∷ token ∷ []) table read =
    elim (cases_Bool (is_part container && is_environment environment && is_part token)) [
      | inl good ↦
          let opened : Table = record { container = container; environment = environment; api_token = token; users = [] } in
          let made : opening_of (container ∷ environment ∷ token ∷ []) ≡ Some opened = cond-true _ _ _ good in
          let same : opened ≡ table = cc in
          let facts : ((is_part container && is_environment environment) ≡ true) × (is_part token ≡ true) = and_parts _ _ good in
          let places : (is_part container ≡ true) × (is_environment environment ≡ true) = and_parts _ _ facts.0 in
          subst (IsOpening (container ∷ environment ∷ token ∷ [])) same (record { parts_are = refl; container = places.0; environment = places.1; api_token = facts.1 })
      | inr bad ↦
          let made : opening_of (container ∷ environment ∷ token ∷ []) ≡ None = cond-false _ _ _ bad in
          cc
    ]
opening_facts (x ∷ y ∷ z ∷ w ∷ more) table read = cc

cases_of_result : {X E : Type 0} (r : Result X E) → ((e : E) × (r ≡ Err e)) ⊎ ((x : X) × (r ≡ Ok x))
cases_of_result (Err e) = inl (e, refl)
cases_of_result (Ok x) = inr (x, refl)

lines_spelled : (lines : List (List ℕ)) (table : Table) → table_of_lines lines ≡ Ok table → IsTable table × (join_with_byte 0x0A lines ≡ table_text table)
lines_spelled [] table read = cc
lines_spelled (x ∷ []) table read = cc
lines_spelled (first ∷ next ∷ more) table read =
    elim (cases_of_option (opening_of (parts_of first))) [
      | inl none ↦
          let bad : table_of_lines (first ∷ next ∷ more) ≡ Err (BadLine 1) = ap (λ opened. table_with opened (users_of 2 [] (next ∷ more))) none in
          cc
      | inr opened ↦
          elim (cases_of_result (users_of 2 [] (next ∷ more))) [
            | inl fault ↦
                let bad : table_of_lines (first ∷ next ∷ more) ≡ Err fault.0 =
                ap (λ r. table_with r (users_of 2 [] (next ∷ more))) opened.1 ∙ ap (table_with (Some opened.0)) fault.1
                in
                cc
            | inr users ↦
                let ok : table_of_lines (first ∷ next ∷ more) ≡ Ok (record opened.0 { users = users.0 }) =
                ap (λ r. table_with r (users_of 2 [] (next ∷ more))) opened.1 ∙ ap (table_with (Some opened.0)) users.1
                in
                let same : record opened.0 { users = users.0 } ≡ table = cc in
                let head : IsOpening (parts_of first) opened.0 = opening_facts (parts_of first) opened.0 opened.1 in
                let rest = users_spelled 2 [] (next ∷ more) users.0 users.1 no_pairs in
                let made : IsTable (record opened.0 { users = users.0 }) = record { container = head.container; environment = head.environment; api_token = head.api_token; tokens = rest.3.tokens; users = rest.3.users; distinct = rest.3.distinct } in
                let text : first ++ (0x0A ∷ join_with_byte 0x0A (next ∷ more)) ≡ table_text (record opened.0 { users = users.0 }) =
                ap (λ l. l ++ (0x0A ∷ join_with_byte 0x0A (next ∷ more))) (parts_joined first _ head.parts_are)
                ∙ sym (append_assoc _ (0x0A ∷ []) (join_with_byte 0x0A (next ∷ more)))
                ∙ ap (λ l. line_text (opened.0.container ∷ opened.0.environment ∷ opened.0.api_token ∷ []) ++ l) (rest.2 ∙ ap (flat_map user_text) (sym rest.1))
                in
                subst (λ (t : Table). IsTable t × (first ++ (0x0A ∷ join_with_byte 0x0A (next ∷ more)) ≡ table_text t)) same (made, text)
          ]
    ]

-- where a text is read as a table, it is the text of that table
pub table_spelled : (text : List ℕ) (table : Table) → table_of text ≡ Ok table → IsTable table × (text ≡ table_text table)
table_spelled text table read =
    let spelled = lines_spelled (lines_of text) table read in
    (spelled.0, sym (join_with_byte-slice_split 0x0A text) ∙ spelled.1)

-- ---- the text of a table is read as the table

cut_behind : (c : ℕ) (xs ys : List ℕ) → All (λ b. (b == c) ≡ false) xs → pieces_at c (xs ++ c ∷ ys) ≡ xs ∷ pieces_at c ys
cut_behind c xs ys without = slice_split_at (λ b. b == c) xs c ys without (eq-eqb c c refl)

joined_without : (xs ys : List ℕ) → All (λ b. (b == 0x0A) ≡ false) xs → All (λ b. (b == 0x0A) ≡ false) ys → All (λ b. (b == 0x0A) ≡ false) (xs ++ 0x20 ∷ ys)
joined_without xs ys first second =
    All-append (λ b. (b == 0x0A) ≡ false) xs (0x20 ∷ ys) first (All-cons (λ b. (b == 0x0A) ≡ false) 0x20 ys refl second)

-- a line in front of a text is its first line
line_in_front : (line rest : List ℕ) → All (λ b. (b == 0x0A) ≡ false) line → lines_of ((line ++ 0x0A ∷ []) ++ rest) ≡ line ∷ lines_of rest
line_in_front line rest without = ap lines_of (append_assoc line (0x0A ∷ []) rest) ∙ cut_behind 0x0A line rest without

environment_is_part : (bytes : List ℕ) → is_environment bytes ≡ true → is_part bytes ≡ true
environment_is_part bytes good =
    elim (or_cases _ _ good) [
      | inl same ↦ subst (λ (b : List ℕ). is_part b ≡ true) (sym ((bytes_eq-Decides bytes (codes "development")).0 same)) refl
      | inr same ↦ subst (λ (b : List ℕ). is_part b ≡ true) (sym ((bytes_eq-Decides bytes (codes "production")).0 same)) refl
    ]

apart_flips : (xs ys : List ℕ) → bytes_eq xs ys ≡ false → bytes_eq ys xs ≡ false
apart_flips xs ys apart =
    false_from_ne_true _ (λ same. let back : bytes_eq xs ys ≡ true = (bytes_eq-Decides xs ys).1 (sym ((bytes_eq-Decides ys xs).0 same)) in cc)

holds_at : (P : List ℕ → Type 0) (earlier users : Pairs) (pair : List ℕ × List ℕ) → AllByRecursion P (tokens_of (earlier ++ pair ∷ users)) → P pair.0
holds_at P [] users pair all = all.0
holds_at P (other ∷ earlier) users pair all = holds_at P earlier users pair all.1

-- a token is none of those before it
is_fresh : (earlier users : Pairs) (pair : List ℕ × List ℕ) → IsDistinct bytes_eq (tokens_of (earlier ++ pair ∷ users)) → is_none (user_of_token earlier pair.0) ≡ true
is_fresh [] users pair distinct = refl
is_fresh (other ∷ earlier) users pair distinct =
    let apart : bytes_eq other.0 pair.0 ≡ false =
    holds_at (λ t. bytes_eq other.0 t ≡ false) earlier users pair (IsDistinct-head bytes_eq other.0 (tokens_of (earlier ++ pair ∷ users)) distinct)
    in
    let further : find (λ (p : List ℕ × List ℕ). bytes_eq pair.0 p.0) (other ∷ earlier) ≡ find (λ (p : List ℕ × List ℕ). bytes_eq pair.0 p.0) earlier =
    cond-false _ (Some other) _ (apart_flips other.0 pair.0 apart)
    in
    rw further (is_fresh earlier users pair (IsDistinct-tail bytes_eq other.0 (tokens_of (earlier ++ pair ∷ users)) distinct))

pair_read : (earlier : Pairs) (pair : List ℕ × List ℕ) → is_part pair.0 ≡ true → is_user pair.1 ≡ true → is_none (user_of_token earlier pair.0) ≡ true → pair_of earlier (parts_of (join_with_byte 0x20 (pair.0 ∷ pair.1 ∷ []))) ≡ Some pair
pair_read earlier pair token user fresh =
    let cut : parts_of (pair.0 ++ 0x20 ∷ pair.1) ≡ pair.0 ∷ pair.1 ∷ [] =
    cut_behind 0x20 pair.0 pair.1 (part_without 0x20 pair.0 (lit< tt) token) ∙ ap (λ parts. pair.0 ∷ parts) (part_is_one pair.1 (and_parts _ _ user).0)
    in
    ap (pair_of earlier) cut ∙ cond-true _ _ _ (and_from _ _ (and_from _ _ token user) fresh)

users_read : (n : ℕ) (earlier users : Pairs) → AllPass is_part (tokens_of users) → AllPass is_user (names_of users) → IsDistinct bytes_eq (tokens_of (earlier ++ users)) → users_of n earlier (lines_of (flat_map user_text users)) ≡ Ok (earlier ++ users)
users_read n earlier [] tokens names distinct = ap Ok (sym (append-nil earlier))
users_read n earlier (pair ∷ users) tokens names distinct =
    let token : is_part pair.0 ≡ true = All-head (λ x. is_part x ≡ true) pair.0 (tokens_of users) tokens in
    let user : is_user pair.1 ≡ true = All-head (λ x. is_user x ≡ true) pair.1 (names_of users) names in
    let line : List ℕ = join_with_byte 0x20 (pair.0 ∷ pair.1 ∷ []) in
    let cut : lines_of (flat_map user_text (pair ∷ users)) ≡ line ∷ lines_of (flat_map user_text users) =
    line_in_front line (flat_map user_text users)
    (joined_without pair.0 pair.1 (part_without 0x0A pair.0 (lit< tt) token) (part_without 0x0A pair.1 (lit< tt) (and_parts _ _ user).0))
    in
    let regroup : (earlier ++ pair ∷ []) ++ users ≡ earlier ++ pair ∷ users = append_assoc earlier (pair ∷ []) users in
    ap (users_of n earlier) cut
    ∙ users_of_good n earlier line (lines_of (flat_map user_text users)) pair (some_piece 0x0A (flat_map user_text users)) (pair_read earlier pair token user (is_fresh earlier users pair distinct))
    ∙ users_read (n + 1) (earlier ++ pair ∷ []) users
    (All-tail (λ x. is_part x ≡ true) pair.0 (tokens_of users) tokens)
    (All-tail (λ x. is_user x ≡ true) pair.1 (names_of users) names)
    (subst (λ (u : Pairs). IsDistinct bytes_eq (tokens_of u)) (sym regroup) distinct)
    ∙ ap Ok regroup

pub text_read : (table : Table) → IsTable table → table_of (table_text table) ≡ Ok table
text_read table good =
    let environment : is_part table.environment ≡ true = environment_is_part table.environment good.environment in
    let rest : List ℕ = flat_map user_text table.users in
    let line : List ℕ = join_with_byte 0x20 (table.container ∷ table.environment ∷ table.api_token ∷ []) in
    let cut : parts_of line ≡ table.container ∷ table.environment ∷ table.api_token ∷ [] =
    cut_behind 0x20 table.container _ (part_without 0x20 table.container (lit< tt) good.container)
    ∙ ap (λ parts. table.container ∷ parts) (cut_behind 0x20 table.environment table.api_token (part_without 0x20 table.environment (lit< tt) environment)
    ∙ ap (λ parts. table.environment ∷ parts) (part_is_one table.api_token good.api_token))
    in
    let opened : opening_of (parts_of line) ≡ Some (record table { users = [] }) =
    ap opening_of cut ∙ cond-true _ _ _ (and_from _ _ (and_from _ _ good.container good.environment) good.api_token)
    in
    let without : All (λ b. (b == 0x0A) ≡ false) line =
    joined_without table.container _ (part_without 0x0A table.container (lit< tt) good.container)
    (joined_without table.environment table.api_token (part_without 0x0A table.environment (lit< tt) environment) (part_without 0x0A table.api_token (lit< tt) good.api_token))
    in
    table_read (table_text table) line rest table.container table.environment table.api_token table.users
    (line_in_front line rest without) (sym opened) (sym (users_read 2 [] table.users good.tokens good.users good.distinct))

-- a text that is refused is the text of no table
pub refused_is_no_table : (answer : Result Table UsersFault) (text : List ℕ) → IsToldUnless NoMemory answer (table_of text) → IfErr answer (λ fault. fault ≢ NoMemory → IsNoTable text)
refused_is_no_table (Ok table) text told = tt
refused_is_no_table (Err fault) text told =
    λ other table good same.
    let refused : Err fault ≡ table_of text = told (λ e. other (cc)) in
    let read : table_of text ≡ Ok table = ap table_of same ∙ text_read table good in
    cc

-- the user of a web token is one of the table
pub user_is_named : (users : Pairs) (token name : List ℕ) → user_of_token users token ≡ Some name → Contains (names_of users) name
user_is_named [] token name found = absurd (cc)
user_is_named (pair ∷ users) token name found = by (bytes_eq token pair.0) (user_is_named users token name) found
  where
    by : (same : Bool) → (user_of_token users token ≡ Some name → Contains (names_of users) name)
        → option_map (λ (p : List ℕ × List ℕ). p.1) (cond same (Some pair) (find (λ (p : List ℕ × List ℕ). bytes_eq token p.0) users)) ≡ Some name
        → Contains (names_of (pair ∷ users)) name
    by true later found = (0, omega arith, cc)
    by false later found = let c = later found in (suc c.0, omega (arith, c.1), c.2)
