-- What the walk of the router finds over its one form: the split of a path at its slashes.
use Rattle.std.proofs.Common.{◌≡◌, ℕ, zero, suc, ◌+◌, ◌-◌, ◌<◌, ◌≤◌, List, [], ◌∷◌, ◌++◌, length, take, drop, get_or, Bool, true, false, cond, ◌&&◌, ◌||◌, not, ◌==◌, Option, Some, None, refl, sym, ap, subst, ◌∙◌, arith, codes, length-append, nat_lt}
use Rattle.std.proofs.lemmas.Bool.{or_parts, and_parts, false_from_ne_true}
use Rattle.std.proofs.lemmas.Bool.Decides.{nat_tests}
use Rattle.std.proofs.lemmas.List.{take-append-drop}
use Rattle.std.proofs.lemmas.Slice.Eq.{bytes_eq-Decides}
use Rattle.std.proofs.Math.Seq.{drop-append_seam, drop-length}
use Rattle.std.specs.Prelude.{option_map}
use Rattle.std.specs.List.{position, position_or_len}
use Rattle.std.specs.Str.{bytes_eq}
use Rattle.matchit.specs.Rows.{RowsOf, param_token, catch_all_token}
use Rattle.matchit.specs.Router.{RouteOf}
use Rattle.matchit.specs.Level.{IsText}
use Rattle.matchit.proofs.RouteLemmas.{text-of}
use Rattle.matchit.specs.Seek.{or_else, seek, first, param_step, after_param, segment, cuts, has_slash as slashes}
use Rattle.http_front.specs.Routes.{cut, Segments, has_slash}
use Rattle.http_front.specs.Matching.{path_route, path_rows}
use Rattle.http_front.proofs.RouteLemmas.{IsCut, cut-parts}
use Rattle.http_front.proofs.UsersLemmas.{position_none}

abbrev pub Found : Type 0
Found = RouteOf (Unit {0})

-- one row
abbrev one : List ℕ → Found → RowsOf Found
one tokens found = (tokens, found) ∷ []

-- ---- a step of the walk

none_go_on : (p : List ℕ) → (param_step {K = Found} [] p).1 ≡ []
unfolding param_step
none_go_on p =
    elim (slashes p) as (λ v. (cond {A = ℕ × RowsOf Found} v (0, []) (length p, [])).1 ≡ []) [
      | true ↦ refl
      | false ↦ refl
    ]

none_found : (n : ℕ) (p : List ℕ) → seek {K = Found} n [] p ≡ None
unfolding seek
none_found n [] = refl
none_found (suc n) (b ∷ p) = none_found n p
none_found zero (b ∷ p) = simp (none_found 0 p, none_go_on (b ∷ p), none_found (((param_step {K = Found} [] (b ∷ p)).0) - 1) p)

skip_on : (n : ℕ) (rows : RowsOf Found) (p : List ℕ) → seek n rows p ≡ seek 0 rows (drop n p)
unfolding seek
skip_on zero rows p = refl
skip_on (suc n) rows [] = refl
skip_on (suc n) rows (b ∷ p) = skip_on n rows p

or_none : (a : Option Found) → or_else a None ≡ a
or_none None = refl
or_none (Some found) = refl

-- a byte of the form is met by that byte alone
byte_met : (x : ℕ) (t : List ℕ) (k : Found) (y : ℕ) (p : List ℕ) → x < 256 → seek 0 (one (x ∷ t) k) (y ∷ p) ≡ cond (x == y) (seek 0 (one t k) p) None
unfolding seek
byte_met x t k y p h =
    let n1 : (x == param_token) ≡ false = grind (arith, nat_tests) in
    let n2 : (x == catch_all_token) ≡ false = grind (arith, nat_tests) in
    let met : seek 0 (one (x ∷ t) k) (y ∷ p) ≡ seek 0 (cond (x == y) (one t k) []) p =
    simp (n1, n2, none_go_on (y ∷ p), none_found ((param_step {K = Found} [] (y ∷ p)).0 - 1) p, or_none)
    in
    met ∙ by (x == y)
  where
    by : (v : Bool) → seek 0 (cond v (one t k) []) p ≡ cond v (seek 0 (one t k) p) None
    by true = refl
    by false = none_found 0 p

-- a parameter takes what its step says
param_met : (t : List ℕ) (k : Found) (b : ℕ) (p : List ℕ) → b < 256 → seek 0 (one (param_token ∷ t) k) (b ∷ p) ≡ after_param (one t k) (b ∷ p)
unfolding seek
param_met t k b p h =
    let n : (param_token == b) ≡ false = grind (arith, nat_tests) in
    simp (n, none_found 0 p, or_none)

-- ---- segments

same_slash : (p : List ℕ) → slashes p ≡ has_slash p
same_slash [] = refl
same_slash (x ∷ p) = elim (x == 47) as (λ v. cond v true (slashes p) ≡ v || has_slash p) [ true ↦ refl | false ↦ same_slash p ]

slash_in : (a rest : List ℕ) → has_slash (a ++ 47 ∷ rest) ≡ true
slash_in [] rest = refl
slash_in (x ∷ a) rest = elim (x == 47) as (λ v. (v || has_slash (a ++ 47 ∷ rest)) ≡ true) [ true ↦ refl | false ↦ slash_in a rest ]

pub segment_cut : (a rest : List ℕ) → has_slash a ≡ false → segment (a ++ 47 ∷ rest) ≡ a ++ 47 ∷ []
segment_cut [] rest none = refl
segment_cut (x ∷ a) rest none =
    let parts = or_parts (x == 47) (has_slash a) none in
    rw parts.0 (ap (λ l. x ∷ l) (segment_cut a rest parts.1))

segment_whole : (p : List ℕ) → has_slash p ≡ false → segment p ≡ p
segment_whole [] none = refl
segment_whole (x ∷ p) none =
    let parts = or_parts (x == 47) (has_slash p) none in
    rw parts.0 (ap (λ l. x ∷ l) (segment_whole p parts.1))

no_suffix : (p : List ℕ) → has_slash p ≡ false → cuts p (47 ∷ []) ≡ false
no_suffix p none =
    false_from_ne_true _ (λ is.
    let parts = and_parts _ _ is in
    let last : 47 ∷ [] ≡ drop (length p - 1) p = (bytes_eq-Decides (47 ∷ []) (drop (length p - 1) p)).0 parts.1 in
    let whole : p ≡ take (length p - 1) p ++ 47 ∷ [] = sym (take-append-drop (length p - 1) p) ∙ ap (λ l. take (length p - 1) p ++ l) (sym last) in
    let has : has_slash p ≡ true = ap has_slash whole ∙ slash_in (take (length p - 1) p) [] in
    cc)

is_suffix : (x : ℕ) (a : List ℕ) → cuts (x ∷ a ++ 47 ∷ []) (47 ∷ []) ≡ true
is_suffix x a =
    let at : length (x ∷ a ++ 47 ∷ []) - 1 ≡ length (x ∷ a) = omega (arith, length-append a (47 ∷ [])) in
    let more : nat_lt 1 (length (x ∷ a ++ 47 ∷ [])) ≡ true = grind (arith, nat_tests, length-append a (47 ∷ [])) in
    rw (more, at, drop-append_seam (x ∷ a) (47 ∷ [])) refl

-- ---- a parameter and the slash behind it

-- no slash follows
param_stays : (t : List ℕ) (k : Found) (p : List ℕ) → has_slash p ≡ false → param_step (one (47 ∷ t) k) p ≡ (length p, one (47 ∷ t) k)
unfolding param_step
param_stays t k p none = rw (segment_whole p none, no_suffix p none, same_slash p, none) refl

-- nothing stands before the slash
param_empty : (t : List ℕ) (k : Found) (rest : List ℕ) → param_step (one (47 ∷ t) k) (47 ∷ rest) ≡ (0, [])
unfolding param_step
param_empty t k rest = refl

-- a segment stands before the slash
param_takes : (t : List ℕ) (k : Found) (x : ℕ) (a rest : List ℕ) → has_slash (x ∷ a) ≡ false → param_step (one (47 ∷ t) k) (x ∷ a ++ 47 ∷ rest) ≡ (length (x ∷ a), one (47 ∷ t) k)
unfolding param_step
param_takes t k x a rest none =
    let at : length (x ∷ a ++ 47 ∷ []) - 1 ≡ length (x ∷ a) = omega (arith, length-append a (47 ∷ [])) in
    rw (segment_cut (x ∷ a) rest none, is_suffix x a, at) refl

-- what the walk finds behind a segment and its slash
abbrev after_cut : List ℕ → Found → Option (List ℕ × List ℕ) → Option Found
after_cut t k None = None
after_cut t k (Some parts) = cond (length parts.0 == 0) None (seek 0 (one t k) parts.1)

met_empty : (t : List ℕ) (k : Found) (rest : List ℕ) → after_param (one (47 ∷ t) k) (47 ∷ rest) ≡ None
met_empty t k rest = rw (param_empty t k rest) (none_found 0 rest)

met_segment : (t : List ℕ) (k : Found) (x : ℕ) (a rest : List ℕ) → has_slash (x ∷ a) ≡ false → after_param (one (47 ∷ t) k) (x ∷ a ++ 47 ∷ rest) ≡ seek 0 (one t k) rest
met_segment t k x a rest none =
    let less : length (x ∷ a) - 1 ≡ length a = omega arith in
    rw (param_takes t k x a rest none, less) (skip_on (length a) (one (47 ∷ t) k) (a ++ 47 ∷ rest) ∙ ap (seek 0 (one (47 ∷ t) k)) (drop-append_seam a (47 ∷ rest)) ∙ byte_met 47 t k 47 rest (omega arith))

pub met_last : (t : List ℕ) (k : Found) (b : ℕ) (p : List ℕ) → has_slash (b ∷ p) ≡ false → after_param (one (47 ∷ t) k) (b ∷ p) ≡ None
unfolding seek
met_last t k b p none =
    let less : length (b ∷ p) - 1 ≡ length p = omega arith in
    rw (param_stays t k (b ∷ p) none, less) (skip_on (length p) (one (47 ∷ t) k) p ∙ ap (seek 0 (one (47 ∷ t) k)) (drop-length p))

-- ---- the cut at a slash

none_before : (p : List ℕ) → length p ≤ position_or_len (λ b. b == 47) p → has_slash p ≡ false
none_before [] far = refl
none_before (x ∷ p) far = by (x == 47) (none_before p) far
  where
    by : (v : Bool) → (length p ≤ position_or_len (λ b. b == 47) p → has_slash p ≡ false) → length (x ∷ p) ≤ cond (not v) (1 + position_or_len (λ b. b == 47) p) 0 → (v || has_slash p) ≡ false
    by true rest far = absurd (omega arith)
    by false rest far = rest (omega arith)

uncut : (p : List ℕ) → cut p ≡ None → has_slash p ≡ false
uncut p e = by (position (λ b. b == 47) p) refl e
  where
    by : (o : Option ℕ) → position (λ b. b == 47) p ≡ o → option_map {U = List ℕ × List ℕ} (λ at. (take at p, drop (at + 1) p)) o ≡ None → has_slash p ≡ false
    by None is e = none_before p (position_none (λ b. b == 47) p is)
    by (Some at) is e = absurd (cc)

-- what the walk finds behind the first segment
segment_met : (t : List ℕ) (k : Found) (p : List ℕ) → IsText p → seek 0 (one (param_token ∷ 47 ∷ t) k) p ≡ after_cut t k (cut p)
unfolding seek
segment_met t k [] text = refl
segment_met t k (b ∷ q) text = param_met (47 ∷ t) k b q text.0 ∙ by (cut (b ∷ q)) refl
  where
    by : (o : Option (List ℕ × List ℕ)) → cut (b ∷ q) ≡ o → after_param (one (47 ∷ t) k) (b ∷ q) ≡ after_cut t k o
    by None e = met_last t k b q (uncut (b ∷ q) e)
    by (Some ([], rest)) e = ap (after_param (one (47 ∷ t) k)) (cut-parts (b ∷ q) [] rest e).whole ∙ met_empty t k rest
    by (Some (x ∷ a, rest)) e =
        let parts = cut-parts (b ∷ q) (x ∷ a) rest e in
        let some : (length (x ∷ a) == 0) ≡ false = grind (arith, nat_tests) in
        rw some (ap (after_param (one (47 ∷ t) k)) parts.whole ∙ met_segment t k x a rest parts.plain)

-- the last segment is all that is left
last_met : (k : Found) (p : List ℕ) → IsText p → seek 0 (one (param_token ∷ []) k) p ≡ cond (length p == 0 || has_slash p) None (Some k)
unfolding seek param_step
last_met k [] text = refl
last_met k (b ∷ q) text = param_met [] k b q text.0 ∙ by (slashes (b ∷ q)) refl
  where
    by : (v : Bool) → slashes (b ∷ q) ≡ v → after_param (one [] k) (b ∷ q) ≡ cond (length (b ∷ q) == 0 || has_slash (b ∷ q)) None (Some k)
    by true e =
        let has : has_slash (b ∷ q) ≡ true = sym (same_slash (b ∷ q)) ∙ e in
        let some : (length (b ∷ q) == 0) ≡ false = grind (arith, nat_tests) in
        rw (e, has, some) (none_found 0 q)
    by false e =
        let has : has_slash (b ∷ q) ≡ false = sym (same_slash (b ∷ q)) ∙ e in
        let less : length (b ∷ q) - 1 ≡ length q = omega arith in
        let some : (length (b ∷ q) == 0) ≡ false = grind (arith, nat_tests) in
        rw (e, has, less, some) (skip_on (length q) (one [] k) q ∙ ap (seek 0 (one [] k)) (drop-length q))

-- the bytes of the form in front
front_met : (w t : List ℕ) (k : Found) (p : List ℕ) → IsText w → seek 0 (one (w ++ t) k) p ≡ cond (bytes_eq (take (length w) p) w) (seek 0 (one t k) (drop (length w) p)) None
unfolding seek
front_met [] t k p text = refl
front_met (x ∷ w) t k [] text = refl
front_met (x ∷ w) t k (y ∷ p) text = byte_met x (w ++ t) k y p text.0 ∙ by (x == y) refl (front_met w t k p text.1)
  where
    by : (v : Bool) → (x == y) ≡ v
        → seek 0 (one (w ++ t) k) p ≡ cond (bytes_eq (take (length w) p) w) (seek 0 (one t k) (drop (length w) p)) None
        → cond v (seek 0 (one (w ++ t) k) p) None ≡ cond ((y == x) && bytes_eq (take (length w) p) w) (seek 0 (one t k) (drop (length w) p)) None
    by true e rest =
        let back : (y == x) ≡ true = grind (arith, nat_tests) in
        rw back rest
    by false e rest =
        let back : (y == x) ≡ false = grind (arith, nat_tests) in
        rw back refl

-- ---- a path in its parts

-- The path is the five segments behind the first two words, and no segment has a slash.
pub record IsParted (path : List ℕ) (s : Segments) : Type 0 where
  pub whole : path ≡ codes "/database/1/" ++ (s.container ++ 47 ∷ (s.environment ++ 47 ∷ (s.database ++ 47 ∷ (s.group ++ 47 ∷ s.name))))
  pub container : has_slash s.container ≡ false
  pub environment : has_slash s.environment ≡ false
  pub database : has_slash s.database ≡ false
  pub group : has_slash s.group ≡ false
  pub name : has_slash s.name ≡ false

-- No segment is empty.
pub record IsFilled (s : Segments) : Type 0 where
  pub container : 0 < length s.container
  pub environment : 0 < length s.environment
  pub database : 0 < length s.database
  pub group : 0 < length s.group
  pub name : 0 < length s.name

pub are_bytes : (p : List ℕ) → ((i : ℕ) → get_or p i 0 < 256) → IsText p
are_bytes [] each = tt
are_bytes (x ∷ p) each = (each 0, are_bytes p (λ i. each (suc i)))

text_front : (a b : List ℕ) → IsText (a ++ b) → IsText a
text_front [] b text = tt
text_front (x ∷ a) b text = (text.0, text_front a b text.1)

text_behind : (a b : List ℕ) → IsText (a ++ b) → IsText b
text_behind [] b text = text
text_behind (x ∷ a) b text = text_behind a b text.1

pub words_text : IsText (codes "/database/1/")
words_text = text-of (codes "/database/1/") refl

-- a segment that is there is passed with its slash
passed : (t : List ℕ) (k : Found) (a rest : List ℕ) → 0 < length a → has_slash a ≡ false → IsText (a ++ 47 ∷ rest) → seek 0 (one (param_token ∷ 47 ∷ t) k) (a ++ 47 ∷ rest) ≡ seek 0 (one t k) rest
passed t k [] rest some none text = absurd (omega arith)
passed t k (x ∷ a) rest some none text = param_met (47 ∷ t) k x (a ++ 47 ∷ rest) text.0 ∙ met_segment t k x a rest none

-- the tokens behind so many segments
abbrev pub tokens_4 : List ℕ
tokens_4 = param_token ∷ []

abbrev pub tokens_3 : List ℕ
tokens_3 = param_token ∷ 47 ∷ tokens_4

abbrev pub tokens_2 : List ℕ
tokens_2 = param_token ∷ 47 ∷ tokens_3

abbrev pub tokens_1 : List ℕ
tokens_1 = param_token ∷ 47 ∷ tokens_2

abbrev tokens_0 : List ℕ
tokens_0 = param_token ∷ 47 ∷ tokens_1

-- a path in full parts is found
pub parted_found : (path : List ℕ) (s : Segments) → IsText path → IsParted path s → IsFilled s → first path_rows path ≡ Some path_route
parted_found path s text is filled =
    let r4 = s.name in
    let r3 : List ℕ = s.group ++ 47 ∷ r4 in
    let r2 : List ℕ = s.database ++ 47 ∷ r3 in
    let r1 : List ℕ = s.environment ++ 47 ∷ r2 in
    let r0 : List ℕ = s.container ++ 47 ∷ r1 in
    let t0 : IsText r0 = text_behind (codes "/database/1/") r0 (subst IsText is.whole text) in
    let t1 : IsText r1 = (text_behind s.container (47 ∷ r1) t0).1 in
    let t2 : IsText r2 = (text_behind s.environment (47 ∷ r2) t1).1 in
    let t3 : IsText r3 = (text_behind s.database (47 ∷ r3) t2).1 in
    let t4 : IsText r4 = (text_behind s.group (47 ∷ r4) t3).1 in
    let some : (length r4 == 0) ≡ false = grind (arith, nat_tests, filled.name) in
    let last : seek 0 (one tokens_4 path_route) r4 ≡ Some path_route = last_met path_route r4 t4 ∙ rw (some, is.name) refl in
    ap (first path_rows) is.whole
    ∙ front_met (codes "/database/1/") tokens_0 path_route (codes "/database/1/" ++ r0) words_text
    ∙ passed tokens_1 path_route s.container r1 filled.container is.container t0
    ∙ passed tokens_2 path_route s.environment r2 filled.environment is.environment t1
    ∙ passed tokens_3 path_route s.database r3 filled.database is.database t2
    ∙ passed tokens_4 path_route s.group r4 filled.group is.group t3
    ∙ last

-- The walk met a segment and its slash, and went on behind them.
record MetSegment (t : List ℕ) (k : Found) (p : List ℕ) (r : Found) : Type 0 where
  front : List ℕ
  rest : List ℕ
  is : IsCut p front rest
  text : IsText rest
  next : seek 0 (one t k) rest ≡ Some r

met : (t : List ℕ) (k : Found) (p : List ℕ) (r : Found) → IsText p → seek 0 (one (param_token ∷ 47 ∷ t) k) p ≡ Some r → MetSegment t k p r
met t k p r text e = by (cut p) refl (sym (segment_met t k p text) ∙ e)
  where
    by : (o : Option (List ℕ × List ℕ)) → cut p ≡ o → after_cut t k o ≡ Some r → MetSegment t k p r
    by None is e = absurd (cc)
    by (Some (front, rest)) is e = on (length front == 0) e
      where
        on : (v : Bool) → cond v None (seek 0 (one t k) rest) ≡ Some r → MetSegment t k p r
        on true e = absurd (cc)
        on false e =
            let parts = cut-parts p front rest is in
            record {
              front = front;
              rest = rest;
              is = parts;
              text = (text_behind front (47 ∷ rest) (subst IsText parts.whole text)).1;
              next = e;
            }

met_end : (k : Found) (p : List ℕ) (r : Found) → IsText p → seek 0 (one tokens_4 k) p ≡ Some r → (has_slash p ≡ false) × (r ≡ k)
met_end k p r text e = by (length p == 0) (has_slash p) refl (sym (last_met k p text) ∙ e)
  where
    by : (u v : Bool) → has_slash p ≡ v → cond (u || v) None (Some k) ≡ Some r → (has_slash p ≡ false) × (r ≡ k)
    by true v is e = absurd (cc)
    by false true is e = absurd (cc)
    by false false is e = (is, cc)

met_front : (path : List ℕ) (r : Found) → first path_rows path ≡ Some r → (path ≡ codes "/database/1/" ++ drop 12 path) × (seek 0 (one tokens_0 path_route) (drop 12 path) ≡ Some r)
met_front path r e = by (bytes_eq (take 12 path) (codes "/database/1/")) refl (sym (front_met (codes "/database/1/") tokens_0 path_route path words_text) ∙ e)
  where
    by : (v : Bool) → bytes_eq (take 12 path) (codes "/database/1/") ≡ v → cond v (seek 0 (one tokens_0 path_route) (drop 12 path)) None ≡ Some r → (path ≡ codes "/database/1/" ++ drop 12 path) × (seek 0 (one tokens_0 path_route) (drop 12 path) ≡ Some r)
    by true is e =
        let same = (bytes_eq-Decides (take 12 path) (codes "/database/1/")).0 is in
        (sym (take-append-drop 12 path) ∙ ap (λ l. l ++ drop 12 path) same, e)
    by false is e = absurd (cc)

-- What the router finds is the one form, over a path in parts.
pub record HasFound (path : List ℕ) (r : Found) : Type 0 where
  pub segments : Segments
  pub is : IsParted path segments
  pub form : r ≡ path_route

pub found_parted : (path : List ℕ) (r : Found) → IsText path → first path_rows path ≡ Some r → HasFound path r
found_parted path r text e =
    let f = met_front path r e in
    let behind : IsText (drop 12 path) = text_behind (codes "/database/1/") (drop 12 path) (subst IsText f.0 text) in
    let c = met tokens_1 path_route (drop 12 path) r behind f.1 in
    let v = met tokens_2 path_route c.rest r c.text c.next in
    let d = met tokens_3 path_route v.rest r v.text v.next in
    let g = met tokens_4 path_route d.rest r d.text d.next in
    let n = met_end path_route g.rest r g.text g.next in
    let whole : drop 12 path ≡ c.front ++ 47 ∷ (v.front ++ 47 ∷ (d.front ++ 47 ∷ (g.front ++ 47 ∷ g.rest))) =
    c.is.whole ∙ ap (λ l. c.front ++ 47 ∷ l) (v.is.whole ∙ ap (λ l. v.front ++ 47 ∷ l) (d.is.whole ∙ ap (λ l. d.front ++ 47 ∷ l) g.is.whole))
    in
    record {
      segments = record { container = c.front; environment = v.front; database = d.front; group = g.front; name = g.rest };
      is = record {
        whole = f.0 ∙ ap (λ l. codes "/database/1/" ++ l) whole;
        container = c.is.plain;
        environment = v.is.plain;
        database = d.is.plain;
        group = g.is.plain;
        name = n.0;
      };
      form = n.1;
    }
