-- What the parameters of a match took: the segments of the path.
use Rattle.std.proofs.Common.{◌≡◌, ℕ, ◌+◌, ◌-◌, ◌<◌, ◌≤◌, List, [], ◌∷◌, ◌++◌, length, take, drop, get_or, true, false, ◌&&◌, ◌==◌, Some, None, refl, sym, ap, subst, ◌∙◌, arith, codes, length-append, append_assoc, nat_lt, nat_le, Result, Ok, Err, IsUtf8}
use Rattle.std.proofs.lemmas.Bool.{false_from_ne_true}
use Rattle.std.proofs.lemmas.Bool.Decides.{nat_tests}
use Rattle.std.proofs.lemmas.List.{append-nil, get_or-append-add}
use Rattle.std.proofs.Math.Seq.{take-append_seam, drop-append_seam, drop-append-add}
use Rattle.std.proofs.lemmas.Str.{IsUtf8-take, IsUtf8-drop, IsCharBoundary-before_ascii, IsCharBoundary-after_ascii, IsUtf8-from_is_utf8, is_utf8-from_IsUtf8}
use Rattle.std.specs.Str.{is_utf8, chars}
use Rattle.matchit.specs.Rows.{param_token}
use Rattle.matchit.specs.Level.{IsText}
use Rattle.matchit.specs.Params.{walk, wild_from, wild_stop, part_of, after_token, AllText}
use Rattle.matchit.proofs.RouteLemmas.{text-of}
use Rattle.matchit.specs.Seek.{first, segment}
use Rattle.matchit.specs.declared.params.Params.{Params}
use Rattle.ck_base.specs.declared.route.Route.{Route}
use Rattle.http_front.specs.declared.route.RouteFault.{RouteFault}
use Rattle.http_front.specs.declared.route.RouteFault.TheVariants.{NoRoute}
use Rattle.http_front.specs.Routes.{Segments, segments_of, route_by, has_slash, IsRouted, database_word, group_word, name_word}
use Rattle.http_front.specs.Matching.{path_tokens, path_route, path_rows, parts_taken, segments_named}
use Rattle.http_front.proofs.RouteLemmas.{segments_within, segments-spelled, environment-whole, environment-some, database-named, database-some, operation-named, operation-spelled, routed_path, refused}
use Rattle.http_front.proofs.MatchLemmas.{segment_cut, words_text, tokens_4, tokens_3, tokens_2, tokens_1, IsParted, parted_found, found_parted}

-- ---- what the parameters took

-- over bytes of the form the walk comes to the next parameter
wild_run : (w u : List ℕ) (len token at : ℕ) → IsText w → at + length w ≤ len → wild_from (w ++ param_token ∷ u) len token at ≡ (token + length w, at + length w)
wild_run [] u len token at text fits =
    let t : token ≡ token + 0 = omega arith in
    let a : at ≡ at + 0 = omega arith in
    (λ i. (t i, a i))
wild_run (x ∷ w) u len token at text fits =
    let low : nat_lt x param_token ≡ true = grind (arith, nat_tests, text.0) in
    let inside : nat_lt at len ≡ true = grind (arith, nat_tests) in
    let t : (token + 1) + length w ≡ token + length (x ∷ w) = omega arith in
    let a : (at + 1) + length w ≡ at + length (x ∷ w) = omega arith in
    rw (low, inside) (wild_run w u len (token + 1) (at + 1) text.1 (omega arith) ∙ (λ i. (t i, a i)))

-- a segment is the part of the path between two places
part_taken : (path front a behind : List ℕ) → path ≡ front ++ (a ++ behind) → part_of path (length front) (length front + length a) ≡ a
part_taken path front a behind e =
    let len : length (front ++ (a ++ behind)) ≡ length front + (length a + length behind) = omega (arith, length-append front (a ++ behind), length-append a behind) in
    let low : nat_le (length front) (length front + length a) ≡ true = grind (arith, nat_tests) in
    let high : nat_le (length front + length a) (length (front ++ (a ++ behind))) ≡ true = grind (arith, nat_tests, len) in
    let size : length front + length a - length front ≡ length a = omega arith in
    rw (e, low, high, size, drop-append_seam front (a ++ behind)) (take-append_seam a behind)

-- where a segment with a slash behind it ends
stop_at : (path front a behind tail : List ℕ) → path ≡ front ++ (a ++ 47 ∷ behind) → has_slash a ≡ false
    → length front + length (segment (drop (length front) path)) - length (segment (47 ∷ tail)) ≡ length front + length a
stop_at path front a behind tail e none =
    rw (e, drop-append_seam front (a ++ 47 ∷ behind), segment_cut a behind none) (omega (arith, length-append a (47 ∷ [])))

-- A parameter of the form stands at these tokens, with bytes in front of it.
record IsParam (pattern : List ℕ) (token : ℕ) (w u : List ℕ) : Type 0 where
  tokens : drop token pattern ≡ w ++ param_token ∷ u
  text : IsText w
  after : drop (token + length w + 1) pattern ≡ u

-- it takes a segment
walk_step : (pattern text path front a behind w tail : List ℕ) (name : ℕ × ℕ) (names : List (ℕ × ℕ)) (token at : ℕ)
    → IsParam pattern token w (47 ∷ tail)
    → (nat_lt (token + length w) (length pattern) && (get_or pattern (token + length w) 0 == param_token) && nat_lt (token + length w + 1) (length pattern)) ≡ true
    → path ≡ front ++ (a ++ 47 ∷ behind) → at + length w ≡ length front → has_slash a ≡ false
    → walk pattern text path (name ∷ names) token at ≡ (part_of text name.0 name.1, a) ∷ walk pattern text path names (after_token (token + length w)) (length front + length a)
walk_step pattern text path front a behind w tail name names token at is test e here none =
    let fits : at + length w ≤ length path = omega (arith, ap length e, length-append front (a ++ 47 ∷ behind)) in
    let run : wild_from (drop token pattern) (length path) token at ≡ (token + length w, length front) =
    rw is.tokens (wild_run w (47 ∷ tail) (length path) token at is.text fits ∙ ap (λ (n : ℕ). (token + length w, n)) here)
    in
    let stop : wild_stop pattern (token + length w) path (length front) ≡ length front + length a =
    rw (test, is.after) (stop_at path front a behind tail e none)
    in
    ap (λ (v : ℕ × ℕ). (part_of text name.0 name.1, part_of path v.1 (wild_stop pattern v.0 path v.1)) ∷ walk pattern text path names (after_token v.0) (wild_stop pattern v.0 path v.1)) run
    ∙ ap (λ (n : ℕ). (part_of text name.0 name.1, part_of path (length front) n) ∷ walk pattern text path names (after_token (token + length w)) n) stop
    ∙ ap (λ (l : List ℕ). (part_of text name.0 name.1, l) ∷ walk pattern text path names (after_token (token + length w)) (length front + length a)) (part_taken path front a (47 ∷ behind) e)

-- a list of one part
abbrev alone : List ℕ × List ℕ → List (List ℕ × List ℕ)
alone part = part ∷ []

-- the last takes the rest
walk_end : (pattern text path front a w : List ℕ) (name : ℕ × ℕ) (token at : ℕ)
    → IsParam pattern token w []
    → (nat_lt (token + length w) (length pattern) && (get_or pattern (token + length w) 0 == param_token) && nat_lt (token + length w + 1) (length pattern)) ≡ false
    → path ≡ front ++ a → at + length w ≡ length front
    → walk pattern text path (name ∷ []) token at ≡ (part_of text name.0 name.1, a) ∷ []
walk_end pattern text path front a w name token at is test e here =
    let len : length path ≡ length front + length a = ap length e ∙ length-append front a in
    let fits : at + length w ≤ length path = omega (arith, len) in
    let run : wild_from (drop token pattern) (length path) token at ≡ (token + length w, length front) =
    rw is.tokens (wild_run w [] (length path) token at is.text fits ∙ ap (λ (n : ℕ). (token + length w, n)) here)
    in
    let stop : wild_stop pattern (token + length w) path (length front) ≡ length front + length a = rw test len in
    let nil : path ≡ front ++ (a ++ []) = e ∙ ap (λ l. front ++ l) (sym (append-nil a)) in
    ap (λ (v : ℕ × ℕ). alone (part_of text name.0 name.1, part_of path v.1 (wild_stop pattern v.0 path v.1))) run
    ∙ ap (λ (n : ℕ). alone (part_of text name.0 name.1, part_of path (length front) n)) stop
    ∙ ap (λ (l : List ℕ). alone (part_of text name.0 name.1, l)) (part_taken path front a [] nil)

-- the parts by the names of the form
abbrev pub named_parts : Segments → List (List ℕ × List ℕ)
named_parts s =
    (codes "container", s.container) ∷ (codes "environment", s.environment) ∷ (codes "database", s.database) ∷ (codes "group", s.group)
    ∷ (codes "name", s.name) ∷ []

-- what stands behind a segment and its slash
moved : (path front a rest : List ℕ) → path ≡ front ++ (a ++ 47 ∷ rest) → path ≡ (front ++ (a ++ 47 ∷ [])) ++ rest
moved path front a rest e = e ∙ sym (append_assoc front (a ++ 47 ∷ []) rest ∙ ap (λ l. front ++ l) (append_assoc a (47 ∷ []) rest))

place_behind : (front a : List ℕ) → length front + length a + 1 ≡ length (front ++ (a ++ 47 ∷ []))
place_behind front a = omega (arith, length-append front (a ++ 47 ∷ []), length-append a (47 ∷ []))

pub parts_are : (path : List ℕ) (s : Segments) → IsParted path s → walk path_tokens path_route.text path path_route.names 0 0 ≡ named_parts s
parts_are path s is =
    let f0 : List ℕ = codes "/database/1/" in
    let f1 : List ℕ = f0 ++ (s.container ++ 47 ∷ []) in
    let f2 : List ℕ = f1 ++ (s.environment ++ 47 ∷ []) in
    let f3 : List ℕ = f2 ++ (s.database ++ 47 ∷ []) in
    let f4 : List ℕ = f3 ++ (s.group ++ 47 ∷ []) in
    let r3 : List ℕ = s.group ++ 47 ∷ s.name in
    let r2 : List ℕ = s.database ++ 47 ∷ r3 in
    let r1 : List ℕ = s.environment ++ 47 ∷ r2 in
    let e1 : path ≡ f1 ++ r1 = moved path f0 s.container r1 is.whole in
    let e2 : path ≡ f2 ++ r2 = moved path f1 s.environment r2 e1 in
    let e3 : path ≡ f3 ++ r3 = moved path f2 s.database r3 e2 in
    let e4 : path ≡ f4 ++ s.name = moved path f3 s.group s.name e3 in
    let p0 : IsParam path_tokens 0 (codes "/database/1/") (47 ∷ tokens_1) = record { tokens = refl; text = words_text; after = refl } in
    let p1 : IsParam path_tokens 13 (47 ∷ []) (47 ∷ tokens_2) = record { tokens = refl; text = text-of (47 ∷ []) refl; after = refl } in
    let p2 : IsParam path_tokens 15 (47 ∷ []) (47 ∷ tokens_3) = record { tokens = refl; text = text-of (47 ∷ []) refl; after = refl } in
    let p3 : IsParam path_tokens 17 (47 ∷ []) (47 ∷ tokens_4) = record { tokens = refl; text = text-of (47 ∷ []) refl; after = refl } in
    let p4 : IsParam path_tokens 19 (47 ∷ []) [] = record { tokens = refl; text = text-of (47 ∷ []) refl; after = refl } in
    walk_step path_tokens path_route.text path f0 s.container r1 (codes "/database/1/") tokens_1 (13, 22) ((25, 36) ∷ (39, 47) ∷ (50, 55) ∷ (58, 62) ∷ []) 0 0 p0 refl is.whole refl is.container
    ∙ ap (λ l. (codes "container", s.container) ∷ l) (walk_step path_tokens path_route.text path f1 s.environment r2 (47 ∷ []) tokens_2 (25, 36) ((39, 47) ∷ (50, 55) ∷ (58, 62) ∷ []) 13 _ p1 refl e1 (place_behind f0 s.container) is.environment
    ∙ ap (λ l. (codes "environment", s.environment) ∷ l) (walk_step path_tokens path_route.text path f2 s.database r3 (47 ∷ []) tokens_3 (39, 47) ((50, 55) ∷ (58, 62) ∷ []) 15 _ p2 refl e2 (place_behind f1 s.environment) is.database
    ∙ ap (λ l. (codes "database", s.database) ∷ l) (walk_step path_tokens path_route.text path f3 s.group s.name (47 ∷ []) tokens_4 (50, 55) ((58, 62) ∷ []) 17 _ p3 refl e3 (place_behind f2 s.database) is.group
    ∙ ap (λ l. (codes "group", s.group) ∷ l) (walk_end path_tokens path_route.text path f4 s.name (47 ∷ []) (58, 62) 19 _ p4 refl e4 (place_behind f3 s.group)))))

-- ---- the parts are texts

utf8_cut : (a rest : List ℕ) → IsUtf8 (a ++ 47 ∷ rest) → IsUtf8 a × IsUtf8 rest
utf8_cut a rest text =
    let slash : get_or (a ++ 47 ∷ rest) (length a) 0 ≡ 47 = ap (λ n. get_or (a ++ 47 ∷ rest) n 0) (add-zero-right (length a)) ∙ get_or-append-add a (47 ∷ rest) 0 0 in
    let within : length a < length (a ++ 47 ∷ rest) = omega (arith, length-append a (47 ∷ rest)) in
    let low : get_or (a ++ 47 ∷ rest) (length a) 0 < 128 = omega (arith, slash) in
    let front : IsUtf8 (take (length a) (a ++ 47 ∷ rest)) = IsUtf8-take _ (length a) text (IsCharBoundary-before_ascii _ (length a) within low) in
    let behind : IsUtf8 (drop (length a + 1) (a ++ 47 ∷ rest)) = IsUtf8-drop _ (length a + 1) text (IsCharBoundary-after_ascii _ (length a) text within low) in
    (subst IsUtf8 (take-append_seam a (47 ∷ rest)) front, subst IsUtf8 (drop-append-add a (47 ∷ rest) 1) behind)
  where
    add-zero-right : (n : ℕ) → n ≡ n + 0
    add-zero-right n = omega arith

names_are_texts : (is_utf8 (codes "container") ≡ true) × (is_utf8 (codes "environment") ≡ true) × (is_utf8 (codes "database") ≡ true) × (is_utf8 (codes "group") ≡ true) × (is_utf8 (codes "name") ≡ true)
unfolding is_utf8 chars lib.Utf8.encode
names_are_texts = (refl, refl, refl, refl, refl)

pub parts_are_texts : (path : List ℕ) (s : Segments) → IsUtf8 path → IsParted path s → AllText (named_parts s)
parts_are_texts path s text is =
    let p = utf8_cut (codes "/database/1") _ (subst IsUtf8 is.whole text) in
    let c = utf8_cut s.container _ p.1 in
    let e = utf8_cut s.environment _ c.1 in
    let d = utf8_cut s.database _ e.1 in
    let g = utf8_cut s.group _ d.1 in
    let n = names_are_texts in
    (IsUtf8-from_is_utf8 _ n.0, c.0, (IsUtf8-from_is_utf8 _ n.1, e.0, (IsUtf8-from_is_utf8 _ n.2, d.0, (IsUtf8-from_is_utf8 _ n.3, g.0, (IsUtf8-from_is_utf8 _ n.4, g.1, tt)))))

-- ---- what is found is the route

-- The parameters of a match are texts, and by their names the segments of the path.
pub record IsTaken (p : Params) (path : List ℕ) : Type 0 where
  pub texts : AllText (parts_taken p)
  pub segments : segments_named (parts_taken p) ≡ segments_of path

pub taken : (p : Params) (path : List ℕ) → IsText path → IsUtf8 path → p.path.now ≡ path
    → first path_rows path ≡ Some (record { pattern = p.pattern.now; text = p.text.now; names = p.names.now; value = tt })
    → IsTaken p path
taken p path bytes text same e =
    let h = found_parted path (record { pattern = p.pattern.now; text = p.text.now; names = p.names.now; value = tt }) bytes e in
    let s = h.segments in
    let parts : parts_taken p ≡ named_parts s = (λ i. walk (h.form i).pattern (h.form i).text (same i) (h.form i).names 0 0) ∙ parts_are path s h.is in
    let whole : segments_of path ≡ Some s =
    segments_within path _ (is_utf8-from_IsUtf8 path text) h.is.whole
    ∙ segments-spelled s.container s.environment s.database s.group s.name h.is.container h.is.environment h.is.database h.is.group
    in
    record {
      texts = subst AllText (sym parts) (parts_are_texts path s text h.is);
      segments = ap segments_named parts ∙ sym whole;
    }

-- what is no text has no route
pub no_text : (method path : List ℕ) → (IsUtf8 path → ⊥) → route_by method (segments_of path) ≡ Err NoRoute
no_text method path none =
    let no : is_utf8 path ≡ false = false_from_ne_true _ (λ is. none (IsUtf8-from_is_utf8 path is)) in
    rw no refl

-- the path of a route is found
routed_found : (method path : List ℕ) (r : Route) → IsText path → IsRouted method path r → first path_rows path ≡ Some path_route
routed_found method path r text is =
    let o = operation-spelled r.operation in
    let s : Segments = record { container = is.container; environment = is.environment; database = database_word r.database; group = group_word r.operation; name = name_word r.operation } in
    parted_found path s text (record {
      whole = is.spelled;
      container = is.whole;
      environment = environment-whole is.environment is.known;
      database = (database-named r.database).1;
      group = (operation-named r.operation).1;
      name = o.2;
    })
    (record { container = is.some; environment = environment-some is.environment is.known; database = database-some r.database; group = o.0; name = o.1 })

-- what is not found has no route
pub unmatched : (method path : List ℕ) → IsText path → first path_rows path ≡ None → route_by method (segments_of path) ≡ Err NoRoute
unmatched method path text none = by (route_by method (segments_of path)) refl
  where
    by : (answer : Result Route RouteFault) → route_by method (segments_of path) ≡ answer → answer ≡ Err NoRoute
    by (Ok r) e =
        let found : first path_rows path ≡ Some path_route = routed_found method path r text (routed_path method path r e) in
        absurd (cc)
    by (Err fault) e = ap (λ (f : RouteFault). Err f) (refused method (segments_of path) fault e)
