-- A path that is formed as the service's paths are.
use Rattle.std.proofs.Common.{◌≡◌, ℕ, ◌+◌, ◌<◌, List, [], ◌∷◌, ◌++◌, length, take, drop, get_or, Bool, true, false, cond, ◌&&◌, not, Option, Some, None, Result, Ok, Err, refl, sym, ap, subst, ◌∙◌, arith, lit<}
use Rattle.std.specs.Prelude.{◌==◌, nat_lt, codes, option_map, option_and_then}
use Rattle.std.specs.List.{position, position_or_len}
use Rattle.std.specs.Str.{bytes_eq, is_utf8}
use Rattle.std.proofs.lemmas.Bool.{or_parts, and_parts}
use Rattle.std.proofs.lemmas.Bool.Decides.{nat_tests}
use Rattle.std.proofs.lemmas.List.{length-append, length-take-le, get_or-take, take-append-drop, drop_more}
use Rattle.std.proofs.lemmas.List.Folds.{list_any_none}
use Rattle.std.proofs.lemmas.List.Quantifiers.{position-Some}
use Rattle.std.proofs.lemmas.Bool.{eqb-true}
use Rattle.std.proofs.lemmas.Slice.Eq.{bytes_eq-Decides}
use Rattle.std.proofs.Math.Seq.{take-append_seam, drop-append-add}
use Rattle.ck_base.specs.declared.route.Database.{Database}
use Rattle.ck_base.specs.declared.route.Database.TheVariants.{Private, Shared, Public}
use Rattle.ck_base.specs.declared.route.Operation.{Operation}
use Rattle.ck_base.specs.declared.route.Operation.TheVariants.{RecordsModify, RecordsLookup, RecordsQuery, RecordsResolve, RecordsAccept, ZonesList, ZonesLookup, ZonesModify, ChangesZone, ChangesDatabase, SubscriptionsList, SubscriptionsLookup, SubscriptionsModify, SubscriptionsNotices}
use Rattle.ck_base.specs.declared.route.Route.{Route}
use Rattle.http_front.specs.declared.route.RouteFault.{RouteFault}
use Rattle.http_front.specs.declared.route.RouteFault.TheVariants.{NoRoute}
use Rattle.http_front.specs.Routes.{path_of, cut, Segments, database_of, records_call, zones_call, changes_call, subscriptions_call, operation_of, is_environment, is_served, served, segments_behind, segments_of, route_by, route_of, database_word, group_word, name_word, has_slash, IsRouted}

-- the first slash stands behind what has none
slash-place : (front rest : List ℕ) → has_slash front ≡ false → position_or_len (λ b. b == 47) (front ++ 47 ∷ rest) ≡ length front
slash-place [] rest none = refl
slash-place (x ∷ front) rest none =
    let parts = or_parts (x == 47) (has_slash front) none in
    rw parts.0 (rw (slash-place front rest parts.1) (omega arith))

pub cut_at : (front rest : List ℕ) → has_slash front ≡ false → cut (front ++ 47 ∷ rest) ≡ Some (front, rest)
cut_at front rest none =
    let at = slash-place front rest none in
    let within : nat_lt (length front) (length (front ++ 47 ∷ rest)) ≡ true = grind (arith, nat_tests, length-append front (47 ∷ rest)) in
    rw (at, within, take-append_seam front (47 ∷ rest), drop-append-add front (47 ∷ rest) 1) refl

pub segments-spelled : (c e d g n : List ℕ) → has_slash c ≡ false → has_slash e ≡ false → has_slash d ≡ false → has_slash g ≡ false
    → segments_behind (c ++ 47 ∷ (e ++ 47 ∷ (d ++ 47 ∷ (g ++ 47 ∷ n)))) ≡ Some (record { container = c; environment = e; database = d; group = g; name = n })
segments-spelled c e d g n hc he hd hg = rw (cut_at c (e ++ 47 ∷ (d ++ 47 ∷ (g ++ 47 ∷ n))) hc, cut_at e (d ++ 47 ∷ (g ++ 47 ∷ n)) he, cut_at d (g ++ 47 ∷ n) hd, cut_at g n hg) refl

pub database-named : (d : Database) → (database_of (database_word d) ≡ Some d) × (has_slash (database_word d) ≡ false)
database-named Private = (refl, refl)
database-named Shared = (refl, refl)
database-named Public = (refl, refl)

pub operation-named : (o : Operation) → (operation_of (group_word o) (name_word o) ≡ Some o) × (has_slash (group_word o) ≡ false)
operation-named RecordsModify = (refl, refl)
operation-named RecordsLookup = (refl, refl)
operation-named RecordsQuery = (refl, refl)
operation-named RecordsResolve = (refl, refl)
operation-named RecordsAccept = (refl, refl)
operation-named ZonesList = (refl, refl)
operation-named ZonesLookup = (refl, refl)
operation-named ZonesModify = (refl, refl)
operation-named ChangesZone = (refl, refl)
operation-named ChangesDatabase = (refl, refl)
operation-named SubscriptionsList = (refl, refl)
operation-named SubscriptionsLookup = (refl, refl)
operation-named SubscriptionsModify = (refl, refl)
operation-named SubscriptionsNotices = (refl, refl)

pub environment-whole : (e : List ℕ) → is_environment e ≡ true → has_slash e ≡ false
environment-whole e known = by_test (bytes_eq e (codes "development")) refl
  where
    by_test : (t : Bool) → bytes_eq e (codes "development") ≡ t → has_slash e ≡ false
    by_test true is = subst (λ l. has_slash l ≡ false) (sym ((bytes_eq-Decides e (codes "development")).0 is)) refl
    by_test false is = subst (λ l. has_slash l ≡ false) (sym ((bytes_eq-Decides e (codes "production")).0 (rw is at known))) refl

pub operation-spelled : (o : Operation) → (0 < length (group_word o)) × (0 < length (name_word o)) × (has_slash (name_word o) ≡ false)
operation-spelled RecordsModify = (lit< tt, lit< tt, refl)
operation-spelled RecordsLookup = (lit< tt, lit< tt, refl)
operation-spelled RecordsQuery = (lit< tt, lit< tt, refl)
operation-spelled RecordsResolve = (lit< tt, lit< tt, refl)
operation-spelled RecordsAccept = (lit< tt, lit< tt, refl)
operation-spelled ZonesList = (lit< tt, lit< tt, refl)
operation-spelled ZonesLookup = (lit< tt, lit< tt, refl)
operation-spelled ZonesModify = (lit< tt, lit< tt, refl)
operation-spelled ChangesZone = (lit< tt, lit< tt, refl)
operation-spelled ChangesDatabase = (lit< tt, lit< tt, refl)
operation-spelled SubscriptionsList = (lit< tt, lit< tt, refl)
operation-spelled SubscriptionsLookup = (lit< tt, lit< tt, refl)
operation-spelled SubscriptionsModify = (lit< tt, lit< tt, refl)
operation-spelled SubscriptionsNotices = (lit< tt, lit< tt, refl)

pub database-some : (d : Database) → 0 < length (database_word d)
database-some Private = lit< tt
database-some Shared = lit< tt
database-some Public = lit< tt

pub environment-some : (e : List ℕ) → is_environment e ≡ true → 0 < length e
environment-some [] known = absurd (cc)
environment-some (x ∷ e) known = omega arith

-- the segments of a path of that form
pub segments_within : (path rest : List ℕ) → is_utf8 path ≡ true → path ≡ codes "/database/1/" ++ rest → segments_of path ≡ segments_behind rest
segments_within path rest text spelled =
    rw text (ap (λ p. cond (bytes_eq (take 12 p) (codes "/database/1/")) (segments_behind (drop 12 p)) None) spelled)

pub spelled_routed : (method target : List ℕ) (r : Route) → IsRouted method (path_of target) r → route_of method target ≡ Ok r
spelled_routed method target r is =
    let d = database-named r.database in
    let o = operation-named r.operation in
    let segments = segments-spelled is.container is.environment (database_word r.database) (group_word r.operation) (name_word r.operation) is.whole (environment-whole is.environment is.known) d.1 o.1 in
    let some : (length is.container == 0) ≡ false = grind (arith, nat_tests, is.some) in
    ap (route_by method) (segments_within (path_of target) _ is.text is.spelled) ∙ (ap (route_by method) segments ∙ rw (some, is.known, d.0, o.0, is.serves) refl)

-- ---- back from a route to its path

eq-bytes : (xs ys : List ℕ) → bytes_eq xs ys ≡ true → xs ≡ ys
eq-bytes xs ys e = (bytes_eq-Decides xs ys).0 e

-- A list was cut at its first slash.
pub record IsCut (bytes front rest : List ℕ) : Type 0 where
  pub whole : bytes ≡ front ++ 47 ∷ rest
  pub plain : has_slash front ≡ false

front-plain : (bytes : List ℕ) (i : ℕ) → position (λ b. b == 47) bytes ≡ Some i → has_slash (take i bytes) ≡ false
front-plain bytes i is = list_any_none (λ b. b == 47) (take i bytes) (λ k d lt. each k d lt)
  where
    each : (k d : ℕ) → k < length (take i bytes) → (get_or (take i bytes) k d == 47) ≡ false
    each k d lt =
        let at = position-Some (λ b. b == 47) bytes i d is in
        let len : length (take i bytes) ≡ i = length-take-le i bytes (omega (arith, at.0)) in
        let under : k < i = omega (arith, lt, len) in
        ap (λ b. b == 47) (get_or-take i bytes k d under) ∙ at.2 k under

pair-is : (a b c d : List ℕ) → ◌≡◌ {A = Option (List ℕ × List ℕ)} (Some (a, b)) (Some (c, d)) → (a ≡ c) × (b ≡ d)
pair-is a b c d e = let same : ◌≡◌ {A = List ℕ × List ℕ} (a, b) (c, d) = cc in (ap (λ (p : List ℕ × List ℕ). p.0) same, ap (λ (p : List ℕ × List ℕ). p.1) same)

pub cut-parts : (bytes front rest : List ℕ) → cut bytes ≡ Some (front, rest) → IsCut bytes front rest
cut-parts bytes front rest e = by_place (position (λ b. b == 47) bytes) refl e
  where
    by_place : (o : Option ℕ) → position (λ b. b == 47) bytes ≡ o → ◌≡◌ {A = Option (List ℕ × List ℕ)} (option_map {U = List ℕ × List ℕ} (λ at. (take at bytes, drop (at + 1) bytes)) o) (Some (front, rest)) → IsCut bytes front rest
    by_place None is e = absurd (none-some e)
      where
        none-some : ◌≡◌ {A = Option (List ℕ × List ℕ)} None (Some (front, rest)) → ⊥
        none-some e = cc
    by_place (Some i) is e =
        let at = position-Some (λ b. b == 47) bytes i 0 is in
        let parts = pair-is (take i bytes) (drop (i + 1) bytes) front rest e in
        let slash : get_or bytes i 0 ≡ 47 = eqb-true (get_or bytes i 0) 47 at.1 in
        let whole : bytes ≡ take i bytes ++ 47 ∷ drop (i + 1) bytes =
        sym (take-append-drop i bytes) ∙ ap (λ l. take i bytes ++ l) (drop_more bytes i 0 at.0 ∙ ap (λ b. b ∷ drop (i + 1) bytes) slash) in
        record {
          whole = whole ∙ (λ j. parts.0 j ++ 47 ∷ parts.1 j);
          plain = subst (λ l. has_slash l ≡ false) parts.0 (front-plain bytes i is);
        }

-- The segments are parted by slashes.
record AreSegments (bytes : List ℕ) (s : Segments) : Type 0 where
  whole : bytes ≡ s.container ++ 47 ∷ (s.environment ++ 47 ∷ (s.database ++ 47 ∷ (s.group ++ 47 ∷ s.name)))
  plain : has_slash s.container ≡ false

and-some : {X Y : Type 0} (f : X → Option Y) (o : Option X) (y : Y) → option_and_then f o ≡ Some y → (x : X) × (o ≡ Some x) × (f x ≡ Some y)
and-some f None y e = absurd (cc)
and-some f (Some x) y e = (x, refl, e)

map-some : {X Y : Type 0} (f : X → Y) (o : Option X) (y : Y) → option_map f o ≡ Some y → (x : X) × (o ≡ Some x) × (f x ≡ y)
map-some f None y e = absurd (cc)
map-some f (Some x) y e = (x, refl, cc)

segments-are : (bytes : List ℕ) (s : Segments) → segments_behind bytes ≡ Some s → AreSegments bytes s
segments-are bytes s e =
    let c = and-some _ (cut bytes) s e in
    let v = and-some _ (cut c.0.1) s c.2 in
    let d = and-some _ (cut v.0.1) s v.2 in
    let g = map-some _ (cut d.0.1) s d.2 in
    let cc_ = cut-parts bytes c.0.0 c.0.1 c.1 in
    let cv = cut-parts c.0.1 v.0.0 v.0.1 v.1 in
    let cd = cut-parts v.0.1 d.0.0 d.0.1 d.1 in
    let cg = cut-parts d.0.1 g.0.0 g.0.1 g.1 in
    let whole : bytes ≡ c.0.0 ++ 47 ∷ (v.0.0 ++ 47 ∷ (d.0.0 ++ 47 ∷ (g.0.0 ++ 47 ∷ g.0.1))) =
    cc_.whole ∙ ap (λ l. c.0.0 ++ 47 ∷ l) (cv.whole ∙ ap (λ l. v.0.0 ++ 47 ∷ l) (cd.whole ∙ ap (λ l. d.0.0 ++ 47 ∷ l) cg.whole)) in
    subst (λ t. AreSegments bytes t) g.2 (record { whole = whole; plain = cc_.plain })

err-ok : (r : Route) → ◌≡◌ {A = Result Route RouteFault} (Err NoRoute) (Ok r) → ⊥
err-ok r e = cc

-- The segments of a route.
record HasSegments (method : List ℕ) (o : Option Segments) (r : Route) : Type 0 where
  s : Segments
  is : o ≡ Some s
  some : 0 < length s.container
  known : is_environment s.environment ≡ true
  answer : served method (database_of s.database) (operation_of s.group s.name) ≡ Ok r

route-segments : (method : List ℕ) (o : Option Segments) (r : Route) → route_by method o ≡ Ok r → HasSegments method o r
route-segments method None r e = absurd (err-ok r e)
route-segments method (Some s) r e = by_test (length s.container == 0) (is_environment s.environment) refl refl e
  where
    by_test : (t u : Bool) → (length s.container == 0) ≡ t → is_environment s.environment ≡ u
        → cond (not t && u) (served method (database_of s.database) (operation_of s.group s.name)) (Err NoRoute) ≡ Ok r → HasSegments method (Some s) r
    by_test false true p q e = record { s = s; is = refl; some = grind (arith, nat_tests, p); known = q; answer = e }
    by_test true true p q e = absurd (err-ok r e)
    by_test true false p q e = absurd (err-ok r e)
    by_test false false p q e = absurd (err-ok r e)

-- The database and the operation of a route.
record HasBoth (method : List ℕ) (d : Option Database) (o : Option Operation) (r : Route) : Type 0 where
  database : d ≡ Some r.database
  operation : o ≡ Some r.operation
  serves : is_served method r.database r.operation ≡ true

route-is : (r s : Route) → ◌≡◌ {A = Result Route RouteFault} (Ok r) (Ok s) → r ≡ s
route-is r s e = cc

served-both : (method : List ℕ) (d : Option Database) (o : Option Operation) (r : Route) → served method d o ≡ Ok r → HasBoth method d o r
served-both method None o r e = absurd (err-ok r e)
served-both method (Some d) None r e = absurd (err-ok r e)
served-both method (Some d) (Some o) r e = by_test (is_served method d o) refl e
  where
    by_test : (t : Bool) → is_served method d o ≡ t → cond t (Ok (record { database = d; operation = o })) (Err NoRoute) ≡ Ok r → HasBoth method (Some d) (Some o) r
    by_test true is e = subst (λ q. HasBoth method (Some d) (Some o) q) (route-is (record { database = d; operation = o }) r e) (record { database = refl; operation = refl; serves = is })
    by_test false is e = absurd (err-ok r e)

-- ---- the words

-- a word that a choice names, or a later one does
pick : {X : Type 0} (P : X → Type 0) (word name : List ℕ) (p : X) (rest : Option X) → (name ≡ word → P p) → ((x : X) → rest ≡ Some x → P x) → (x : X) → cond (bytes_eq name word) (Some p) rest ≡ Some x → P x
pick P word name p rest here later x e = by_test (bytes_eq name word) refl e
  where
    by_test : (t : Bool) → bytes_eq name word ≡ t → cond t (Some p) rest ≡ Some x → P x
    by_test true is e = subst P (some-is e) (here (eq-bytes name word is))
      where
        some-is : Some p ≡ Some x → p ≡ x
        some-is e = cc
    by_test false is e = later x e

no-more : {X : Type 0} (P : X → Type 0) (x : X) → ◌≡◌ {A = Option X} None (Some x) → P x
no-more P x e = absurd (cc)

database-word : (word : List ℕ) (d : Database) → database_of word ≡ Some d → word ≡ database_word d
database-word word =
    let P : Database → Type 0 = λ d. word ≡ database_word d in
    pick P (codes "private") word Private _ (λ e. e) (pick P (codes "shared") word Shared _ (λ e. e) (pick P (codes "public") word Public _ (λ e. e) (no-more P)))

abbrev IsNamed : List ℕ → List ℕ → Operation → Type 0
IsNamed group name o = (group ≡ group_word o) × (name ≡ name_word o)

operation-word : (group name : List ℕ) (o : Operation) → operation_of group name ≡ Some o → IsNamed group name o
operation-word group name o e = by_records (bytes_eq group (codes "records")) refl e
  where
    in-records : group ≡ codes "records" → (o : Operation) → records_call name ≡ Some o → IsNamed group name o
    in-records g =
        pick (IsNamed group name) (codes "modify") name RecordsModify _ (λ e. (g, e)) (pick (IsNamed group name) (codes "lookup") name RecordsLookup _ (λ e. (g, e))
        (pick (IsNamed group name) (codes "query") name RecordsQuery _ (λ e. (g, e)) (pick (IsNamed group name) (codes "resolve") name RecordsResolve _ (λ e. (g, e))
        (pick (IsNamed group name) (codes "accept") name RecordsAccept _ (λ e. (g, e)) (no-more (IsNamed group name))))))

    in-zones : group ≡ codes "zones" → (o : Operation) → zones_call name ≡ Some o → IsNamed group name o
    in-zones g =
        pick (IsNamed group name) (codes "list") name ZonesList _ (λ e. (g, e)) (pick (IsNamed group name) (codes "lookup") name ZonesLookup _ (λ e. (g, e))
        (pick (IsNamed group name) (codes "modify") name ZonesModify _ (λ e. (g, e)) (no-more (IsNamed group name))))

    in-changes : group ≡ codes "changes" → (o : Operation) → changes_call name ≡ Some o → IsNamed group name o
    in-changes g =
        pick (IsNamed group name) (codes "zone") name ChangesZone _ (λ e. (g, e)) (pick (IsNamed group name) (codes "database") name ChangesDatabase _ (λ e. (g, e)) (no-more (IsNamed group name)))

    in-subscriptions : group ≡ codes "subscriptions" → (o : Operation) → subscriptions_call name ≡ Some o → IsNamed group name o
    in-subscriptions g =
        pick (IsNamed group name) (codes "list") name SubscriptionsList _ (λ e. (g, e)) (pick (IsNamed group name) (codes "lookup") name SubscriptionsLookup _ (λ e. (g, e))
        (pick (IsNamed group name) (codes "modify") name SubscriptionsModify _ (λ e. (g, e)) (pick (IsNamed group name) (codes "notices") name SubscriptionsNotices _ (λ e. (g, e)) (no-more (IsNamed group name)))))

    by_subscriptions : (t : Bool) → bytes_eq group (codes "subscriptions") ≡ t → cond t (subscriptions_call name) None ≡ Some o → IsNamed group name o
    by_subscriptions true is e = in-subscriptions (eq-bytes group _ is) o e
    by_subscriptions false is e = no-more (IsNamed group name) o e

    by_changes : (t : Bool) → bytes_eq group (codes "changes") ≡ t → cond t (changes_call name) (cond (bytes_eq group (codes "subscriptions")) (subscriptions_call name) None) ≡ Some o → IsNamed group name o
    by_changes true is e = in-changes (eq-bytes group _ is) o e
    by_changes false is e = by_subscriptions (bytes_eq group (codes "subscriptions")) refl e

    by_zones : (t : Bool) → bytes_eq group (codes "zones") ≡ t
        → cond t (zones_call name) (cond (bytes_eq group (codes "changes")) (changes_call name) (cond (bytes_eq group (codes "subscriptions")) (subscriptions_call name) None)) ≡ Some o → IsNamed group name o
    by_zones true is e = in-zones (eq-bytes group _ is) o e
    by_zones false is e = by_changes (bytes_eq group (codes "changes")) refl e

    by_records : (t : Bool) → bytes_eq group (codes "records") ≡ t
        → cond t (records_call name) (cond (bytes_eq group (codes "zones")) (zones_call name) (cond (bytes_eq group (codes "changes")) (changes_call name) (cond (bytes_eq group (codes "subscriptions")) (subscriptions_call name) None))) ≡ Some o
        → IsNamed group name o
    by_records true is e = in-records (eq-bytes group _ is) o e
    by_records false is e = by_zones (bytes_eq group (codes "zones")) refl e

-- The path begins with the service's two words, and its segments stand behind them.
record StandsBehind (path : List ℕ) (s : Segments) : Type 0 where
  text : is_utf8 path ≡ true
  whole : path ≡ codes "/database/1/" ++ drop 12 path
  segments : segments_behind (drop 12 path) ≡ Some s

prefix-stands : (path : List ℕ) (s : Segments) → segments_of path ≡ Some s → StandsBehind path s
prefix-stands path s e = by_test (is_utf8 path && bytes_eq (take 12 path) (codes "/database/1/")) refl e
  where
    by_test : (t : Bool) → (is_utf8 path && bytes_eq (take 12 path) (codes "/database/1/")) ≡ t → cond t (segments_behind (drop 12 path)) None ≡ Some s → StandsBehind path s
    by_test true is e =
        let parts = and_parts _ _ is in
        record {
          text = parts.0;
          whole = sym (take-append-drop 12 path) ∙ ap (λ l. l ++ drop 12 path) (eq-bytes (take 12 path) (codes "/database/1/") parts.1);
          segments = e;
        }
    by_test false is e = absurd (cc)

pub routed_path : (method path : List ℕ) (r : Route) → route_by method (segments_of path) ≡ Ok r → IsRouted method path r
routed_path method path r e =
    let h = route-segments method (segments_of path) r e in
    let p = prefix-stands path h.s h.is in
    let a = segments-are (drop 12 path) h.s p.segments in
    let b = served-both method (database_of h.s.database) (operation_of h.s.group h.s.name) r h.answer in
    let d = database-word h.s.database r.database b.database in
    let o = operation-word h.s.group h.s.name r.operation b.operation in
    record {
      text = p.text;
      container = h.s.container;
      environment = h.s.environment;
      spelled = p.whole ∙ ap (λ l. codes "/database/1/" ++ l) (a.whole ∙ (λ i. h.s.container ++ 47 ∷ (h.s.environment ++ 47 ∷ (d i ++ 47 ∷ (o.0 i ++ 47 ∷ o.1 i)))));
      some = h.some;
      whole = a.plain;
      known = h.known;
      serves = b.serves;
    }

pub routed_spelled : (method target : List ℕ) (r : Route) → route_of method target ≡ Ok r → IsRouted method (path_of target) r
routed_spelled method target r e = routed_path method (path_of target) r e

-- ---- there is one fault

served-refused : (method : List ℕ) (d : Option Database) (o : Option Operation) (fault : RouteFault) → served method d o ≡ Err fault → fault ≡ NoRoute
served-refused method None o fault e = cc
served-refused method (Some d) None fault e = cc
served-refused method (Some d) (Some o) fault e = by_test (is_served method d o) e
  where
    by_test : (t : Bool) → cond {A = Result Route RouteFault} t (Ok (record { database = d; operation = o })) (Err NoRoute) ≡ Err fault → fault ≡ NoRoute
    by_test true e = absurd (cc)
    by_test false e = cc

pub refused : (method : List ℕ) (o : Option Segments) (fault : RouteFault) → route_by method o ≡ Err fault → fault ≡ NoRoute
refused method None fault e = cc
refused method (Some s) fault e = by_test (not (length s.container == 0) && is_environment s.environment) e
  where
    by_test : (t : Bool) → cond t (served method (database_of s.database) (operation_of s.group s.name)) (Err NoRoute) ≡ Err fault → fault ≡ NoRoute
    by_test true e = served-refused method (database_of s.database) (operation_of s.group s.name) fault e
    by_test false e = cc
