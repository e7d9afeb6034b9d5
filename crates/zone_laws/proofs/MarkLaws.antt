-- Of a request without a fault: each root has one share, and the two go on naming each other.
use Rattle.std.proofs.Common.{◌≡◌, ℕ, List, [], ◌∷◌, Bool, true, false, cond, not, ◌&&◌, ◌||◌, refl, sym, ap, ◌∙◌, subst, Some, None, Option, ⊎_elim}
use Rattle.std.specs.Prelude.{find, filter_map, is_some, is_none, option_map, option_and_then, if◌then◌else◌}
use Rattle.std.specs.Option.{option_map_or}
use Rattle.std.specs.List.{list_any, list_all, cons_option}
use Rattle.std.proofs.lemmas.Bool.{both_ways, and_parts, and_from, or_left, or_right, or_parts, or_cases, true_from_ne_false, cond-true}
use Rattle.std.proofs.lemmas.Option.{same_Some}
use Rattle.ck_base.specs.Order.{is_before}
use Rattle.share_records.specs.declared.share.Share.{Share as ShareOf}
use Rattle.record_model.specs.declared.records.Record.{Record}
use Rattle.zone_model.specs.declared.operations.Past.{Past}
use Rattle.zone_model.specs.Names.{same, is_in, has_twice, is_default}
use Rattle.name_rules.specs.Options.{is_some_and, is_none_or}
use Rattle.zone_model.specs.Records.{record_at, names_in, is_there, share_of, IsAscending}
use Rattle.zone_model.specs.Requests.{NamedOp, makes_new, puts_in, has_share_type, new_parent, root_given}
use Rattle.zone_model.specs.PutChecks.{begins, root, parent, is_of_share, is_plain_in_working}
use Rattle.zone_laws.specs.LawfulTests.{is_plain, is_marked_with, has_good_parent, has_good_root}
use Rattle.zone_model.specs.Effect.{Request, after_puts}
use Rattle.name_rules.proofs.NameLemmas.{same-true, same-refl}
use Rattle.zone_laws.proofs.RecordLaws.{none-some, found-name, found-below, later_step}
use Rattle.zone_laws.proofs.WorkingLaws.{put_at}
use Rattle.zone_laws.proofs.CoreLaws.{Core, core, leaving-core, new-root}
use Rattle.zone_laws.proofs.KeptLaws.{ground, IsFine, checked, is-new, New, new-in-working, old-after, Added, added-after, judged-working, fits}
use Rattle.zone_laws.proofs.ParentLaws.{plain-found, plain_of}

-- ---- tests of records

pub any-found : (p : Record → Bool) (rows : List Record) → IsAscending rows → list_any p rows ≡ true → (t : Record) × (record_at rows t.name ≡ Some t) × (p t ≡ true)
any-found p [] ascend e = absurd (both_ways false refl e)
any-found p (r ∷ rows) ascend e =
    let parts = and_parts (list_all (is_before r.name) (names_in rows)) _ ascend in
    ⊎_elim
    (λ (h : p r ≡ true). (r, cond-true (same r.name r.name) (Some r) (record_at rows r.name) (same-refl r.name), h))
    (λ (h : list_any p rows ≡ true). let t = any-found p rows parts.1 h in (t.0, later_step (same t.0.name r.name) r t.0 rows t.0.name refl (found-below r.name rows parts.0) t.1, t.2))
    (or_cases (p r) (list_any p rows) e)

any_step : (s : Bool) (p : Record → Bool) (q r : Record) (rows : List Record) (x : List ℕ) → (record_at rows x ≡ Some r → list_any p rows ≡ true) → p r ≡ true → cond s (Some q) (record_at rows x) ≡ Some r → (p q || list_any p rows) ≡ true
any_step true p q r rows x ih h e = or_left (p q) (list_any p rows) (subst (λ (t : Record). p t ≡ true) (sym (same_Some q r e)) h)
any_step false p q r rows x ih h e = or_right (p q) (list_any p rows) (ih e)

pub any-from : (p : Record → Bool) (rows : List Record) (x : List ℕ) (r : Record) → record_at rows x ≡ Some r → p r ≡ true → list_any p rows ≡ true
any-from p [] x r e h = absurd (none-some None r refl e)
any-from p (q ∷ rows) x r e h = any_step (same x q.name) p q r rows x (λ f. any-from p rows x r f h) h e

first_step : (b : Bool) (p : Record → Bool) (q t : Record) (rows : List Record) → p q ≡ b → IsAscending (q ∷ rows) → (find p rows ≡ Some t → (record_at rows t.name ≡ Some t) × (p t ≡ true)) → cond b (Some q) (find p rows) ≡ Some t
    → (cond (same t.name q.name) (Some q) (record_at rows t.name) ≡ Some t) × (p t ≡ true)
first_step true p q t rows is ascend ih e =
    let one : q ≡ t = same_Some q t e in
    (cond-true (same t.name q.name) (Some q) (record_at rows t.name) (ap (λ (r : Record). same t.name r.name) one ∙ same-refl t.name) ∙ ap Some one, subst (λ (r : Record). p r ≡ true) one is)
first_step false p q t rows is ascend ih e =
    let parts = and_parts (list_all (is_before q.name) (names_in rows)) _ ascend in
    let h = ih e in
    (later_step (same t.name q.name) q t rows t.name refl (found-below q.name rows parts.0) h.0, h.1)

pub first-found : (p : Record → Bool) (rows : List Record) (t : Record) → IsAscending rows → find p rows ≡ Some t → (record_at rows t.name ≡ Some t) × (p t ≡ true)
first-found p [] t ascend e = absurd (none-some None t refl e)
first-found p (q ∷ rows) t ascend e = first_step (p q) p q t rows refl ascend (first-found p rows t (and_parts (list_all (is_before q.name) (names_in rows)) _ ascend).1) e

first_some_step : (b : Bool) (q : Record) (o : Option Record) (rest : Bool) → (rest ≡ true → (t : Record) × (o ≡ Some t)) → (b || rest) ≡ true → (t : Record) × (cond b (Some q) o ≡ Some t)
first_some_step true q o rest ih e = (q, refl)
first_some_step false q o rest ih e = ih e

pub first-some : (p : Record → Bool) (rows : List Record) → list_any p rows ≡ true → (t : Record) × (find p rows ≡ Some t)
first-some p [] e = absurd (both_ways false refl e)
first-some p (q ∷ rows) e = first_some_step (p q) q (find p rows) (list_any p rows) (first-some p rows) e

pub some-same : (x : List ℕ) (o : Option (List ℕ)) → is_some_and (same x) o ≡ true → o ≡ Some x
some-same x None e = absurd (both_ways false refl e)
some-same x (Some y) e = ap Some (sym (same-true x y e))

pub none_name : (x : List ℕ) → None ≡ Some x → ⊥
none_name x e = both_ways false refl (ap (λ (o : Option (List ℕ)). option_map_or (λ _. true) o false) e)

-- ---- roots that are given once

abbrev given : NamedOp → Option (List ℕ)
given p = root_given p.draft

has_step : (s : Bool) (o : Option (List ℕ)) (q p : NamedOp) (ps : List NamedOp) (y a : List ℕ) → given q ≡ o → given p ≡ Some a → (put_at ps y ≡ Some p → is_in (filter_map given ps) a ≡ true) → cond s (Some q) (put_at ps y) ≡ Some p
    → is_in (cons_option o (filter_map given ps)) a ≡ true
has_step true None q p ps y a is root ih e = absurd (none_name a (sym is ∙ ap given (same_Some q p e) ∙ root))
has_step true (Some b) q p ps y a is root ih e =
    let one : b ≡ a = same_Some b a (sym is ∙ ap given (same_Some q p e) ∙ root) in
    or_left (same a b) _ (subst (λ z. same a z ≡ true) (sym one) (same-refl a))
has_step false None q p ps y a is root ih e = ih e
has_step false (Some b) q p ps y a is root ih e = or_right (same a b) _ (ih e)

roots_have : (ps : List NamedOp) (y a : List ℕ) (p : NamedOp) → given p ≡ Some a → put_at ps y ≡ Some p → is_in (filter_map given ps) a ≡ true
roots_have [] y a p root e = absurd (both_ways false refl (ap (λ (o : Option NamedOp). option_map_or (λ _. true) o false) e))
roots_have (q ∷ ps) y a p root e = has_step (same y q.name) (given q) q p ps y a refl root (roots_have ps y a p root) e

pub twice_rest : (o : Option (List ℕ)) (xs : List (List ℕ)) → has_twice (cons_option o xs) ≡ false → has_twice xs ≡ false
twice_rest None xs e = e
twice_rest (Some a) xs e = by (is_in xs a) e
  where
    by : (b : Bool) → (if b then true else has_twice xs) ≡ false → has_twice xs ≡ false
    by true f = absurd (both_ways true f refl)
    by false f = f

twice_head : (o : Option (List ℕ)) (a : List ℕ) (xs : List (List ℕ)) → o ≡ Some a → is_in xs a ≡ true → has_twice (cons_option o xs) ≡ false → ⊥
twice_head o a xs is i e = both_ways (has_twice (a ∷ xs)) (ap (λ t. has_twice (cons_option t xs)) (sym is) ∙ e) (ap (λ b. if b then true else has_twice xs) i)

once_step : (s t : Bool) (q p r : NamedOp) (ps : List NamedOp) (x y a : List ℕ) → same x q.name ≡ s → same y q.name ≡ t → given p ≡ Some a → given r ≡ Some a
    → (put_at ps x ≡ Some p → put_at ps y ≡ Some r → x ≡ y) → has_twice (cons_option (given q) (filter_map given ps)) ≡ false → cond s (Some q) (put_at ps x) ≡ Some p → cond t (Some q) (put_at ps y) ≡ Some r → x ≡ y
once_step true true q p r ps x y a xs ys ph rh ih none e f = same-true x q.name xs ∙ sym (same-true y q.name ys)
once_step true false q p r ps x y a xs ys ph rh ih none e f = absurd (twice_head (given q) a (filter_map given ps) (ap given (same_Some q p e) ∙ ph) (roots_have ps y a r rh f) none)
once_step false true q p r ps x y a xs ys ph rh ih none e f = absurd (twice_head (given q) a (filter_map given ps) (ap given (same_Some q r f) ∙ rh) (roots_have ps x a p ph e) none)
once_step false false q p r ps x y a xs ys ph rh ih none e f = ih e f

given_once : (ps : List NamedOp) (x y a : List ℕ) (p r : NamedOp) → has_twice (filter_map given ps) ≡ false → given p ≡ Some a → given r ≡ Some a → put_at ps x ≡ Some p → put_at ps y ≡ Some r → x ≡ y
given_once [] x y a p r none ph rh e f = absurd (both_ways false refl (ap (λ (o : Option NamedOp). option_map_or (λ _. true) o false) e))
given_once (q ∷ ps) x y a p r none ph rh e f = once_step (same x q.name) (same y q.name) q p r ps x y a refl refl ph rh
    (λ e f. given_once ps x y a p r (twice_rest (given q) (filter_map given ps) none) ph rh e f) none e f

begun_parts : (h : Bool) (o : Option (List ℕ)) (a : List ℕ) → (if h then o else None) ≡ Some a → (h ≡ true) × (o ≡ Some a)
begun_parts true o a e = (refl, e)
begun_parts false o a e = absurd (none_name a e)

-- ---- old shares and new ones

module _ (q : Request) (pasts : List Past) (fine : IsFine q pasts) where
  -- a share of the zone
  pub record ZoneShare (x a : List ℕ) (z : Record) : Type 0 where
    pub row : Record
    pub at : record_at q.rows a ≡ Some row
    pub plain : is_plain q.rows a ≡ true
    pub share : row.share ≡ Some x
    pub parent : is_none z.parent ≡ true

  marked_by : (o : Option Record) (x : List ℕ) → is_some_and (is_marked_with x) o ≡ true → (row : Record) × (o ≡ Some row) × (row.share ≡ Some x)
  marked_by None x e = absurd (both_ways false refl e)
  marked_by (Some row) x e = (row, refl, some-same x row.share e)

  zone_share_by : (o : Option ShareOf) (x a : List ℕ) (z : Record) → option_map (λ (s : ShareOf). s.root) o ≡ Some a → x ≡ z.name
      → is_none_or (λ (s : ShareOf). is_none z.parent && (is_plain q.rows s.root && is_some_and (is_marked_with z.name) (record_at q.rows s.root))) o ≡ true → ZoneShare x a z
  zone_share_by None x a z root name e = absurd (none_name a root)
  zone_share_by (Some s) x a z root name e =
      let one : s.root ≡ a = same_Some s.root a root in
      let parts = and_parts (is_none z.parent) _ (subst (λ y. (is_none z.parent && (is_plain q.rows y && is_some_and (is_marked_with z.name) (record_at q.rows y))) ≡ true) one e) in
      let more = and_parts (is_plain q.rows a) _ parts.1 in
      let row = marked_by (record_at q.rows a) z.name more.1 in
      record { row = row.0; at = row.1; plain = more.0; share = row.2 ∙ ap Some (sym name); parent = parts.0 }

  pub zone-share : (x a : List ℕ) (z : Record) → record_at q.rows x ≡ Some z → (core z).root ≡ Some a → ZoneShare x a z
  zone-share x a z there root = zone_share_by (share_of z) x a z root (same-true x z.name (found-name q.rows x z there))
      (and_parts (has_good_root q.rows z) _ (and_parts (has_good_parent q.rows z) _ (fits q pasts fine x z there)).1).0

  -- a share that the request begins
  pub record NewShare (x a : List ℕ) (w : Record) : Type 0 where
    pub given : (p : NamedOp) × (put_at (puts_in q.ops) x ≡ Some p) × (root_given p.draft ≡ Some a)
    pub plain : is_plain (ground q pasts).working a ≡ true
    pub free : (v : Record) → record_at q.seen a ≡ Some v → is_some v.share ≡ false
    pub parent : is_some w.parent ≡ false

  pub new-share : (x a : List ℕ) (w : Record) → New q pasts fine x w → (core w).root ≡ Some a → NewShare x a w
  new-share x a w new is =
      let g = ground q pasts in
      let p = new.put in
      let passed = checked q pasts fine x new.put new.at in
      let parts = begun_parts (has_share_type new.put.draft) (root_given new.put.draft) a (sym (new-root new.put) ∙ sym (ap (λ (t : Core). t.root) new.is) ∙ is) in
      let newness = is-new q pasts fine x new.put new.at new.unseen in
      let starts : begins g p ≡ true = and_from (makes_new new.put.kind) _ new.makes (and_from (not (is_there q.seen new.put.name)) _ newness parts.0) in
      let at_root : root g p ≡ Some a = ap (λ b. if b then root_given new.put.draft else None) starts ∙ parts.1 in
      let bad = subst (λ o. is_some_and (λ y. not (is_plain_in_working g p y)) o ≡ false) at_root passed.root_good in
      let of_share : is_of_share g p ≡ true = or_left (begins g p) _ starts in
      let placed = or_parts (is_default q.caller.key) (is_some (parent g p)) (ap (λ b. b && (is_default q.caller.key || is_some (parent g p))) (sym of_share) ∙ passed.placed) in
      let no_parent : is_some (new_parent new.put.draft) ≡ false = ap (λ b. is_some (if b then new_parent new.put.draft else None)) (sym newness) ∙ placed.1 in
      record {
        given = (p, new.at, parts.1);
        plain = plain_of g.working a (true_from_ne_false (is_plain_in_working g p a) (λ e. both_ways (not (is_plain_in_working g p a)) bad (ap not e)));
        free = λ v seen. ap (λ o. is_some_and (λ (r : Record). is_some r.share) o) (sym (ap (option_and_then (record_at q.seen)) at_root ∙ seen)) ∙ passed.root_free;
        parent = ap is_some (ap (λ (t : Core). t.parent) new.is) ∙ no_parent;
      }

  -- no root has an old share and a new one
  apart_by : (o : Option Record) (x y a : List ℕ) (z w : Record) → record_at q.seen a ≡ o → ZoneShare x a z → NewShare y a w → ⊥
  apart_by (Some v) x y a z w seen old new =
      let one : v ≡ old.row = same_Some v old.row (sym (fine.part.part a v seen) ∙ old.at) in
      both_ways (is_some v.share) (new.free v seen) (ap is_some (ap (λ (r : Record). r.share) one ∙ old.share))
  apart_by None x y a z w unseen old new =
      let t = plain-found (ground q pasts).working a new.plain in
      let r = judged-working q pasts fine a t.0 t.1 in
      none-some (record_at q.rows a) old.row (new-in-working q pasts fine a r.0 unseen r.1).absent old.at

  pub shares-apart : (x y a : List ℕ) (z w : Record) → ZoneShare x a z → NewShare y a w → ⊥
  shares-apart x y a z w old new = apart_by (record_at q.seen a) x y a z w refl old new

  old_root : (x a : List ℕ) (z b : Record) → record_at q.rows x ≡ Some z → record_at (after_puts q) x ≡ Some b → (core b).root ≡ Some a → (core z).root ≡ Some a
  old_root x a z b there at root = let old = old-after q pasts fine x z there in sym old.root ∙ ap (λ (r : Record). (core r).root) (same_Some old.row b (sym old.at ∙ at)) ∙ root

  added_root : (x a : List ℕ) (b : Record) (added : Added q pasts fine x b) → (core b).root ≡ Some a → (core added.row).root ≡ Some a
  added_root x a b added root = sym (ap (λ (t : Core). t.root) (leaving-core q added.row)) ∙ ap (λ (r : Record). (core r).root) added.is ∙ root

  once_by : (o p : Option Record) (x y a : List ℕ) (b c : Record) → record_at q.rows x ≡ o → record_at q.rows y ≡ p → record_at (after_puts q) x ≡ Some b → record_at (after_puts q) y ≡ Some c
      → (core b).root ≡ Some a → (core c).root ≡ Some a → x ≡ y
  once_by (Some z) (Some t) x y a b c xz yt xb yc rb rc =
      let one = zone-share x a z xz (old_root x a z b xz xb rb) in
      let two = zone-share y a t yt (old_root y a t c yt yc rc) in
      let row : one.row ≡ two.row = same_Some one.row two.row (sym one.at ∙ two.at) in
      same_Some x y (sym one.share ∙ ap (λ (r : Record). r.share) row ∙ two.share)
  once_by (Some z) None x y a b c xz yt xb yc rb rc =
      let added = added-after q pasts fine y c yt yc in
      absurd (shares-apart x y a z added.row (zone-share x a z xz (old_root x a z b xz xb rb)) (new-share y a added.row added.new (added_root y a c added rc)))
  once_by None (Some t) x y a b c xz yt xb yc rb rc =
      let added = added-after q pasts fine x b xz xb in
      absurd (shares-apart y x a t added.row (zone-share y a t yt (old_root y a t c yt yc rc)) (new-share x a added.row added.new (added_root x a b added rb)))
  once_by None None x y a b c xz yt xb yc rb rc =
      let one = added-after q pasts fine x b xz xb in
      let two = added-after q pasts fine y c yt yc in
      let p = (new-share x a one.row one.new (added_root x a b one rb)).given in
      let r = (new-share y a two.row two.new (added_root y a c two rc)).given in
      given_once (puts_in q.ops) x y a p.0 r.0 fine.roots p.2 r.2 p.1 r.1

  -- a root has one share after the puts
  pub share-once : (x y a : List ℕ) (b c : Record) → record_at (after_puts q) x ≡ Some b → record_at (after_puts q) y ≡ Some c → (core b).root ≡ Some a → (core c).root ≡ Some a → x ≡ y
  share-once x y a b c xb yc rb rc = once_by (record_at q.rows x) (record_at q.rows y) x y a b c refl refl xb yc rb rc
