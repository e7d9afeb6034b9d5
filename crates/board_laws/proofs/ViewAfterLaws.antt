-- What a participant sees behind puts of plain records is told by what was seen before and by what is put.
use Rattle.std.proofs.Common.{◌≡◌, ℕ, List, [], ◌∷◌, Bool, true, false, cond, ◌&&◌, refl, sym, ap, ◌∙◌, subst, Some, None, Option, ⊎_elim}
use Rattle.std.specs.Prelude.{filter, is_some, unwrap_or, not}
use Rattle.std.specs.List.{list_all}
use Rattle.std.proofs.lemmas.Bool.{both_ways, and_parts, and_from, or_cases, or_left, or_right, cond-true}
use Rattle.std.proofs.lemmas.Option.{same_Some}
use Rattle.ck_base.specs.Order.{is_before}
use Rattle.share_records.specs.declared.share.Share.{Share as ShareOf}
use Rattle.share_records.specs.declared.permission.Permission.TheVariants.{ReadOnly}
use Rattle.share_records.specs.Permissions.{gives, has_accepted}
use Rattle.record_model.specs.declared.records.Record.{Record}
use Rattle.name_rules.specs.Options.{is_some_and, is_none_or}
use Rattle.name_rules.specs.Parents.{here, up}
use Rattle.name_rules.proofs.NameLemmas.{same-true, same-refl, before-trans, three_ways}
use Rattle.zone_model.specs.Names.{same}
use Rattle.zone_model.specs.Records.{record_at, names_in, is_share, share_of, IsAscending}
use Rattle.zone_model.specs.Ancestry.{IsAncestor, is_ancestor}
use Rattle.zone_model.specs.Coverage.{covers}
use Rattle.zone_model.specs.Views.{is_visible}
use Rattle.zone_laws.specs.LawfulTests.{is_plain, has_good_parent, fits_in, are_well_formed}
use Rattle.zone_laws.proofs.AncestryLaws.{is_ancestor_from, is_ancestor_gives, record_reaches, gives_at-records}
use Rattle.zone_laws.proofs.RecordLaws.{none-some, found-name, found-below, found-all, later_step}
use Rattle.zone_laws.proofs.FormedLaws.{found-some, found-among}
use Rattle.zone_laws.proofs.ParentLaws.{from_parent_at, to_parent_at, plain-found}
use Rattle.zone_laws.proofs.MarkLaws.{any-from}
use Rattle.zone_laws.proofs.OrderLaws.{ascending-some}
use Rattle.zone_laws.proofs.PermissionLaws.{found-any}

-- ---- records in order are told by what is found

abbrev IsAmong : List Record → List Record → Type 0
IsAmong xs ys = (x : List ℕ) (f : Record) → record_at xs x ≡ Some f → record_at ys x ≡ Some f

first_found : (r : Record) (rows : List Record) → record_at (r ∷ rows) r.name ≡ Some r
first_found r rows = cond-true (same r.name r.name) (Some r) (record_at rows r.name) (same-refl r.name)

-- a name before the first is not found
not_before : (x : List ℕ) (r : Record) (rows : List Record) → IsAscending (r ∷ rows) → is_before x r.name ≡ true → record_at (r ∷ rows) x ≡ None
not_before x r rows ascend before = found-below x (r ∷ rows) (and_from (is_before x r.name) _ before (below rows (and_parts (list_all (is_before r.name) (names_in rows)) _ ascend).0))
  where
    below : (qs : List Record) → list_all (is_before r.name) (names_in qs) ≡ true → list_all (is_before x) (names_in qs) ≡ true
    below [] all = refl
    below (q ∷ qs) all = let parts = and_parts (is_before r.name q.name) _ all in and_from (is_before x q.name) _ (before-trans x r.name q.name before parts.0) (below qs parts.1)

later_found : (s : Bool) (x : List ℕ) (r f : Record) (o : Option Record) → same x r.name ≡ s → (s ≡ true → ⊥) → cond s (Some r) o ≡ Some f → o ≡ Some f
later_found true x r f o is never e = absurd (never refl)
later_found false x r f o is never e = e

tail_among : (x r : Record) (xs ys : List Record) → IsAscending (x ∷ xs) → x.name ≡ r.name → IsAmong (x ∷ xs) (r ∷ ys) → IsAmong xs ys
tail_among x r xs ys ascend name among y f e =
    let parts = and_parts (list_all (is_before x.name) (names_in xs)) _ ascend in
    let free : record_at xs x.name ≡ None = found-below x.name xs parts.0 in
    later_found (same y r.name) y r f (record_at ys y) refl
    (λ s. none-some (record_at xs y) f (subst (λ z. record_at xs z ≡ None) (name ∙ sym (same-true y r.name s)) free) e)
    (among y f (later_step (same y x.name) x f xs y refl free e))

pub same_rows : (xs ys : List Record) → IsAscending xs → IsAscending ys → IsAmong xs ys → IsAmong ys xs → xs ≡ ys
same_rows [] [] up_x up_y there back = refl
same_rows [] (y ∷ ys) up_x up_y there back = absurd (none-some None y refl (back y.name y (first_found y ys)))
same_rows (x ∷ xs) [] up_x up_y there back = absurd (none-some None x refl (there x.name x (first_found x xs)))
same_rows (x ∷ xs) (y ∷ ys) up_x up_y there back = ⊎_elim
    (λ (before : is_before x.name y.name ≡ true). absurd (none-some _ x (not_before x.name y ys up_y before) (there x.name x (first_found x xs))))
    (⊎_elim
    (λ (s : same x.name y.name ≡ true).
    let name = same-true x.name y.name s in
    let one : y ≡ x = same_Some y x (sym (cond-true (same x.name y.name) (Some y) (record_at ys x.name) s) ∙ there x.name x (first_found x xs)) in
    let rest = same_rows xs ys (and_parts (list_all (is_before x.name) (names_in xs)) _ up_x).1 (and_parts (list_all (is_before y.name) (names_in ys)) _ up_y).1
    (tail_among x y xs ys up_x name there) (tail_among y x ys xs up_y (sym name) back) in
    (λ i. sym one i ∷ rest i))
    (λ (before : is_before y.name x.name ≡ true). absurd (none-some _ y (not_before y.name x xs up_x before) (back y.name y (first_found y ys)))))
    (three_ways x.name y.name)

-- ---- what rows become, where some names are put

-- The user sees these of the rows. What is put is no share, and keeps its parent; all else stays.
pub record Becomes (u : List ℕ) (seen rows after : List Record) (put : List ℕ → Bool) (left : List ℕ → Option Record) : Type 0 where
  pub ascending : IsAscending rows
  pub ascending_after : IsAscending after
  pub view : seen ≡ filter (is_visible rows u) rows
  pub formed : are_well_formed rows ≡ true
  pub found : (x : List ℕ) → put x ≡ true → record_at after x ≡ left x
  pub plain : (x : List ℕ) (f : Record) → put x ≡ true → left x ≡ Some f → is_share f ≡ false
  pub parent : (x : List ℕ) (f z : Record) → put x ≡ true → left x ≡ Some f → record_at rows x ≡ Some z → f.parent ≡ z.parent
  pub rest : (x : List ℕ) → put x ≡ false → record_at after x ≡ record_at rows x

share_there : (u : List ℕ) (o : Option ShareOf) → is_some_and (has_accepted u) o ≡ true → is_some o ≡ true
share_there u None e = e
share_there u (Some s) e = refl

-- a share that the user accepted
record Accepted (u : List ℕ) (rows : List Record) (share : ShareOf) : Type 0 where
  pub row : Record
  pub at : record_at rows row.name ≡ Some row
  pub is : share_of row ≡ Some share
  pub accepts : has_accepted u share ≡ true

covered : (u : List ℕ) (rows : List Record) (s : ShareOf) (x : List ℕ) → Accepted u rows s → IsAncestor rows s.root x → covers rows u x ≡ true
covered u rows s x t above =
    gives_at-records rows ReadOnly u x
    ∙ any-from (record_reaches rows ReadOnly u x) rows t.row.name t.row t.at
    (ap (is_some_and (λ (v : ShareOf). is_ancestor rows v.root x && gives ReadOnly u v)) t.is ∙ and_from (is_ancestor rows s.root x) _ (is_ancestor_from rows s.root x above) t.accepts)

abbrev Covering : List ℕ → List Record → List ℕ → Type 0
Covering u rows x = (s : ShareOf) × Accepted u rows s × IsAncestor rows s.root x

covering_by : (u : List ℕ) (rows : List Record) (x : List ℕ) (t : Record) (o : Option ShareOf) → record_at rows t.name ≡ Some t → share_of t ≡ o
    → is_some_and (λ (s : ShareOf). is_ancestor rows s.root x && gives ReadOnly u s) o ≡ true → Covering u rows x
covering_by u rows x t None at is e = absurd (both_ways false refl e)
covering_by u rows x t (Some s) at is e =
    let parts = and_parts (is_ancestor rows s.root x) (gives ReadOnly u s) e in
    (s, record { row = t; at = at; is = is; accepts = parts.1 }, is_ancestor_gives rows s.root x parts.0)

covering : (u : List ℕ) (rows : List Record) (x : List ℕ) → IsAscending rows → covers rows u x ≡ true → Covering u rows x
covering u rows x ascend e =
    let t = found-any (record_reaches rows ReadOnly u x) rows ascend (sym (gives_at-records rows ReadOnly u x) ∙ e) in
    covering_by u rows x t.0 (share_of t.0) t.1 refl t.2

module _ (u : List ℕ) (seen rows after : List Record) (put : List ℕ → Bool) (left : List ℕ → Option Record) (b : Becomes u seen rows after put left) where
  -- a share that the user has accepted is not put
  unput_by : (p : Bool) (y : List ℕ) (t : Record) → put y ≡ p → record_at after y ≡ Some t → is_some_and (has_accepted u) (share_of t) ≡ true → put y ≡ false
  unput_by true y t is at accepts = absurd (both_ways (is_share t) (b.plain y t is (sym (b.found y is) ∙ at)) (share_there u (share_of t) accepts))
  unput_by false y t is at accepts = is

  unput : (y : List ℕ) (t : Record) → record_at after y ≡ Some t → is_some_and (has_accepted u) (share_of t) ≡ true → put y ≡ false
  unput y t at accepts = unput_by (put y) y t refl at accepts

  before : (y : List ℕ) (t : Record) → put y ≡ false → record_at after y ≡ Some t → record_at rows y ≡ Some t
  before y t off at = sym (b.rest y off) ∙ at

  seen_from : (y : List ℕ) (t : Record) → record_at rows y ≡ Some t → is_visible rows u t ≡ true → record_at seen y ≡ Some t
  seen_from y t at shown = ap (λ rs. record_at rs y) b.view ∙ found-among (is_visible rows u) rows y t at shown

  accepted_seen : (y : List ℕ) (t : Record) → record_at after y ≡ Some t → is_some_and (has_accepted u) (share_of t) ≡ true → record_at seen y ≡ Some t
  accepted_seen y t at accepts = seen_from y t (before y t (unput y t at accepts) at) (or_right (covers rows u t.name) (is_some_and (has_accepted u) (share_of t)) accepts)

  old_share : (s : ShareOf) → Accepted u after s → Accepted u rows s
  old_share s t = record { row = t.row; at = before t.row.name t.row (unput t.row.name t.row t.at (ap (is_some_and (has_accepted u)) t.is ∙ t.accepts)) t.at; is = t.is; accepts = t.accepts }

  same_parent_by : (p : Bool) (y : List ℕ) (f z : Record) → put y ≡ p → record_at after y ≡ Some f → record_at rows y ≡ Some z → z.parent ≡ f.parent
  same_parent_by true y f z is at there = sym (b.parent y f z is (sym (b.found y is) ∙ at) there)
  same_parent_by false y f z is at there = ap (λ (r : Record). r.parent) (same_Some z f (sym there ∙ before y f is at))

  parent_there : (o : Option (List ℕ)) (z : Record) (p : List ℕ) → o ≡ Some p → is_none_or (λ q. is_plain rows q && not (is_ancestor rows z.name q)) o ≡ true → (t : Record) × (record_at rows p ≡ Some t)
  parent_there None z p is e = absurd (both_ways false refl (ap (is_none_or (λ q. false)) (sym is)))
  parent_there (Some q) z p is e =
      let t = plain-found rows q (and_parts (is_plain rows q) _ e).0 in
      (t.0, subst (λ y. record_at rows y ≡ Some t.0) (ap (λ (o : Option (List ℕ)). unwrap_or o q) is) t.1)

  -- what stands above an old record now stood above it before
  stood_above : (a y : List ℕ) (z : Record) → record_at rows y ≡ Some z → IsAncestor after a y → IsAncestor rows a y
  stood_above a _ z there (here y e) = here y e
  stood_above a _ z there (up y p e above) =
      let f = from_parent_at after y p e in
      let parent : z.parent ≡ Some p = same_parent_by (put y) y f.0 z refl f.1 there ∙ f.2 in
      let t = parent_there z.parent z p parent (and_parts (has_good_parent rows z) _ (found-all (fits_in rows) rows y z b.formed there)).0 in
      up y p (to_parent_at rows y p z there parent) (stood_above a p t.0 t.1 above)

  -- what is not put, and is covered now, was seen before
  covered_seen : (s : ShareOf) (y : List ℕ) (f : Record) → Accepted u after s → IsAncestor after s.root y → put y ≡ false → record_at after y ≡ Some f → record_at seen y ≡ Some f
  covered_seen s y f t above off at =
      let there = before y f off at in
      let name = same-true y f.name (found-name rows y f there) in
      seen_from y f there (or_left (covers rows u f.name) _ (subst (λ z. covers rows u z ≡ true) name (covered u rows s y (old_share s t) (stood_above s.root y f there above))))

module _ (u : List ℕ) (seen rows rows_too after after_too : List Record) (put : List ℕ → Bool) (left : List ℕ → Option Record)
    (b : Becomes u seen rows after put left) (c : Becomes u seen rows_too after_too put left) where
  carried_by : (p : Bool) (y : List ℕ) (f : Record) → put y ≡ p → record_at after y ≡ Some f → (p ≡ false → record_at seen y ≡ Some f) → record_at after_too y ≡ Some f
  carried_by true y f is at shown = c.found y is ∙ sym (b.found y is) ∙ at
  carried_by false y f is at shown = c.rest y is ∙ (found-some (is_visible rows_too u) rows_too y f c.ascending (ap (λ rs. record_at rs y) (sym c.view) ∙ shown refl)).0

  carried : (s : ShareOf) (y : List ℕ) (f : Record) → Accepted u after s → IsAncestor after s.root y → record_at after y ≡ Some f → record_at after_too y ≡ Some f
  carried s y f t above at = carried_by (put y) y f refl at (λ off. covered_seen u seen rows after put left b s y f t above off at)

  carried_share : (y : List ℕ) (f : Record) → record_at after y ≡ Some f → is_some_and (has_accepted u) (share_of f) ≡ true → record_at after_too y ≡ Some f
  carried_share y f at accepts = carried_by (put y) y f refl at (λ off. accepted_seen u seen rows after put left b y f at accepts)

  other_share : (s : ShareOf) → Accepted u after s → Accepted u after_too s
  other_share s t = record { row = t.row; at = carried_share t.row.name t.row t.at (ap (is_some_and (has_accepted u)) t.is ∙ t.accepts); is = t.is; accepts = t.accepts }

  stands_above : (s : ShareOf) (y : List ℕ) → Accepted u after s → IsAncestor after s.root y → IsAncestor after_too s.root y
  stands_above s _ t (here y e) = here y e
  stands_above s _ t (up y p e above) =
      let f = from_parent_at after y p e in
      up y p (to_parent_at after_too y p f.0 (carried s y f.0 t (up y p e above) f.1) f.2) (stands_above s p t above)

  shown_covered : (x : List ℕ) (f : Record) → record_at after x ≡ Some f → Covering u after x → record_at (filter (is_visible after_too u) after_too) x ≡ Some f
  shown_covered x f at t =
      let found = carried t.0 x f t.1 t.2 at in
      let name = same-true x f.name (found-name after x f at) in
      found-among (is_visible after_too u) after_too x f found
      (or_left (covers after_too u f.name) _ (subst (λ z. covers after_too u z ≡ true) name (covered u after_too t.0 x (other_share t.0 t.1) (stands_above t.0 x t.1 t.2))))

  -- what is seen in the one zone now is seen in the other
  seen_in_other : (x : List ℕ) (f : Record) → record_at (filter (is_visible after u) after) x ≡ Some f → record_at (filter (is_visible after_too u) after_too) x ≡ Some f
  seen_in_other x f e =
      let found = found-some (is_visible after u) after x f b.ascending_after e in
      let name = same-true x f.name (found-name after x f found.0) in
      ⊎_elim
      (λ (is : covers after u f.name ≡ true). shown_covered x f found.0 (covering u after x b.ascending_after (subst (λ z. covers after u z ≡ true) (sym name) is)))
      (λ (accepts : is_some_and (has_accepted u) (share_of f) ≡ true).
      found-among (is_visible after_too u) after_too x f (carried_share x f found.0 accepts) (or_right (covers after_too u f.name) (is_some_and (has_accepted u) (share_of f)) accepts))
      (or_cases (covers after u f.name) (is_some_and (has_accepted u) (share_of f)) found.1)

pub seen_alike_after : (u : List ℕ) (seen rows rows_too after after_too : List Record) (put : List ℕ → Bool) (left : List ℕ → Option Record)
    → Becomes u seen rows after put left → Becomes u seen rows_too after_too put left → filter (is_visible after u) after ≡ filter (is_visible after_too u) after_too
seen_alike_after u seen rows rows_too after after_too put left b c =
    same_rows (filter (is_visible after u) after) (filter (is_visible after_too u) after_too)
    (ascending-some (is_visible after u) after b.ascending_after) (ascending-some (is_visible after_too u) after_too c.ascending_after)
    (seen_in_other u seen rows rows_too after after_too put left b c) (seen_in_other u seen rows_too rows after_too after put left c b)
