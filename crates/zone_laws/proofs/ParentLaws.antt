-- Of a request without a fault: parents stay where their children stay, and form no ring.
use Rattle.std.proofs.Common.{◌≡◌, ℕ, List, [], ◌∷◌, Bool, true, false, cond, not, ◌&&◌, ◌||◌, refl, sym, ap, ◌∙◌, subst, Some, None, Option}
use Rattle.std.specs.Prelude.{filter, is_some, option_and_then, if◌then◌else◌}
use Rattle.std.specs.Option.{option_map_or}
use Rattle.std.specs.List.{list_any}
use Rattle.std.proofs.lemmas.Bool.{both_ways, and_parts, or_left, or_right, or_parts, true_from_ne_false, false_from_ne_true}
use Rattle.std.proofs.lemmas.Option.{same_Some}
use Rattle.record_model.specs.declared.records.Record.{Record}
use Rattle.zone_model.specs.declared.operations.Past.{Past}
use Rattle.zone_model.specs.Names.{same, is_in}
use Rattle.name_rules.specs.Options.{is_some_and, is_none_or}
use Rattle.zone_model.specs.Records.{record_at, names_in, is_share, IsAscending}
use Rattle.zone_model.specs.Ancestry.{IsAncestor, is_ancestor, parent_at}
use Rattle.name_rules.specs.Parents.{here, up}
use Rattle.zone_model.specs.Requests.{puts_in, new_parent, names_deleted}
use Rattle.zone_model.specs.Grounds.{names_taken, is_taken_by_deletion}
use Rattle.record_model.specs.RecordForms.{is_share_type}
use Rattle.zone_model.specs.PutChecks.{parent, is_plain_in_working}
use Rattle.zone_model.specs.Cascade.{takes_along, is_due}
use Rattle.zone_laws.specs.LawfulTests.{is_plain, has_good_parent}
use Rattle.zone_model.specs.Effect.{Request, after_puts, removed}
use Rattle.name_rules.proofs.NameLemmas.{same-true, any-in}
use Rattle.zone_laws.proofs.AncestryLaws.{is_ancestor_from, parent_of-record}
use Rattle.zone_laws.proofs.CascadeLaws.{removed-rests}
use Rattle.zone_laws.proofs.RecordLaws.{none-some, found-name}
use Rattle.zone_laws.proofs.EffectLaws.{ascending-puts}
use Rattle.zone_laws.proofs.FormedLaws.{found-some, found-among}
use Rattle.zone_laws.proofs.JudgeLaws.{in-filter}
use Rattle.zone_laws.proofs.CoreLaws.{Core, share-core, leaving-core, put-name}
use Rattle.zone_laws.proofs.KeptLaws.{ground, IsFine, checked, is-new, New, old-after, Added, added-after, reached, judged-working, working-judged, fits}

-- ---- records found and not

plain_step : (rows : List Record) (x : List ℕ) (o : Option Record) → record_at rows x ≡ o → is_some_and (λ (r : Record). not (is_share r)) o ≡ true → (t : Record) × (record_at rows x ≡ Some t) × (is_share t ≡ false)
plain_step rows x None is e = absurd (both_ways false refl e)
plain_step rows x (Some t) is e = (t, is, false_from_ne_true (is_share t) (λ s. both_ways (not (is_share t)) (ap not s) e))

-- a plain name has a record that is no share
typed_step : (o : Option Record) → is_some_and (λ (r : Record). not (is_share r) && not (is_share_type r.rtype)) o ≡ true → is_some_and (λ (r : Record). not (is_share r)) o ≡ true
typed_step None e = e
typed_step (Some r) e = (and_parts (not (is_share r)) _ e).0

-- what is no share by its type either is no share
pub plain_of : (rows : List Record) (x : List ℕ) → is_some_and (λ (r : Record). not (is_share r) && not (is_share_type r.rtype)) (record_at rows x) ≡ true → is_plain rows x ≡ true
plain_of rows x e = typed_step (record_at rows x) e

pub plain-found : (rows : List Record) (x : List ℕ) → is_plain rows x ≡ true → (t : Record) × (record_at rows x ≡ Some t) × (is_share t ≡ false)
plain-found rows x e = plain_step rows x (record_at rows x) refl e

parent_step : (rows : List Record) (y r : List ℕ) (o : Option Record) → record_at rows y ≡ o → option_and_then (λ (t : Record). t.parent) o ≡ Some r → (t : Record) × (record_at rows y ≡ Some t) × (t.parent ≡ Some r)
parent_step rows y r None is e = absurd (both_ways false refl (ap (λ (p : Option (List ℕ)). option_map_or (λ _. true) p false) e))
parent_step rows y r (Some t) is e = (t, is, e)

pub from_parent_at : (rows : List Record) (y r : List ℕ) → parent_at rows y ≡ Some r → (t : Record) × (record_at rows y ≡ Some t) × (t.parent ≡ Some r)
from_parent_at rows y r e = parent_step rows y r (record_at rows y) refl (sym (parent_of-record rows y) ∙ e)

pub to_parent_at : (rows : List Record) (y r : List ℕ) (t : Record) → record_at rows y ≡ Some t → t.parent ≡ Some r → parent_at rows y ≡ Some r
to_parent_at rows y r t is e = parent_of-record rows y ∙ ap (option_and_then (λ (u : Record). u.parent)) is ∙ e

named_step : (s : Bool) (r : Record) (rows : List Record) (x : List ℕ) → same x r.name ≡ s → (is_in (names_in rows) x ≡ true → (t : Record) × (record_at rows x ≡ Some t)) → (s || is_in (names_in rows) x) ≡ true
    → (t : Record) × (cond s (Some r) (record_at rows x) ≡ Some t)
named_step true r rows x is ih e = (r, refl)
named_step false r rows x is ih e = ih e

named-found : (rows : List Record) (x : List ℕ) → is_in (names_in rows) x ≡ true → (t : Record) × (record_at rows x ≡ Some t)
named-found [] x e = absurd (both_ways false refl e)
named-found (r ∷ rows) x e = named_step (same x r.name) r rows x refl (named-found rows x) e

found_named_step : (s : Bool) (r t : Record) (rows : List Record) (x : List ℕ) → (record_at rows x ≡ Some t → is_in (names_in rows) x ≡ true) → cond s (Some r) (record_at rows x) ≡ Some t → (s || is_in (names_in rows) x) ≡ true
found_named_step true r t rows x ih e = refl
found_named_step false r t rows x ih e = ih e

found-named : (rows : List Record) (x : List ℕ) (t : Record) → record_at rows x ≡ Some t → is_in (names_in rows) x ≡ true
found-named [] x t e = absurd (none-some None t refl e)
found-named (r ∷ rows) x t e = found_named_step (same x r.name) r t rows x (found-named rows x t) e

none_passes_step : (s : Bool) (p : Record → Bool) (q r : Record) (o : Option Record) → p q ≡ false → (o ≡ Some r → p r ≡ false) → cond s (Some q) o ≡ Some r → p r ≡ false
none_passes_step true p q r o off ih e = subst (λ (t : Record). p t ≡ false) (same_Some q r e) off
none_passes_step false p q r o off ih e = ih e

pub none-passes : (p : Record → Bool) (rows : List Record) (x : List ℕ) (r : Record) → list_any p rows ≡ false → record_at rows x ≡ Some r → p r ≡ false
none-passes p [] x r none e = absurd (none-some None r refl e)
none-passes p (q ∷ rows) x r none e = let parts = or_parts (p q) _ none in none_passes_step (same x q.name) p q r (record_at rows x) parts.0 (none-passes p rows x r parts.1) e

module _ (q : Request) (pasts : List Past) (fine : IsFine q pasts) where
  pub after_in_order : IsAscending (after_puts q)
  after_in_order = ascending-puts q fine.rows_in_order

  -- ---- parents are there

  -- the parent of a record that was there before
  pub zone-parent : (x p : List ℕ) (z : Record) → record_at q.rows x ≡ Some z → z.parent ≡ Some p → (is_plain q.rows p ≡ true) × (is_ancestor q.rows x p ≡ false)
  zone-parent x p z there parent =
      let good = (and_parts (has_good_parent q.rows z) _ (fits q pasts fine x z there)).0 in
      let parts = and_parts (is_plain q.rows p) _ (subst (λ o. is_none_or (λ y. is_plain q.rows y && not (is_ancestor q.rows z.name y)) o ≡ true) parent good) in
      let apart : not (is_ancestor q.rows x p) ≡ true = subst (λ y. not (is_ancestor q.rows y p) ≡ true) (sym (same-true x z.name (found-name q.rows x z there))) parts.1 in
      (parts.0, false_from_ne_true (is_ancestor q.rows x p) (λ e. both_ways (not (is_ancestor q.rows x p)) (ap not e) apart))

  -- the parent of a new one
  pub new-parent : (x p : List ℕ) (w : Record) → New q pasts fine x w → w.parent ≡ Some p → (is_plain (ground q pasts).working p ≡ true) × (is_ancestor (ground q pasts).working x p ≡ false)
  new-parent x p w new is =
      let given : new_parent new.put.draft ≡ Some p = sym (ap (λ (t : Core). t.parent) new.is) ∙ is in
      let looked : parent (ground q pasts) new.put ≡ Some p = ap (λ b. if b then new_parent new.put.draft else None) (is-new q pasts fine x new.put new.at new.unseen) ∙ given in
      let good = subst (λ o. is_some_and (λ y. not (is_plain_in_working (ground q pasts) new.put y) || is_ancestor (ground q pasts).working new.put.name y) o ≡ false) looked (checked q pasts fine x new.put new.at).parent_good in
      let g = ground q pasts in
      let b = new.put in
      let parts = or_parts (not (is_plain_in_working g b p)) _ good in (
        plain_of g.working p (true_from_ne_false (is_plain_in_working g b p) (λ e. both_ways (not (is_plain_in_working g b p)) parts.0 (ap not e))),
        subst (λ y. is_ancestor (ground q pasts).working y p ≡ false) (sym (same-true x new.put.name (put-name (puts_in q.ops) x new.put new.at))) parts.1,
      )

  -- what is plain stands after the puts as no share
  pub plain-zone : (p : List ℕ) → is_plain q.rows p ≡ true → (b : Record) × (record_at (after_puts q) p ≡ Some b) × (is_share b ≡ false)
  plain-zone p plain =
      let t = plain-found q.rows p plain in
      let old = old-after q pasts fine p t.0 t.1 in
      (old.row, old.at, share-core old.row ∙ ap is_some old.root ∙ sym (share-core t.0) ∙ t.2)

  pub plain-working : (p : List ℕ) → is_plain (ground q pasts).working p ≡ true → (b : Record) × (record_at (after_puts q) p ≡ Some b) × (is_share b ≡ false)
  plain-working p plain =
      let t = plain-found (ground q pasts).working p plain in
      let w = judged-working q pasts fine p t.0 t.1 in
      let r = reached q pasts fine p w.0 w.1 in
      (r.row, r.at, share-core r.row ∙ ap is_some (r.root ∙ ap (λ (c : Core). c.root) w.2) ∙ sym (share-core t.0) ∙ t.2)

  added-parent : (x p : List ℕ) (a : Record) (added : Added q pasts fine x a) → a.parent ≡ Some p → added.row.parent ≡ Some p
  added-parent x p a added is = sym (ap (λ (t : Core). t.parent) (leaving-core q added.row)) ∙ ap (λ (r : Record). r.parent) added.is ∙ is

  parent_by : (o : Option Record) (x p : List ℕ) (a : Record) → record_at q.rows x ≡ o → record_at (after_puts q) x ≡ Some a → a.parent ≡ Some p → (b : Record) × (record_at (after_puts q) p ≡ Some b) × (is_share b ≡ false)
  parent_by (Some z) x p a there at is =
      let old = old-after q pasts fine x z there in
      let one : old.row ≡ a = same_Some old.row a (sym old.at ∙ at) in
      plain-zone p (zone-parent x p z there (sym old.parent ∙ ap (λ (r : Record). r.parent) one ∙ is)).0
  parent_by None x p a absent at is =
      let added = added-after q pasts fine x a absent at in
      plain-working p (new-parent x p added.row added.new (added-parent x p a added is)).0

  -- a parent is there after the puts, and is no share
  pub parent-there : (x p : List ℕ) (a : Record) → record_at (after_puts q) x ≡ Some a → a.parent ≡ Some p → (b : Record) × (record_at (after_puts q) p ≡ Some b) × (is_share b ≡ false)
  parent-there x p a at is = parent_by (record_at q.rows x) x p a refl at is

  -- ---- no rings

  -- above what was in the zone all was in the zone
  zone_end : (a y : List ℕ) (t : Record) → IsAncestor q.rows a y → record_at q.rows y ≡ Some t → (s : Record) × (record_at q.rows a ≡ Some s)
  zone_end a _ t (here y e) there = (t, ap (record_at q.rows) e ∙ there)
  zone_end a _ t (up y p e above) there =
      let has = from_parent_at q.rows y p e in
      let plain = plain-found q.rows p (zone-parent y p has.0 has.1 has.2).0 in
      zone_end a p plain.0 above plain.1

  in_zone : (a y : List ℕ) (t : Record) → IsAncestor (after_puts q) a y → record_at q.rows y ≡ Some t → IsAncestor q.rows a y
  in_zone a _ t (here y e) there = here y e
  in_zone a _ t (up y p e above) there =
      let old = old-after q pasts fine y t there in
      let has = from_parent_at (after_puts q) y p e in
      let one : old.row ≡ has.0 = same_Some old.row has.0 (sym old.at ∙ has.1) in
      let parent : t.parent ≡ Some p = sym old.parent ∙ ap (λ (r : Record). r.parent) one ∙ has.2 in
      let plain = plain-found q.rows p (zone-parent y p t there parent).0 in
      up y p (to_parent_at q.rows y p t there parent) (in_zone a p plain.0 above plain.1)

  working_step : (o : Option Record) (a y p : List ℕ) → record_at q.rows y ≡ o → record_at q.rows a ≡ None → parent_at (after_puts q) y ≡ Some p → IsAncestor (after_puts q) a p
      → IsAncestor (ground q pasts).working a p → IsAncestor (ground q pasts).working a y
  working_step (Some t) a y p there absent e above ih =
      let end = zone_end a y t (in_zone a y t (up y p e above) there) there in
      absurd (none-some (record_at q.rows a) end.0 absent end.1)
  working_step None a y p missing absent e above ih =
      let has = from_parent_at (after_puts q) y p e in
      let added = added-after q pasts fine y has.0 missing has.1 in
      let judged = working-judged q pasts fine y added.row added.at in
      up y p (to_parent_at (ground q pasts).working y p judged.0 judged.1 (ap (λ (t : Core). t.parent) judged.2 ∙ added-parent y p has.0 added has.2)) ih

  -- what stands above a new record's name is new too
  in_working : (a y : List ℕ) → IsAncestor (after_puts q) a y → record_at q.rows a ≡ None → IsAncestor (ground q pasts).working a y
  in_working a _ (here y e) absent = here y e
  in_working a _ (up y p e above) absent = working_step (record_at q.rows y) a y p refl absent e above (in_working a p above absent)

  ring_by : (o : Option Record) (x p : List ℕ) (a : Record) → record_at q.rows x ≡ o → record_at (after_puts q) x ≡ Some a → a.parent ≡ Some p → IsAncestor (after_puts q) x p → ⊥
  ring_by (Some z) x p a there at is above =
      let old = old-after q pasts fine x z there in
      let one : old.row ≡ a = same_Some old.row a (sym old.at ∙ at) in
      let good = zone-parent x p z there (sym old.parent ∙ ap (λ (r : Record). r.parent) one ∙ is) in
      let plain = plain-found q.rows p good.0 in
      both_ways (is_ancestor q.rows x p) good.1 (is_ancestor_from q.rows x p (in_zone x p plain.0 above plain.1))
  ring_by None x p a absent at is above =
      let added = added-after q pasts fine x a absent at in
      let good = new-parent x p added.row added.new (added-parent x p a added is) in
      both_ways (is_ancestor (ground q pasts).working x p) good.1 (is_ancestor_from (ground q pasts).working x p (in_working x p above absent))

  -- no record stands above its own parent
  pub no-ring : (x p : List ℕ) (a : Record) → record_at (after_puts q) x ≡ Some a → a.parent ≡ Some p → IsAncestor (after_puts q) x p → ⊥
  no-ring x p a at is above = ring_by (record_at q.rows x) x p a refl at is above

  -- ---- what goes

  abbrev pub taken : List (List ℕ)
  taken = names_taken q.caller q.seen q.ops

  -- a name that goes is due
  pub gone-due : (x : List ℕ) → is_in (removed q) x ≡ true → (a : Record) × (record_at (after_puts q) x ≡ Some a) × (is_due (after_puts q) taken (removed q) a ≡ true)
  gone-due x e =
      let some = filter (is_due (after_puts q) taken (removed q)) (after_puts q) in
      let has = named-found some x (subst (λ names. is_in names x ≡ true) (sym (removed-rests (after_puts q) taken)) e) in
      let found = found-some (is_due (after_puts q) taken (removed q)) (after_puts q) x has.0 after_in_order has.1 in
      (has.0, found.0, found.1)

  -- and what is due goes
  pub due-gone : (x : List ℕ) (a : Record) → record_at (after_puts q) x ≡ Some a → is_due (after_puts q) taken (removed q) a ≡ true → is_in (removed q) x ≡ true
  due-gone x a at e = subst (λ names. is_in names x ≡ true) (removed-rests (after_puts q) taken)
      (found-named (filter (is_due (after_puts q) taken (removed q)) (after_puts q)) x a (found-among (is_due (after_puts q) taken (removed q)) (after_puts q) x a at e))

  -- what a removed name takes along goes
  pub along-gone : (x b : List ℕ) (a : Record) → record_at (after_puts q) x ≡ Some a → is_in (removed q) b ≡ true → takes_along (after_puts q) taken b a ≡ true → is_in (removed q) x ≡ true
  along-gone x b a at gone along = due-gone x a at (or_right (is_in taken a.name) _ (any-in (λ y. takes_along (after_puts q) taken y a) (removed q) b gone along))

  some_of : (o : Option Record) (p : Record → Bool) (x : List ℕ) → record_at q.seen x ≡ o → is_some_and p o ≡ true → (v : Record) × (record_at q.seen x ≡ Some v)
  some_of None p x is e = absurd (both_ways false refl e)
  some_of (Some v) p x is e = (v, is)

  -- a name that a deletion takes is seen
  pub taken-seen : (x : List ℕ) → is_in taken x ≡ true → (v : Record) × (record_at q.seen x ≡ Some v)
  taken-seen x e = some_of (record_at q.seen x) _ x refl (in-filter (is_taken_by_deletion q.caller q.seen) (names_deleted q.ops) x e).1

  -- and it goes
  pub taken-gone : (x : List ℕ) → is_in taken x ≡ true → is_in (removed q) x ≡ true
  taken-gone x e =
      let v = taken-seen x e in
      let old = old-after q pasts fine x v.0 (fine.part.part x v.0 v.1) in
      due-gone x old.row old.at (or_left (is_in taken old.row.name) _ (subst (λ y. is_in taken y ≡ true) (same-true x old.row.name (found-name (after_puts q) x old.row old.at)) e))
