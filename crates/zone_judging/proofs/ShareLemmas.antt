-- The share of a root, by the name that the root gives.
use Rattle.std.proofs.Common.{◌≡◌, ℕ, List, Bool, true, false, not, ◌&&◌, refl, sym, ap, ◌∙◌, subst, Some, None, Option}
use Rattle.std.specs.Prelude.{is_some, option_and_then}
use Rattle.std.specs.Option.{option_map_or, IfSome}
use Rattle.std.specs.Cmp.{both_ways as iff}
use Rattle.std.proofs.lemmas.Bool.{both_ways, and_parts}
use Rattle.std.proofs.lemmas.Option.{same_Some}
use Rattle.share_records.specs.declared.share.Share.{Share as ShareOf}
use Rattle.record_model.specs.declared.records.Record.{Record}
use Rattle.name_rules.specs.Options.{is_some_and}
use Rattle.name_rules.proofs.NameLemmas.{same-true}
use Rattle.zone_model.specs.Names.{same, is_in}
use Rattle.zone_model.specs.Records.{record_at, share_of}
use Rattle.zone_model.specs.Working.{is_share_of}
use Rattle.zone_laws.proofs.RecordLaws.{found-name}
use Rattle.zone_laws.proofs.JudgeLaws.{there-found}
use Rattle.zone_laws.proofs.MarkLaws.{any-found, any-from}
use Rattle.zone_judging.specs.Sights.{marked, IsRooted}
use Rattle.zone_judging.specs.Removal.{AreWhole, names_one, with_last, goes_as_share, IsGrown}
use Rattle.zone_judging.proofs.PermitLemmas.{found_each}
use Rattle.zone_judging.proofs.GrowLemmas.{grown_none, grown_one}

not_true : (b : Bool) → not b ≡ true → b ≡ false
not_true false e = refl
not_true true e = absurd (both_ways false refl e)

module _ (rows : List Record) (taken : List (List ℕ)) (a : List ℕ) (whole : AreWhole rows taken) where
  rooted_by : (o : Option ShareOf) (q : Record) → share_of q ≡ o → IfSome o (λ s. marked rows s.root ≡ Some q.name) → is_some_and (λ (s : ShareOf). same a s.root) o ≡ true → marked rows a ≡ Some q.name
  rooted_by None q is rooted e = absurd (both_ways false refl e)
  rooted_by (Some s) q is rooted e = ap (marked rows) (same-true a s.root e) ∙ rooted

  its_mark : (q : Record) → record_at rows q.name ≡ Some q → goes_as_share taken a q ≡ true → marked rows a ≡ Some q.name
  its_mark q at e =
      let parts = and_parts (not (is_in taken q.name)) (is_share_of a q) e in
      rooted_by (share_of q) q refl
      (found_each (λ (r : Record). is_in taken r.name ≡ false → IsRooted rows r) rows q.name q whole.rooted at (not_true (is_in taken q.name) parts.0)) parts.1

  abbrev shared : List ℕ → Bool
  shared y = names_one (goes_as_share taken a) rows y

  abbrev told : Option Record
  told = option_and_then (record_at rows) (marked rows a)

  no_record : (r : Record) → None ≡ Some r → ⊥
  no_record r e = both_ways false refl (ap (λ (o : Option Record). option_map_or (λ _. true) o false) e)

  -- a record that passes is the one that is told
  is_told : (y : List ℕ) → shared y ≡ true → (q : Record) × (told ≡ Some q) × ((goes_as_share taken a q && same y q.name) ≡ true)
  is_told y e =
      let q = any-found (λ (r : Record). goes_as_share taken a r && same y r.name) rows whole.ordered e in
      (q.0, ap (option_and_then (record_at rows)) (its_mark q.0 q.1 (and_parts (goes_as_share taken a q.0) (same y q.0.name) q.2).0) ∙ q.1, q.2)

  none_by : (b : Bool) (y : List ℕ) → shared y ≡ b → told ≡ None → b ≡ false
  none_by false y is none = refl
  none_by true y is none = let q = is_told y is in absurd (no_record q.0 (sym none ∙ q.1))

  mark_found : (m : Option (List ℕ)) (r : Record) → marked rows a ≡ m → option_and_then (record_at rows) m ≡ Some r → record_at rows r.name ≡ Some r
  mark_found None r is e = absurd (no_record r e)
  mark_found (Some x) r is e = subst (λ z. record_at rows z ≡ Some r) (same-true x r.name (found-name rows x r e)) e

  some_told : (y : List ℕ) (r : Record) → told ≡ Some r → shared y ≡ (goes_as_share taken a r && same y r.name)
  some_told y r is = iff (shared y) (goes_as_share taken a r && same y r.name)
      (λ e. let q = is_told y e in subst (λ (t : Record). (goes_as_share taken a t && same y t.name) ≡ true) (same_Some q.0 r (sym q.1 ∙ is)) q.2)
      (λ e. any-from (λ (t : Record). goes_as_share taken a t && same y t.name) rows r.name r (mark_found (marked rows a) r refl is) e)

  pub share_none : (old : List (List ℕ)) → told ≡ None → IsGrown rows (goes_as_share taken a) old old
  share_none old none = grown_none rows (goes_as_share taken a) old (λ y. none_by (shared y) y refl none)

  pub share_left : (old : List (List ℕ)) (r : Record) → told ≡ Some r → goes_as_share taken a r ≡ false → IsGrown rows (goes_as_share taken a) old old
  share_left old r is e = grown_none rows (goes_as_share taken a) old (λ y. some_told y r is ∙ ap (λ b. b && same y r.name) e)

  pub share_gone : (old : List (List ℕ)) (r : Record) → told ≡ Some r → goes_as_share taken a r ≡ true → IsGrown rows (goes_as_share taken a) old (with_last old r.name)
  share_gone old r is e = grown_one rows (goes_as_share taken a) old r.name
      (there-found rows r.name ∙ ap is_some (mark_found (marked rows a) r refl is))
      (λ y. some_told y r is ∙ ap (λ b. b && same y r.name) e)
