-- Who may write, by the shares that roots name.
use Rattle.std.proofs.Common.{◌≡◌, ℕ, suc, ◌≤◌, ◌<◌, ◌-◌, List, [], ◌∷◌, Bool, true, false, cond, ◌||◌, refl, sym, ap, ◌∙◌, subst, Some, None, Option, ⊎_elim, length}
use Rattle.std.specs.Prelude.{option_and_then}
use Rattle.std.specs.Option.{option_map_or, IfSome}
use Rattle.std.specs.List.{list_any, AllByRecursion}
use Rattle.std.specs.Cmp.{both_ways as iff}
use Rattle.std.proofs.lemmas.Bool.{both_ways, and_parts, and_from, or_cases}
use Rattle.name_rules.specs.Names.{same, is_in}
use Rattle.name_rules.specs.Options.{is_some_and}
use Rattle.name_rules.specs.Parents.{upward, is_above, parent_of}
use Rattle.name_rules.proofs.NameLemmas.{same-true, same-refl, any-in}
use Rattle.name_rules.proofs.ParentLemmas.{above_from_upward, is_above_from}
use Rattle.share_records.specs.declared.permission.Permission.{Permission}
use Rattle.share_records.specs.declared.share.Share.{Share as ShareOf}
use Rattle.share_records.specs.Permissions.{gives}
use Rattle.share_records.specs.Covering.{reaches}
use Rattle.record_model.specs.declared.records.Record.{Record}
use Rattle.zone_model.specs.Records.{record_at, share_of}
use Rattle.zone_model.specs.Ancestry.{links_of}
use Rattle.zone_model.specs.Coverage.{may_write}
use Rattle.zone_laws.proofs.TestLaws.{some_and_so}
use Rattle.zone_laws.proofs.AncestryLaws.{record_reaches, gives_at-records, parent_of-record}
use Rattle.zone_laws.proofs.MarkLaws.{any-found, any-from}
use Rattle.zone_judging.specs.Sights.{AreSeen, IsRooted, marked, lets_write, share_lets, permits}
use Rattle.zone_judging.proofs.WayLemmas.{in_more, any_met, any_ended, any_goes_on, any_last}

-- what holds of each record holds of the one of a name
found_step : (P : Record → Type 0) (s : Bool) (q r : Record) (rows : List Record) (x : List ℕ) → P q → (record_at rows x ≡ Some r → P r) → cond s (Some q) (record_at rows x) ≡ Some r → P r
found_step P true q r rows x one more e = subst P (same_some q r e) one
  where
    same_some : (a b : Record) → Some a ≡ Some b → a ≡ b
    same_some a b e = ap (λ (o : Option Record). option_map_or (λ t. t) o a) e
found_step P false q r rows x one more e = more e

pub found_each : (P : Record → Type 0) (rows : List Record) (x : List ℕ) (r : Record) → AllByRecursion P rows → record_at rows x ≡ Some r → P r
found_each P [] x r all e = absurd (both_ways false refl (ap (λ (o : Option Record). option_map_or (λ _. true) o false) e))
found_each P (q ∷ rows) x r all e = found_step P (same x q.name) q r rows x all.0 (found_each P rows x r all.1) e

-- ---- the test of a list, by a name that passes

pub record Passing (p : List ℕ → Bool) (names : List (List ℕ)) : Type 0 where
  pub name : List ℕ
  pub within : is_in names name ≡ true
  pub passes : p name ≡ true

pub passing : (p : List ℕ → Bool) (names : List (List ℕ)) → list_any p names ≡ true → Passing p names
passing p [] e = absurd (both_ways false refl e)
passing p (x ∷ names) e = ⊎_elim
    (λ (h : p x ≡ true). record { name = x; within = ap (λ b. b || is_in names x) (same-refl x); passes = h })
    (λ (h : list_any p names ≡ true). let rest = passing p names h in record { name = rest.name; within = later (same rest.name x) (is_in names rest.name) rest.within; passes = rest.passes })
    (or_cases (p x) (list_any p names) e)
  where
    later : (a b : Bool) → b ≡ true → (a || b) ≡ true
    later true b e = refl
    later false b e = e

-- ---- a share at or above, and a root on the way

module _ (rows : List Record) (u x : List ℕ) (n : ℕ) (few : length (links_of rows) ≤ n) where
  from_share : (o : Option ShareOf) (r : Record) → record_at rows r.name ≡ Some r → share_of r ≡ o → IfSome o (λ s. marked rows s.root ≡ Some r.name) → is_some_and (reaches (links_of rows) Permission.ReadWrite u x) o ≡ true
      → list_any (permits rows u) (upward n (links_of rows) x) ≡ true
  from_share None r at is rooted e = absurd (both_ways false refl e)
  from_share (Some s) r at is rooted e =
      let parts = and_parts (is_above (links_of rows) s.root x) (gives Permission.ReadWrite u s) e in
      any-in (permits rows u) (upward n (links_of rows) x) s.root (in_more (length (links_of rows)) n (links_of rows) s.root x few parts.0)
      (ap (is_some_and (share_lets rows u s.root)) rooted
      ∙ ap (λ o. is_some_and (lets_write u s.root) (option_and_then share_of o)) at
      ∙ ap (is_some_and (lets_write u s.root)) is
      ∙ and_from (same s.root s.root) (gives Permission.ReadWrite u s) (same-refl s.root) parts.1)

  from_record : (r : Record) → AreSeen rows → record_at rows r.name ≡ Some r → record_reaches rows Permission.ReadWrite u x r ≡ true → list_any (permits rows u) (upward n (links_of rows) x) ≡ true
  from_record r seen at e = from_share (share_of r) r at refl (found_each (IsRooted rows) rows r.name r seen.rooted at) e

  from_may : AreSeen rows → may_write rows u x ≡ true → list_any (permits rows u) (upward n (links_of rows) x) ≡ true
  from_may seen e =
      let found = any-found (record_reaches rows Permission.ReadWrite u x) rows seen.ordered (sym (gives_at-records rows Permission.ReadWrite u x) ∙ e) in
      from_record found.0 seen found.1 found.2

  to_share : (a : List ℕ) (o : Option Record) (m : List ℕ) → is_in (upward n (links_of rows) x) a ≡ true → record_at rows m ≡ o → is_some_and (lets_write u a) (option_and_then share_of o) ≡ true → may_write rows u x ≡ true
  to_share a None m within at e = absurd (both_ways false refl e)
  to_share a (Some r) m within at e =
      let found = some_and_so (lets_write u a) (share_of r) e in
      let parts = and_parts (same a found.0.root) (gives Permission.ReadWrite u found.0) found.2 in
      gives_at-records rows Permission.ReadWrite u x
      ∙ any-from (record_reaches rows Permission.ReadWrite u x) rows m r at
      (ap (is_some_and (reaches (links_of rows) Permission.ReadWrite u x)) found.1
      ∙ and_from (is_above (links_of rows) found.0.root x) (gives Permission.ReadWrite u found.0)
      (subst (λ y. is_above (links_of rows) y x ≡ true) (same-true a found.0.root parts.0) (is_above_from (links_of rows) a x (above_from_upward n (links_of rows) a x within))) parts.1)

  to_may : list_any (permits rows u) (upward n (links_of rows) x) ≡ true → may_write rows u x ≡ true
  to_may e =
      let root = passing (permits rows u) (upward n (links_of rows) x) e in
      let mark = some_and_so (share_lets rows u root.name) (marked rows root.name) root.passes in
      to_share root.name (record_at rows mark.0) mark.0 root.within refl mark.2

  pub permitted : AreSeen rows → list_any (permits rows u) (upward n (links_of rows) x) ≡ may_write rows u x
  permitted seen = iff (list_any (permits rows u) (upward n (links_of rows) x)) (may_write rows u x) to_may (from_may seen)

pub permitted_by : (rows : List Record) (u x : List ℕ) (n : ℕ) → AreSeen rows → length rows ≤ n → list_any (permits rows u) (upward n (links_of rows) x) ≡ may_write rows u x
permitted_by rows u x n seen few = permitted rows u x n (subst (λ k. k ≤ n) (sym (linked rows)) few) seen
  where
    linked : (rs : List Record) → length (links_of rs) ≡ length rs
    linked [] = refl
    linked (r ∷ rs) = ap suc (linked rs)

-- ---- one step upward

unseen_by : (rows : List Record) (u x : List ℕ) (o : Option Record) → record_at rows x ≡ o → o ≡ None → (permits rows u x ≡ false) × (parent_of (links_of rows) x ≡ None)
unseen_by rows u x o is none = (
  ap (λ (w : Option Record). is_some_and (share_lets rows u x) (option_and_then (λ (r : Record). r.share) w)) (is ∙ none),
  parent_of-record rows x ∙ ap (option_and_then (λ (r : Record). r.parent)) (is ∙ none),
)

pub unseen_ends : (rows : List Record) (u x : List ℕ) (n : ℕ) → record_at rows x ≡ None → list_any (permits rows u) (upward n (links_of rows) x) ≡ false
unseen_ends rows u x n none = let both = unseen_by rows u x (record_at rows x) refl none in any_ended (permits rows u) (links_of rows) n x both.0 both.1

pub permit_met : (rows : List Record) (u x : List ℕ) (n : ℕ) → permits rows u x ≡ true → list_any (permits rows u) (upward n (links_of rows) x) ≡ true
permit_met rows u x n e = any_met (permits rows u) (links_of rows) n x e

pub permit_ended : (rows : List Record) (u x : List ℕ) (r : Record) (n : ℕ) → record_at rows x ≡ Some r → permits rows u x ≡ false → r.parent ≡ None → list_any (permits rows u) (upward n (links_of rows) x) ≡ false
permit_ended rows u x r n is e none = any_ended (permits rows u) (links_of rows) n x e (parent_of-record rows x ∙ ap (option_and_then (λ (t : Record). t.parent)) is ∙ none)

pub permit_goes_on : (rows : List Record) (u x p : List ℕ) (r : Record) (n : ℕ) → 0 < n → record_at rows x ≡ Some r → permits rows u x ≡ false → r.parent ≡ Some p
    → list_any (permits rows u) (upward n (links_of rows) x) ≡ list_any (permits rows u) (upward (n - 1) (links_of rows) p)
permit_goes_on rows u x p r n some is e at = any_goes_on (permits rows u) (links_of rows) n x p some e (parent_of-record rows x ∙ ap (option_and_then (λ (t : Record). t.parent)) is ∙ at)

pub permit_last : (rows : List Record) (u x : List ℕ) (n : ℕ) → n ≡ 0 → list_any (permits rows u) (upward n (links_of rows) x) ≡ permits rows u x
permit_last rows u x n none = any_last (permits rows u) (links_of rows) n x none
