-- Zones after lawful commits, and what users see of them.
use Rattle.std.proofs.Common.{◌≡◌, ℕ, List, [], ◌∷◌, ◌++◌, Bool, true, false, cond, ◌&&◌, ◌||◌, refl, sym, ap, ◌∙◌, subst, Some, None, Option, append_assoc, append-nil}
use Rattle.std.specs.Prelude.{filter, is_some, if◌then◌else◌, option_and_then}
use Rattle.std.specs.List.{list_all}
use Rattle.std.proofs.lemmas.Bool.{both_ways, and_parts, and_from, or_left}
use Rattle.std.proofs.lemmas.Option.{same_Some}
use Rattle.ck_base.specs.Order.{is_before}
use Rattle.ck_base.specs.declared.key.ZoneKey.{ZoneKey}
use Rattle.ck_base.specs.declared.scope.Scope.{Scope}
use Rattle.ck_base.specs.declared.scope.Scope.TheVariants.{Private, Shared}
use Rattle.share_records.specs.declared.permission.Permission.TheVariants.{ReadOnly}
use Rattle.share_records.specs.declared.share.Share.{Share as ShareOf}
use Rattle.record_model.specs.declared.records.Record.{Record}
use Rattle.record_model.specs.declared.view.View.{View}
use Rattle.zone_model.specs.declared.commits.Act.{Act}
use Rattle.zone_model.specs.declared.commits.Act.TheVariants.{Writes, MakeZone, DropZone, SetSubscription, DropSubscription}
use Rattle.zone_model.specs.declared.commits.Commit.{Commit}
use Rattle.zone_model.specs.Names.{same, same_key, is_default}
use Rattle.name_rules.specs.Options.{is_some_and}
use Rattle.zone_model.specs.Records.{record_at, names_in, is_share, share_of, IsAscending}
use Rattle.zone_model.specs.Zones.{Zone, zone_at, after_act, puts_at}
use Rattle.zone_model.specs.Subscriptions.{subscriptions_at}
use Rattle.zone_model.specs.Ancestry.{is_ancestor, parent_at}
use Rattle.name_rules.specs.Parents.{up}
use Rattle.zone_model.specs.Coverage.{covers}
use Rattle.share_records.specs.Permissions.{gives, has_accepted}
use Rattle.zone_model.specs.Views.{nowhere, is_visible, owner_view, participant_view, view_of_zone, view_of}
use Rattle.zone_laws.specs.LawfulTests.{are_well_formed, is_lawful_act, is_lawful, are_lawful}
use Rattle.name_rules.proofs.NameLemmas.{same-true, any-weaker}
use Rattle.zone_laws.proofs.OrderLaws.{ascending-zone}
use Rattle.zone_laws.proofs.AncestryLaws.{is_ancestor_from, is_ancestor_gives, parent_of-record, record_reaches, gives_at-records}
use Rattle.zone_laws.proofs.LogLaws.{zone-snoc}
use Rattle.zone_laws.proofs.EntryLaws.{Grown, empty, one_more, grown}
use Rattle.zone_laws.proofs.RecordLaws.{found-name, found-below, none-some}

-- ---- lawful logs

pub lawful-parts : (before log : List Commit) (c : Commit) → are_lawful before (log ++ c ∷ []) ≡ true → (are_lawful before log ≡ true) × (is_lawful (before ++ log) c ≡ true)
lawful-parts before [] c all = (refl, subst (λ l. is_lawful l c ≡ true) (sym (append-nil before)) (and_parts (is_lawful before c) true all).0)
lawful-parts before (d ∷ log) c all =
    let parts = and_parts (is_lawful before d) _ all in
    let rest = lawful-parts (before ++ d ∷ []) log c parts.1 in
    (and_from (is_lawful before d) _ parts.0 rest.0, subst (λ l. is_lawful l c ≡ true) (append_assoc before (d ∷ []) log) rest.1)

pub key-true : (k l : ZoneKey) → same_key k l ≡ true → k ≡ l
key-true k l e =
    let parts = and_parts (same k.owner l.owner) _ e in
    let owner = same-true k.owner l.owner parts.0 in
    let zone = same-true k.zone l.zone parts.1 in
    λ i. record { owner = owner i; zone = zone i }

formed_act : (log : List Commit) (c : Commit) (a : Act) → is_lawful_act (zone_at log c.key) (puts_at log c.key) (subscriptions_at log c.key) c.key a ≡ true
    → are_well_formed (zone_at log c.key).rows ≡ true → are_well_formed (after_act (zone_at log c.key) a).rows ≡ true
formed_act log c (Writes ws) lawful formed = (and_parts _ (are_well_formed (after_act (zone_at log c.key) (Writes ws)).rows) (and_parts (zone_at log c.key).there _ lawful).1).1
formed_act log c MakeZone lawful formed = formed
formed_act log c DropZone lawful formed = refl
formed_act log c (SetSubscription s) lawful formed = formed
formed_act log c (DropSubscription scope id) lawful formed = formed

formed_step : (b : Bool) (log : List Commit) (c : Commit) (key : ZoneKey) → same_key key c.key ≡ b → is_lawful log c ≡ true → ((k : ZoneKey) → are_well_formed (zone_at log k).rows ≡ true)
    → are_well_formed (if b then after_act (zone_at log key) c.act else zone_at log key).rows ≡ true
formed_step true log c key is lawful formed = subst (λ k. are_well_formed (after_act (zone_at log k) c.act).rows ≡ true) (sym (key-true key c.key is)) (formed_act log c c.act lawful (formed c.key))
formed_step false log c key is lawful formed = formed key

formed_grown : (log : List Commit) → Grown log → are_lawful [] log ≡ true → (key : ZoneKey) → are_well_formed (zone_at log key).rows ≡ true
formed_grown _ empty lawful key = refl
formed_grown _ (one_more log c before) lawful key =
    let parts = lawful-parts [] log c lawful in
    subst (λ (z : Zone). are_well_formed z.rows ≡ true) (sym (zone-snoc log c key)) (formed_step (same_key key c.key) log c key refl parts.1 (formed_grown log before parts.0))

-- after lawful commits the records of each zone fit together
pub well-formed : (log : List Commit) (key : ZoneKey) → are_lawful [] log ≡ true → are_well_formed (zone_at log key).rows ≡ true
well-formed log key lawful = formed_grown log (grown log) lawful key

-- ---- some of the records

some_step : (b s : Bool) (test : Record → Bool) (q r : Record) (some rows : List Record) (x : List ℕ) → test q ≡ b → same x q.name ≡ s → record_at rows q.name ≡ None
    → (record_at some x ≡ Some r → (record_at rows x ≡ Some r) × (test r ≡ true))
    → record_at (cond b (q ∷ some) some) x ≡ Some r → (cond s (Some q) (record_at rows x) ≡ Some r) × (test r ≡ true)
some_step true true test q r some rows x tq is none ih e =
    let one : q ≡ r = same_Some q r (ap (λ b. cond b (Some q) (record_at some x)) (sym is) ∙ e) in
    (ap Some one, subst (λ (t : Record). test t ≡ true) one tq)
some_step true false test q r some rows x tq is none ih e = ih (ap (λ b. cond b (Some q) (record_at some x)) (sym is) ∙ e)
some_step false true test q r some rows x tq is none ih e = absurd (none-some (record_at rows x) r (subst (λ y. record_at rows y ≡ None) (sym (same-true x q.name is)) none) (ih e).0)
some_step false false test q r some rows x tq is none ih e = ih e

-- a record that is found among some of them is found among all, and is one of those
pub found-some : (test : Record → Bool) (rows : List Record) (x : List ℕ) (r : Record) → IsAscending rows → record_at (filter test rows) x ≡ Some r → (record_at rows x ≡ Some r) × (test r ≡ true)
found-some test [] x r ascend e = absurd (none-some None r refl e)
found-some test (q ∷ rows) x r ascend e =
    let parts = and_parts (list_all (is_before q.name) (names_in rows)) _ ascend in
    some_step (test q) (same x q.name) test q r (filter test rows) rows x refl refl (found-below q.name rows parts.0) (found-some test rows x r parts.1) e

among_step : (b s : Bool) (test : Record → Bool) (q r : Record) (some : List Record) (x : List ℕ) (o : Option Record) → test q ≡ b → same x q.name ≡ s → test r ≡ true
    → (o ≡ Some r → record_at some x ≡ Some r) → cond s (Some q) o ≡ Some r → record_at (cond b (q ∷ some) some) x ≡ Some r
among_step true true test q r some x o tq is tr ih e = ap (λ b. cond b (Some q) (record_at some x)) is ∙ e
among_step true false test q r some x o tq is tr ih e = ap (λ b. cond b (Some q) (record_at some x)) is ∙ ih e
among_step false true test q r some x o tq is tr ih e = absurd (both_ways (test q) tq (subst (λ (t : Record). test t ≡ true) (sym (same_Some q r e)) tr))
among_step false false test q r some x o tq is tr ih e = ih e

-- and one of those is found among them
pub found-among : (test : Record → Bool) (rows : List Record) (x : List ℕ) (r : Record) → record_at rows x ≡ Some r → test r ≡ true → record_at (filter test rows) x ≡ Some r
found-among test [] x r e tr = absurd (none-some None r refl e)
found-among test (q ∷ rows) x r e tr = among_step (test q) (same x q.name) test q r (filter test rows) x (record_at rows x) refl refl tr (λ f. found-among test rows x r f tr) e

-- ---- what is seen

-- The records of a view are the zone's. Whoever sees a record that is no share sees all right below it.
pub record IsPart (seen rows : List Record) : Type 0 where
  pub part : (x : List ℕ) (r : Record) → record_at seen x ≡ Some r → record_at rows x ≡ Some r
  pub below : (x p : List ℕ) (r t : Record) → record_at rows x ≡ Some r → r.parent ≡ Some p → record_at seen p ≡ Some t → is_share t ≡ false → record_at seen x ≡ Some r

all_seen : (rows : List Record) → IsPart rows rows
all_seen rows = record { part = λ x r e. e; below = λ x p r t is parent seen plain. is }

none_seen : (rows : List Record) → IsPart [] rows
none_seen rows = record { part = λ x r e. absurd (none-some None r refl e); below = λ x p r t is parent seen plain. absurd (none-some None t refl seen) }

reaches_step : (rows : List Record) (u x p : List ℕ) (r : Record) (o : Option ShareOf) → record_at rows x ≡ Some r → r.parent ≡ Some p
    → is_some_and (λ (s : ShareOf). is_ancestor rows s.root p && gives ReadOnly u s) o ≡ true → is_some_and (λ (s : ShareOf). is_ancestor rows s.root x && gives ReadOnly u s) o ≡ true
reaches_step rows u x p r None is parent e = e
reaches_step rows u x p r (Some s) is parent e =
    let parts = and_parts (is_ancestor rows s.root p) _ e in
    let at : parent_at rows x ≡ Some p = parent_of-record rows x ∙ ap (option_and_then (λ (t : Record). t.parent)) is ∙ parent in
    and_from (is_ancestor rows s.root x) _ (is_ancestor_from rows s.root x (up x p at (is_ancestor_gives rows s.root p parts.0))) parts.1

-- what covers a record covers those right below it
covers_below : (rows : List Record) (u x p : List ℕ) (r : Record) → record_at rows x ≡ Some r → r.parent ≡ Some p → covers rows u p ≡ true → covers rows u x ≡ true
covers_below rows u x p r is parent e = gives_at-records rows ReadOnly u x
    ∙ any-weaker (record_reaches rows ReadOnly u p) (record_reaches rows ReadOnly u x) (λ s. reaches_step rows u x p r (share_of s) is parent) rows (sym (gives_at-records rows ReadOnly u p) ∙ e)

plain_step : (u : List ℕ) (b : Bool) (o : Option ShareOf) → is_some o ≡ false → (b || is_some_and (has_accepted u) o) ≡ true → b ≡ true
plain_step u true o plain e = refl
plain_step u false None plain e = e
plain_step u false (Some s) plain e = absurd (both_ways true plain refl)

part_of_participant : (rows : List Record) (u : List ℕ) → IsAscending rows → IsPart (filter (is_visible rows u) rows) rows
part_of_participant rows u ascend = record {
  part = λ x r e. (found-some (is_visible rows u) rows x r ascend e).0;
  below = λ x p r t is parent seen plain.
      let found = found-some (is_visible rows u) rows p t ascend seen in
      let covered : covers rows u t.name ≡ true = plain_step u (covers rows u t.name) (share_of t) plain found.1 in
      let above : covers rows u p ≡ true = subst (λ y. covers rows u y ≡ true) (sym (same-true p t.name (found-name rows p t found.0))) covered in
      let covers_x : covers rows u x ≡ true = covers_below rows u x p r is parent above in
      let named : covers rows u r.name ≡ true = subst (λ y. covers rows u y ≡ true) (same-true x r.name (found-name rows x r is)) covers_x in
      found-among (is_visible rows u) rows x r is (or_left (covers rows u r.name) (is_some_and (has_accepted u) (share_of r)) named);
}

either_part : (b : Bool) (v w : View) (rows : List Record) → IsPart v.rows rows → IsPart w.rows rows → IsPart (if b then v else w).rows rows
either_part true v w rows left right = left
either_part false v w rows left right = right

part_in : (z : Zone) (u : List ℕ) (scope : Scope) (key : ZoneKey) → IsAscending z.rows → IsPart (view_of_zone z u scope key).rows z.rows
part_in z u Private key ascend = either_part (same u key.owner) (owner_view z) nowhere z.rows
    (either_part z.there (record { here = true; rows = z.rows }) nowhere z.rows (all_seen z.rows) (none_seen z.rows)) (none_seen z.rows)
part_in z u Shared key ascend = either_part (same u key.owner || is_default key) nowhere (participant_view z u) z.rows (none_seen z.rows) (part_of_participant z.rows u ascend)

pub view-part : (log : List Commit) (u : List ℕ) (scope : Scope) (key : ZoneKey) → IsPart (view_of log u scope key).rows (zone_at log key).rows
view-part log u scope key = part_in (zone_at log key) u scope key (ascending-zone log key)
