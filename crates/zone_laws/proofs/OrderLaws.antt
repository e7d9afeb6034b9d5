-- Records stay in ascending order of names.
use Rattle.std.proofs.Common.{◌≡◌, ℕ, List, [], ◌∷◌, ◌++◌, Bool, true, false, cond, ◌||◌, not, refl}
use Rattle.std.specs.Prelude.{filter, fold}
use Rattle.std.specs.List.{list_all}
use Rattle.std.proofs.lemmas.Bool.{and_parts, and_from}
use Rattle.ck_base.specs.Order.{is_before}
use Rattle.ck_base.specs.declared.key.ZoneKey.{ZoneKey}
use Rattle.ck_base.specs.declared.scope.Scope.{Scope}
use Rattle.ck_base.specs.declared.scope.Scope.TheVariants.{Private, Shared}
use Rattle.record_model.specs.declared.records.Record.{Record}
use Rattle.record_model.specs.declared.view.View.{View}
use Rattle.zone_model.specs.declared.commits.Write.{Write}
use Rattle.zone_model.specs.declared.commits.Write.TheVariants.{Put, Remove, PutRemove}
use Rattle.zone_model.specs.declared.commits.Act.{Act}
use Rattle.zone_model.specs.declared.commits.Act.TheVariants.{Writes, MakeZone, DropZone, SetSubscription, DropSubscription}
use Rattle.zone_model.specs.declared.commits.Commit.{Commit}
use Rattle.zone_model.specs.Names.{same, is_default}
use Rattle.zone_model.specs.Records.{names_in, IsAscending, with_record}
use Rattle.zone_model.specs.Zones.{Zone, first_zone, commits_at, after_write, after_act, zone_at}
use Rattle.zone_model.specs.Views.{nowhere, is_visible, owner_view, participant_view, view_of_zone}
use Rattle.zone_laws.specs.Laws.{StaysInOrder}
use Rattle.name_rules.proofs.NameLemmas.{before-trans}

-- ---- some of the records

all_step : (b : Bool) (p : List ℕ → Bool) (r : Record) (qs : List Record) → p r.name ≡ true → list_all p (names_in qs) ≡ true → list_all p (names_in (cond b (r ∷ qs) qs)) ≡ true
all_step true p r qs one all = and_from (p r.name) _ one all
all_step false p r qs one all = all

all_some : (p : List ℕ → Bool) (test : Record → Bool) (rows : List Record) → list_all p (names_in rows) ≡ true → list_all p (names_in (filter test rows)) ≡ true
all_some p test [] all = refl
all_some p test (r ∷ rows) all = let parts = and_parts (p r.name) _ all in all_step (test r) p r (filter test rows) parts.0 (all_some p test rows parts.1)

ascending_step : (b : Bool) (r : Record) (qs : List Record) → list_all (is_before r.name) (names_in qs) ≡ true → IsAscending qs → IsAscending (cond b (r ∷ qs) qs)
ascending_step true r qs first rest = and_from (list_all (is_before r.name) (names_in qs)) _ first rest
ascending_step false r qs first rest = rest

-- some of the records ascend as all of them do
pub ascending-some : (test : Record → Bool) (rows : List Record) → IsAscending rows → IsAscending (filter test rows)
ascending-some test [] ascend = refl
ascending-some test (r ∷ rows) ascend =
    let parts = and_parts (list_all (is_before r.name) (names_in rows)) _ ascend in
    ascending_step (test r) r (filter test rows) (all_some (is_before r.name) test rows parts.0) (ascending-some test rows parts.1)

passed_step : (b : Bool) (p : List ℕ → Bool) (r : Record) (qs : List Record) → p r.name ≡ b → list_all p (names_in qs) ≡ true → list_all p (names_in (cond b (r ∷ qs) qs)) ≡ true
passed_step true p r qs is all = and_from (p r.name) _ is all
passed_step false p r qs is all = all

-- those that a test of names keeps pass it
all_passed : (p : List ℕ → Bool) (rows : List Record) → list_all p (names_in (filter (λ (q : Record). p q.name) rows)) ≡ true
all_passed p [] = refl
all_passed p (r ∷ rows) = passed_step (p r.name) p r (filter (λ (q : Record). p q.name) rows) refl (all_passed p rows)

-- ---- a record between others

all_join : (p : List ℕ → Bool) (front : List Record) (r : Record) (back : List Record) → list_all p (names_in front) ≡ true → p r.name ≡ true → list_all p (names_in back) ≡ true
    → list_all p (names_in (front ++ r ∷ back)) ≡ true
all_join p [] r back all one more = and_from (p r.name) _ one more
all_join p (q ∷ front) r back all one more = let parts = and_parts (p q.name) _ all in and_from (p q.name) _ parts.0 (all_join p front r back parts.1 one more)

all_after : (x y : List ℕ) (names : List (List ℕ)) → is_before x y ≡ true → list_all (is_before y) names ≡ true → list_all (is_before x) names ≡ true
all_after x y [] e all = refl
all_after x y (z ∷ names) e all = let parts = and_parts (is_before y z) _ all in and_from (is_before x z) _ (before-trans x y z e parts.0) (all_after x y names e parts.1)

ascending_join : (front : List Record) (r : Record) (back : List Record) → IsAscending front → list_all (λ x. is_before x r.name) (names_in front) ≡ true
    → IsAscending back → list_all (is_before r.name) (names_in back) ≡ true → IsAscending (front ++ r ∷ back)
ascending_join [] r back up low ascend all = and_from (list_all (is_before r.name) (names_in back)) _ all ascend
ascending_join (q ∷ front) r back up low ascend all =
    let ups = and_parts (list_all (is_before q.name) (names_in front)) _ up in
    let lows = and_parts (is_before q.name r.name) _ low in
    and_from (list_all (is_before q.name) (names_in (front ++ r ∷ back))) _
    (all_join (is_before q.name) front r back ups.0 lows.0 (all_after q.name r.name (names_in back) lows.0 all))
    (ascending_join front r back ups.1 lows.1 ascend all)

pub ascending-with : (rows : List Record) (r : Record) → IsAscending rows → IsAscending (with_record rows r)
ascending-with rows r ascend = ascending_join (filter (λ (q : Record). is_before q.name r.name) rows) r (filter (λ (q : Record). is_before r.name q.name) rows)
    (ascending-some (λ (q : Record). is_before q.name r.name) rows ascend) (all_passed (λ x. is_before x r.name) rows)
    (ascending-some (λ (q : Record). is_before r.name q.name) rows ascend) (all_passed (is_before r.name) rows)

-- ---- zones

after_one : (rows : List Record) (w : Write) → IsAscending rows → IsAscending (after_write rows w)
after_one rows (Put r) ascend = ascending-with rows r ascend
after_one rows (Remove x) ascend = ascending-some (λ (q : Record). not (same x q.name)) rows ascend
after_one rows (PutRemove x) ascend = ascending-some (λ (q : Record). not (same x q.name)) rows ascend

after_all : (ws : List Write) (rows : List Record) → IsAscending rows → IsAscending (fold after_write rows ws)
after_all [] rows ascend = ascend
after_all (w ∷ ws) rows ascend = after_all ws (after_write rows w) (after_one rows w ascend)

pub ascending-act : (z : Zone) (a : Act) → IsAscending z.rows → IsAscending (after_act z a).rows
ascending-act z (Writes ws) ascend = after_all ws z.rows ascend
ascending-act z MakeZone ascend = ascend
ascending-act z DropZone ascend = refl
ascending-act z (SetSubscription s) ascend = ascend
ascending-act z (DropSubscription scope id) ascend = ascend

after_commits : (cs : List Commit) (z : Zone) → IsAscending z.rows → IsAscending (fold (λ z (c : Commit). after_act z c.act) z cs).rows
after_commits [] z ascend = ascend
after_commits (c ∷ cs) z ascend = after_commits cs (after_act z c.act) (ascending-act z c.act ascend)

pub ascending-zone : (log : List Commit) (key : ZoneKey) → IsAscending (zone_at log key).rows
ascending-zone log key = after_commits (commits_at log key) (first_zone key) refl

-- ---- views

either_view : (b : Bool) (v w : View) → IsAscending v.rows → IsAscending w.rows → IsAscending (cond b v w).rows
either_view true v w left right = left
either_view false v w left right = right

of_owner : (z : Zone) → IsAscending z.rows → IsAscending (owner_view z).rows
of_owner z ascend = either_view z.there (record { here = true; rows = z.rows }) nowhere ascend refl

of_scope : (z : Zone) (u : List ℕ) (scope : Scope) (key : ZoneKey) → IsAscending z.rows → IsAscending (view_of_zone z u scope key).rows
of_scope z u Private key ascend = either_view (same u key.owner) (owner_view z) nowhere (of_owner z ascend) refl
of_scope z u Shared key ascend = either_view (same u key.owner || is_default key) nowhere (participant_view z u) refl (ascending-some (is_visible z.rows u) z.rows ascend)

pub stays_in_order : StaysInOrder
stays_in_order = record {
  zone = ascending-zone;
  view = λ log u scope key. of_scope (zone_at log key) u scope key (ascending-zone log key);
}
