-- A refusal shows a record where it is a conflict, and only there.
use Rattle.std.proofs.Common.{◌≡◌, ◌∙◌, ℕ, suc, length, List, [], ◌∷◌, Bool, true, false, not, ◌||◌, refl, sym, ap, subst, Option, Some, None, map, inl, inr, ⊎_elim}
use Rattle.std.specs.Prelude.{zip, is_some, if◌then◌else◌, unwrap_or, option_and_then}
use Rattle.std.specs.Option.{option_map_or}
use Rattle.std.specs.List.{AllByRecursion}
use Rattle.std.proofs.lemmas.Bool.{both_ways, and_parts, or_cases}
use Rattle.std.proofs.lemmas.List.{length-map}
use Rattle.record_model.specs.declared.records.Record.{Record}
use Rattle.zone_model.specs.declared.outcomes.OpFault.{OpFault}
use Rattle.zone_model.specs.declared.outcomes.OpFault.TheVariants.{Exists, NotFound, Conflict, BadRequest, AccessDenied, Validating, Atomic}
use Rattle.zone_model.specs.declared.outcomes.Outcome.{Outcome}
use Rattle.zone_model.specs.declared.outcomes.Outcome.TheVariants.{Put, Deleted, Refused}
use Rattle.name_rules.specs.Options.{is_some_and, or_else}
use Rattle.zone_model.specs.Records.{record_at, is_there}
use Rattle.zone_model.specs.Requests.{NamedOp, is_deletion, is_forced, begins_share, makes_new, has_share_type, root_given, root_tag_given}
use Rattle.zone_model.specs.Grounds.{Grounds, grounds_of, is_stale, first_fault}
use Rattle.zone_model.specs.PutChecks.{old, begins, root_seen, fault_of_put}
use Rattle.zone_model.specs.DeletionChecks.{fault_of_deletion}
use Rattle.zone_model.specs.Judging.{faults_of, has_fault, together}
use Rattle.zone_laws.proofs.JudgedLaws.{faults_from, faults_told}
use Rattle.zone_model.specs.Effect.{Request, working, stamped}
use Rattle.zone_model.specs.Modifying.{done, outcome_of}
use Rattle.zone_laws.specs.Laws.{ConflictsShowRecords, EachIsJudged, IsShown, ShowsConflict}
use Rattle.zone_laws.proofs.JudgeLaws.{there-found}

-- ---- only there

abbrev fault_in : Outcome → OpFault
fault_in (Put r) = Atomic
fault_in (Deleted x) = Atomic
fault_in (Refused fault server) = fault

abbrev server_in : Outcome → Option Record
server_in (Put r) = None
server_in (Deleted x) = None
server_in (Refused fault server) = server

none_shown : {r : Record} → ◌≡◌ {A = Option Record} None (Some r) → ⊥
none_shown {r} e = both_ways (is_some (Some r)) (ap is_some (sym e)) refl

done_shows_none : (q : Request) (op : NamedOp) → server_in (done q op) ≡ None
done_shows_none q op = by_kind (is_deletion op.kind) (record_at (working q) op.name)
  where
    by_kind : (b : Bool) (found : Option Record) → server_in (option_map_or (λ r. Put (stamped q r)) (if b then None else found) (Deleted op.name)) ≡ None
    by_kind true found = refl
    by_kind false None = refl
    by_kind false (Some r) = refl

only : (q : Request) (op : NamedOp) (judged : Option OpFault) (fault : OpFault) (r : Record) → outcome_of q (op, judged) ≡ Refused fault (Some r) → fault ≡ Conflict
only q op None fault r e = absurd (none_shown (sym (done_shows_none q op) ∙ ap server_in e))
only q op (Some Exists) fault r e = absurd (none_shown (ap server_in e))
only q op (Some NotFound) fault r e = absurd (none_shown (ap server_in e))
only q op (Some Conflict) fault r e = sym (ap fault_in e)
only q op (Some BadRequest) fault r e = absurd (none_shown (ap server_in e))
only q op (Some AccessDenied) fault r e = absurd (none_shown (ap server_in e))
only q op (Some Validating) fault r e = absurd (none_shown (ap server_in e))
only q op (Some Atomic) fault r e = absurd (none_shown (ap server_in e))

-- ---- and there

abbrev is_conflict : Option OpFault → Bool
is_conflict None = false
is_conflict (Some Exists) = false
is_conflict (Some NotFound) = false
is_conflict (Some Conflict) = true
is_conflict (Some BadRequest) = false
is_conflict (Some AccessDenied) = false
is_conflict (Some Validating) = false
is_conflict (Some Atomic) = false

other : {o : Option OpFault} → is_conflict o ≡ false → o ≡ Some Conflict → ⊥
other {o} none e = both_ways (is_conflict o) none (ap is_conflict e)

third_passes : (a b c d e f : Bool) → first_fault ((a, Exists) ∷ (b, NotFound) ∷ (c, Conflict) ∷ (d, BadRequest) ∷ (e, AccessDenied) ∷ (f, Validating) ∷ []) ≡ Some Conflict → c ≡ true
third_passes true b c d e f h = absurd (other refl h)
third_passes false true c d e f h = absurd (other refl h)
third_passes false false true d e f h = refl
third_passes false false false true e f h = absurd (other refl h)
third_passes false false false false true f h = absurd (other refl h)
third_passes false false false false false true h = absurd (other refl h)
third_passes false false false false false false h = absurd (other refl h)

second_passes : (a b c d : Bool) → first_fault ((a, NotFound) ∷ (b, Conflict) ∷ (c, AccessDenied) ∷ (d, Validating) ∷ []) ≡ Some Conflict → b ≡ true
second_passes true b c d h = absurd (other refl h)
second_passes false true c d h = refl
second_passes false false true d h = absurd (other refl h)
second_passes false false false true h = absurd (other refl h)
second_passes false false false false h = absurd (other refl h)

not_true : (b : Bool) → not b ≡ true → b ≡ false
not_true true e = absurd (both_ways false refl e)
not_true false e = refl

-- where a record is there whose tag is another one
stale_found : (tag : Option (List ℕ)) (o : Option Record) → is_some_and (is_stale tag) o ≡ true → (r : Record) × (o ≡ Some r) × (is_stale tag r ≡ true)
stale_found tag None e = absurd (both_ways false refl e)
stale_found tag (Some r) e = (r, refl, e)

-- a root that is looked at belongs to a share that the put begins
begins_then : (b : Bool) (find : List ℕ → Option Record) (root : Option (List ℕ)) (test : Record → Bool) → is_some_and test (option_and_then find (if b then root else None)) ≡ true → b ≡ true
begins_then true find root test e = refl
begins_then false find root test e = absurd (both_ways false refl e)

by_begun : (b : Bool) (find : List ℕ → Option Record) (root : Option (List ℕ)) → b ≡ true → option_and_then find (if b then root else None) ≡ option_and_then find root
by_begun true find root e = refl
by_begun false find root e = absurd (both_ways false refl e)

module _ (q : Request) (op : NamedOp) where
  abbrev own : Option Record
  own = record_at q.seen op.name

  abbrev root : Option Record
  root = option_and_then (record_at q.seen) (root_given op.draft)

  -- what is told of a conflict over the record of the name, and over the root
  told_own : (judged : Option OpFault) → judged ≡ Some Conflict → is_forced op.kind ≡ false → (r : Record) → own ≡ Some r → is_stale op.draft.tag r ≡ true → IsShown q (op, judged)
  told_own judged e free r found stale = (r, ap (λ j. outcome_of q (op, j)) e ∙ ap (λ o. Refused Conflict (or_else o root)) found, (free, inl (found, stale)))

  told_root : (judged : Option OpFault) → judged ≡ Some Conflict → is_forced op.kind ≡ false → (r : Record) → own ≡ None → begins_share q.seen op ≡ true → root ≡ Some r
      → is_stale (root_tag_given op.draft) r ≡ true → IsShown q (op, judged)
  told_root judged e free r none begun found stale = (r, ap (λ j. outcome_of q (op, j)) e ∙ (ap (λ o. Refused Conflict (or_else o root)) none ∙ ap (λ o. Refused Conflict o) found), (free, inr (none, begun, found, stale)))

  module _ (g : Grounds) (same : q.seen ≡ g.seen) where
    abbrev its_own : Option Record
    its_own = record_at g.seen op.name

    own_is : its_own ≡ own
    own_is = ap (λ rows. record_at rows op.name) (sym same)

    deletion_shows : ShowsConflict q (op, fault_of_deletion g op)
    deletion_shows e =
        let stale = and_parts (not (is_forced op.kind)) (is_some_and (is_stale op.draft.tag) its_own) (second_passes _ _ _ _ e) in
        let found = stale_found op.draft.tag its_own stale.1 in
        told_own (fault_of_deletion g op) e (not_true (is_forced op.kind) stale.0) found.0 (sym own_is ∙ found.1) found.2

    module _ (earlier : List (List ℕ)) where
      abbrev put : NamedOp
      put = op

      abbrev own_stale : Bool
      own_stale = is_some_and (is_stale op.draft.tag) (old g put)

      abbrev root_stale : Bool
      root_stale = is_some_and (is_stale (root_tag_given op.draft)) (root_seen g put)

      -- a share is begun only where no record has its name
      begun_is_new : begins g put ≡ true → is_some its_own ≡ false
      begun_is_new begun =
          let parts = and_parts (makes_new op.kind) _ begun in
          let unseen = and_parts (not (is_there g.seen op.name)) (has_share_type op.draft) parts.1 in
          sym (there-found g.seen op.name) ∙ not_true (is_there g.seen op.name) unseen.0

      own_shows : fault_of_put g put earlier ≡ Some Conflict → is_forced op.kind ≡ false → own_stale ≡ true → IsShown q (op, fault_of_put g put earlier)
      own_shows e free stale =
          let found = stale_found op.draft.tag its_own stale in
          told_own (fault_of_put g put earlier) e free found.0 (sym own_is ∙ found.1) found.2

      root_shows : fault_of_put g put earlier ≡ Some Conflict → is_forced op.kind ≡ false → root_stale ≡ true → IsShown q (op, fault_of_put g put earlier)
      root_shows e free stale =
          let begun = begins_then (begins g put) (record_at g.seen) (root_given op.draft) (is_stale (root_tag_given op.draft)) stale in
          let found = stale_found (root_tag_given op.draft) (root_seen g put) stale in
          let there = sym (by_begun (begins g put) (record_at g.seen) (root_given op.draft) begun) ∙ found.1 in
          told_root (fault_of_put g put earlier) e free found.0 (sym own_is ∙ none_is its_own (begun_is_new begun)) (ap (λ rows. begins_share rows put) same ∙ begun) (ap (λ rows. option_and_then (record_at rows) (root_given op.draft)) same ∙ there) found.2
        where
          none_is : (o : Option Record) → is_some o ≡ false → o ≡ None
          none_is None e = refl
          none_is (Some r) e = absurd (both_ways true e refl)

      put_shows : ShowsConflict q (op, fault_of_put g put earlier)
      put_shows e =
          let stale = and_parts (not (is_forced op.kind)) (own_stale || root_stale) (third_passes _ _ _ _ _ _ e) in
          let free = not_true (is_forced op.kind) stale.0 in
          ⊎_elim (own_shows e free) (root_shows e free) (or_cases own_stale root_stale stale.1)

-- so it is with all operations
module _ (q : Request) (g : Grounds) (same : q.seen ≡ g.seen) where
  faults_show : (earlier : List (List ℕ)) (ops : List NamedOp) → AllByRecursion (ShowsConflict q) (zip ops (faults_from g earlier ops))
  faults_show earlier [] = tt
  faults_show earlier (op ∷ ops) = by_kind (faults_show earlier ops) (faults_show (op.name ∷ earlier) ops) (is_deletion op.kind)
    where
      by_kind : AllByRecursion (ShowsConflict q) (zip ops (faults_from g earlier ops)) → AllByRecursion (ShowsConflict q) (zip ops (faults_from g (op.name ∷ earlier) ops)) → (b : Bool) → AllByRecursion (ShowsConflict q) (zip (op ∷ ops)
          (if b then fault_of_deletion g op ∷ faults_from g earlier ops else fault_of_put g op earlier ∷ faults_from g (op.name ∷ earlier) ops))
      by_kind behind past true = (deletion_shows q op g same, behind)
      by_kind behind past false = (put_shows q op g same earlier, past)

all_refused_show : (q : Request) (ops : List NamedOp) (faults : List (Option OpFault)) → AllByRecursion (ShowsConflict q) (zip ops faults) → AllByRecursion (ShowsConflict q) (zip ops (map (λ o. Some (unwrap_or o Atomic)) faults))
all_refused_show q [] faults all = tt
all_refused_show q (op ∷ ops) [] all = tt
all_refused_show q (op ∷ ops) (None ∷ faults) all = (λ e. absurd (other refl e), all_refused_show q ops faults all.1)
all_refused_show q (op ∷ ops) (Some fault ∷ faults) all = (all.0, all_refused_show q ops faults all.1)

together_show : (q : Request) (ops : List NamedOp) (faults : List (Option OpFault)) → AllByRecursion (ShowsConflict q) (zip ops faults) → AllByRecursion (ShowsConflict q) (zip ops (together faults))
together_show q ops faults all = by_fault (has_fault faults)
  where
    by_fault : (b : Bool) → AllByRecursion (ShowsConflict q) (zip ops (if b then map (λ o. Some (unwrap_or o Atomic)) faults else faults))
    by_fault true = all_refused_show q ops faults all
    by_fault false = all

pub conflicts_shown : ConflictsShowRecords
conflicts_shown = record {
  only = only;
  each = λ q view pasts ops caller same. (let g = grounds_of caller pasts view.rows ops in
      together_show q ops (faults_of g ops) (subst (λ fs. AllByRecursion (ShowsConflict q) (zip ops fs)) (sym (faults_told g ops)) (faults_show q g same [] ops)));
}

-- ---- each operation is judged

faults_are_all : (g : Grounds) (earlier : List (List ℕ)) (ops : List NamedOp) → length (faults_from g earlier ops) ≡ length ops
faults_are_all g earlier [] = refl
faults_are_all g earlier (op ∷ ops) = by_kind (faults_are_all g earlier ops) (faults_are_all g (op.name ∷ earlier) ops) (is_deletion op.kind)
  where
    by_kind : length (faults_from g earlier ops) ≡ length ops → length (faults_from g (op.name ∷ earlier) ops) ≡ length ops → (b : Bool)
        → length (if b then fault_of_deletion g op ∷ faults_from g earlier ops else fault_of_put g op earlier ∷ faults_from g (op.name ∷ earlier) ops) ≡ suc (length ops)
    by_kind behind past true = ap suc behind
    by_kind behind past false = ap suc past

together_are_all : (faults : List (Option OpFault)) → length (together faults) ≡ length faults
together_are_all faults = by_fault (has_fault faults)
  where
    by_fault : (b : Bool) → length (if b then map (λ o. Some (unwrap_or o Atomic)) faults else faults) ≡ length faults
    by_fault true = length-map faults (λ o. Some (unwrap_or o Atomic))
    by_fault false = refl

pub all_judged : EachIsJudged
all_judged view pasts ops caller = (let g = grounds_of caller pasts view.rows ops in
    together_are_all (faults_of g ops) ∙ ap length (faults_told g ops) ∙ faults_are_all g [] ops)
