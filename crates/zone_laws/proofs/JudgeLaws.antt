-- What holds of a request in which no check fails.
use Rattle.std.proofs.Common.{◌≡◌, ℕ, List, [], ◌∷◌, Bool, true, false, cond, not, ◌&&◌, ◌||◌, refl, sym, ap, ◌∙◌, subst, Some, None, Option, map, ⊎_elim}
use Rattle.std.specs.Prelude.{filter, find, is_some, if◌then◌else◌, unwrap_or}
use Rattle.std.specs.Option.{option_map_or}
use Rattle.std.specs.List.{list_any}
use Rattle.std.proofs.lemmas.Bool.{both_ways, or_cases, or_left, or_right, or_parts}
use Rattle.std.proofs.lemmas.Option.{same_Some}
use Rattle.ck_base.specs.declared.key.ZoneKey.{ZoneKey}
use Rattle.record_model.specs.declared.records.Record.{Record}
use Rattle.zone_model.specs.declared.operations.Past.{Past}
use Rattle.zone_model.specs.declared.outcomes.OpFault.{OpFault}
use Rattle.zone_model.specs.declared.outcomes.OpFault.TheVariants.{Exists, NotFound, Conflict, BadRequest, AccessDenied, Validating, Atomic}
use Rattle.zone_model.specs.declared.commits.Commit.{Commit}
use Rattle.zone_model.specs.Names.{same, is_in, distinct}
use Rattle.name_rules.specs.Options.{is_some_and}
use Rattle.zone_model.specs.Records.{record_at, is_there}
use Rattle.zone_model.specs.Zones.{zone_at}
use Rattle.zone_model.specs.Past.{past_of, name_history, is_taken}
use Rattle.zone_model.specs.Requests.{NamedOp, is_deletion, puts_in, names_deleted}
use Rattle.zone_model.specs.Grounds.{Grounds, first_fault}
use Rattle.zone_model.specs.PutChecks.{is_in_view, is_hidden, has_shared_root, is_missing, is_in_conflict, lacks_type, turns_type, turns_parent, lacks_root, is_misplaced_share, is_of_share, has_share_members, has_refused_list, is_too_large, has_bad_form, is_denied, has_bad_parent, has_bad_root, is_dangling, is_name_taken, fault_of_put}
use Rattle.zone_model.specs.DeletionChecks.{holds_back, fault_of_deletion, is_held_back, is_missing as lacks, is_in_conflict as is_in_conflict_with, is_denied as is_denied_deletion}
use Rattle.zone_model.specs.Judging.{faults_of, has_fault, together}
use Rattle.zone_laws.proofs.JudgedLaws.{faults_from, faults_told}
use Rattle.name_rules.proofs.NameLemmas.{same-true}
use Rattle.zone_laws.proofs.WorkingLaws.{put_at}

-- ---- checks one after another

some_none : {f : OpFault} → Some f ≡ None → ⊥
some_none e = both_ways true (ap (λ (p : Option OpFault). option_map_or (λ _. true) p false) e) refl

pub six_pass : (a b c d e f : Bool) → first_fault ((a, Exists) ∷ (b, NotFound) ∷ (c, Conflict) ∷ (d, BadRequest) ∷ (e, AccessDenied) ∷ (f, Validating) ∷ []) ≡ None
    → (a ≡ false) × (b ≡ false) × (c ≡ false) × (d ≡ false) × (e ≡ false) × (f ≡ false)
six_pass true b c d e f h = absurd (some_none h)
six_pass false true c d e f h = absurd (some_none h)
six_pass false false true d e f h = absurd (some_none h)
six_pass false false false true e f h = absurd (some_none h)
six_pass false false false false true f h = absurd (some_none h)
six_pass false false false false false true h = absurd (some_none h)
six_pass false false false false false false h = (refl, refl, refl, refl, refl, refl)

last_passes : (a b c d : Bool) → first_fault ((a, NotFound) ∷ (b, Conflict) ∷ (c, AccessDenied) ∷ (d, Validating) ∷ []) ≡ None → d ≡ false
last_passes true b c d h = absurd (some_none h)
last_passes false true c d h = absurd (some_none h)
last_passes false false true d h = absurd (some_none h)
last_passes false false false true h = absurd (some_none h)
last_passes false false false false h = refl

none_is : (o : Option OpFault) → is_some o ≡ false → o ≡ None
none_is None e = refl
none_is (Some f) e = absurd (both_ways true e refl)

with_fault : (faults : List (Option OpFault)) → has_fault faults ≡ true → has_fault (map (λ o. Some (unwrap_or o Atomic)) faults) ≡ true
with_fault [] e = e
with_fault (o ∷ faults) e = refl

apart_step : (b : Bool) (faults : List (Option OpFault)) → has_fault faults ≡ b → has_fault (if b then map (λ o. Some (unwrap_or o Atomic)) faults else faults) ≡ false → b ≡ false
apart_step true faults is e = absurd (both_ways (has_fault (map (λ o. Some (unwrap_or o Atomic)) faults)) e (with_fault faults is))
apart_step false faults is e = refl

-- where nothing is refused, no check has failed
pub none-refused : (faults : List (Option OpFault)) → has_fault (together faults) ≡ false → has_fault faults ≡ false
none-refused faults e = apart_step (has_fault faults) faults refl e

-- ---- puts

abbrev PassesSomewhere : Grounds → NamedOp → Type 0
PassesSomewhere g p = (earlier : List (List ℕ)) × (fault_of_put g p earlier ≡ None)

put_head : (s : Bool) (g : Grounds) (p q : NamedOp) (earlier : List (List ℕ)) (o : Option NamedOp) → fault_of_put g p earlier ≡ None → (o ≡ Some q → PassesSomewhere g q) → cond s (Some p) o ≡ Some q → PassesSomewhere g q
put_head true g p q earlier o passed more e = (earlier, subst (λ (t : NamedOp). fault_of_put g t earlier ≡ None) (same_Some p q e) passed)
put_head false g p q earlier o passed more e = more e

put_step : (d : Bool) (g : Grounds) (op : NamedOp) (ops : List NamedOp) (earlier : List (List ℕ)) (x : List ℕ) (p : NamedOp)
    → ((some : List (List ℕ)) → has_fault (faults_from g some ops) ≡ false → put_at (puts_in ops) x ≡ Some p → PassesSomewhere g p)
    → has_fault (if d then fault_of_deletion g op ∷ faults_from g earlier ops else fault_of_put g op earlier ∷ faults_from g (op.name ∷ earlier) ops) ≡ false
    → put_at (if not d then op ∷ puts_in ops else puts_in ops) x ≡ Some p → PassesSomewhere g p
put_step true g op ops earlier x p more none at = more earlier (or_parts (is_some (fault_of_deletion g op)) _ none).1 at
put_step false g op ops earlier x p more none at =
    let parts = or_parts (is_some (fault_of_put g op earlier)) _ none in
    put_head (same x op.name) g op p earlier (put_at (puts_in ops) x) (none_is (fault_of_put g op earlier) parts.0) (more (op.name ∷ earlier) parts.1) at

-- each first put of a name has passed its checks
pub put-passes : (g : Grounds) (ops : List NamedOp) (earlier : List (List ℕ)) (x : List ℕ) (p : NamedOp) → has_fault (faults_from g earlier ops) ≡ false → put_at (puts_in ops) x ≡ Some p → PassesSomewhere g p
put-passes g [] earlier x p none at = absurd (both_ways false refl (ap (λ (q : Option NamedOp). option_map_or (λ _. true) q false) at))
put-passes g (op ∷ ops) earlier x p none at = put_step (is_deletion op.kind) g op ops earlier x p (λ some none at. put-passes g ops some x p none at) none at

-- what the checks of a put leave
pub record Passed (g : Grounds) (p : NamedOp) : Type 0 where
  pub unseen : is_in_view g p ≡ false
  pub unhidden : is_hidden g p ≡ false
  pub root_free : has_shared_root g p ≡ false
  pub found : is_missing g p ≡ false
  pub typed : lacks_type g p ≡ false
  pub rooted : lacks_root g p ≡ false
  pub placed : is_misplaced_share g p ≡ false
  pub listed : has_refused_list g p ≡ false
  pub small : is_too_large g p ≡ false
  pub permitted : is_denied g p ≡ false
  pub parent_good : has_bad_parent g p ≡ false
  pub root_good : has_bad_root g p ≡ false

pub passed-from : (g : Grounds) (p : NamedOp) (earlier : List (List ℕ)) → fault_of_put g p earlier ≡ None → Passed g p
passed-from g p earlier e =
    let all = six_pass (is_name_taken g p earlier) (is_missing g p) (is_in_conflict g p) (has_bad_form g p) (is_denied g p) (is_dangling g p) e in
    let a = or_parts (is_in_view g p) _ all.0 in
    let b = or_parts (is_hidden g p) _ a.1 in
    let c = or_parts (is_in earlier p.name) _ b.1 in
    let f1 = or_parts (lacks_type g p) _ all.3 in
    let f2 = or_parts (turns_type g p) _ f1.1 in
    let f3 = or_parts (turns_parent g p) _ f2.1 in
    let f4 = or_parts (lacks_root g p) _ f3.1 in
    let f5 = or_parts (is_misplaced_share g p) _ f4.1 in
    let f6 = or_parts (not (is_of_share g p) && has_share_members g p) _ f5.1 in
    let f7 = or_parts (has_refused_list g p) _ f6.1 in
    let d = or_parts (has_bad_parent g p) _ all.5 in
    let r = or_parts (has_bad_root g p) _ d.1 in
    record {
      unseen = a.0;
      unhidden = b.0;
      root_free = c.1;
      found = all.1;
      typed = f1.0;
      rooted = f4.0;
      placed = f5.0;
      listed = f7.0;
      small = f7.1;
      permitted = all.4;
      parent_good = d.0;
      root_good = r.0;
    }

pub put-passed : (g : Grounds) (ops : List NamedOp) (x : List ℕ) (p : NamedOp) → has_fault (faults_of g ops) ≡ false → put_at (puts_in ops) x ≡ Some p → Passed g p
put-passed g ops x p none at = let one = put-passes g ops [] x p (sym (ap has_fault (faults_told g ops)) ∙ none) at in passed-from g p one.0 one.1

-- ---- deletions

abbrev DeletionPasses : Grounds → List ℕ → Type 0
DeletionPasses g x = (op : NamedOp) × (op.name ≡ x) × (fault_of_deletion g op ≡ None)

abbrev deletions : List NamedOp → List NamedOp
deletions ops = filter (λ (op : NamedOp). is_deletion op.kind) ops

deletion_step : (d : Bool) (g : Grounds) (op : NamedOp) (ops : List NamedOp) (earlier : List (List ℕ)) (x : List ℕ)
    → ((some : List (List ℕ)) → has_fault (faults_from g some ops) ≡ false → is_in (names_deleted ops) x ≡ true → DeletionPasses g x)
    → has_fault (if d then fault_of_deletion g op ∷ faults_from g earlier ops else fault_of_put g op earlier ∷ faults_from g (op.name ∷ earlier) ops) ≡ false
    → is_in (map (λ (o : NamedOp). o.name) (cond d (op ∷ deletions ops) (deletions ops))) x ≡ true → DeletionPasses g x
deletion_step true g op ops earlier x more none at =
    let parts = or_parts (is_some (fault_of_deletion g op)) _ none in
    ⊎_elim (λ (s : same x op.name ≡ true). (op, sym (same-true x op.name s), none_is (fault_of_deletion g op) parts.0))
    (λ (t : is_in (names_deleted ops) x ≡ true). more earlier parts.1 t) (or_cases (same x op.name) (is_in (names_deleted ops) x) at)
deletion_step false g op ops earlier x more none at = more (op.name ∷ earlier) (or_parts (is_some (fault_of_put g op earlier)) _ none).1 at

deletion-passes : (g : Grounds) (ops : List NamedOp) (earlier : List (List ℕ)) (x : List ℕ) → has_fault (faults_from g earlier ops) ≡ false → is_in (names_deleted ops) x ≡ true → DeletionPasses g x
deletion-passes g [] earlier x none at = absurd (both_ways false refl at)
deletion-passes g (op ∷ ops) earlier x none at = deletion_step (is_deletion op.kind) g op ops earlier x (λ some none at. deletion-passes g ops some x none at) none at

unheld_from : (g : Grounds) (op : NamedOp) → fault_of_deletion g op ≡ None → is_in g.taken op.name ≡ true → list_any (holds_back g op.name) g.working ≡ false
unheld_from g op e taken =
    let passed = last_passes (lacks g op) (is_in_conflict_with g op) (is_denied_deletion g op) (is_held_back g op) e in
    ap (λ b. b && list_any (holds_back g op.name) g.working) (sym taken) ∙ passed

-- nothing holds back a name that a deletion takes
pub taken-unheld : (g : Grounds) (ops : List NamedOp) (x : List ℕ) → has_fault (faults_of g ops) ≡ false → is_in (names_deleted ops) x ≡ true → is_in g.taken x ≡ true → list_any (holds_back g x) g.working ≡ false
taken-unheld g ops x none deleted taken =
    let one = deletion-passes g ops [] x (sym (ap has_fault (faults_told g ops)) ∙ none) deleted in
    subst (λ y. list_any (holds_back g y) g.working ≡ false) one.1 (unheld_from g one.0 one.2 (subst (λ y. is_in g.taken y ≡ true) (sym one.1) taken))

in_filter_step : (b : Bool) (p : List ℕ → Bool) (y x : List ℕ) (ys zs : List (List ℕ)) → p y ≡ b → (is_in ys x ≡ true → (is_in zs x ≡ true) × (p x ≡ true)) → is_in (cond b (y ∷ ys) ys) x ≡ true
    → ((same x y || is_in zs x) ≡ true) × (p x ≡ true)
in_filter_step true p y x ys zs py ih i = ⊎_elim
    (λ (s : same x y ≡ true). (or_left (same x y) (is_in zs x) s, subst (λ z. p z ≡ true) (sym (same-true x y s)) py))
    (λ (t : is_in ys x ≡ true). (or_right (same x y) (is_in zs x) (ih t).0, (ih t).1))
    (or_cases (same x y) (is_in ys x) i)
in_filter_step false p y x ys zs py ih i = (or_right (same x y) (is_in zs x) (ih i).0, (ih i).1)

-- a name that a test keeps is one of the names, and passes
pub in-filter : (p : List ℕ → Bool) (ys : List (List ℕ)) (x : List ℕ) → is_in (filter p ys) x ≡ true → (is_in ys x ≡ true) × (p x ≡ true)
in-filter p [] x i = absurd (both_ways false refl i)
in-filter p (y ∷ ys) x i = in_filter_step (p y) p y x (filter p ys) ys refl (in-filter p ys x) i

-- ---- what has happened to a name

there_step : (b : Bool) (r : Record) (rows : List Record) (x : List ℕ) → is_there rows x ≡ is_some (record_at rows x) → (b || is_there rows x) ≡ is_some (cond b (Some r) (record_at rows x))
there_step true r rows x ih = refl
there_step false r rows x ih = ih

pub there-found : (rows : List Record) (x : List ℕ) → is_there rows x ≡ is_some (record_at rows x)
there-found [] x = refl
there-found (r ∷ rows) x = there_step (same x r.name) r rows x (there-found rows x)

distinct_step : (b : Bool) (y x : List ℕ) (ys : List (List ℕ)) → is_in ys y ≡ b → (is_in ys x ≡ true → is_in (distinct ys) x ≡ true) → (same x y || is_in ys x) ≡ true
    → is_in (if b then distinct ys else y ∷ distinct ys) x ≡ true
distinct_step true y x ys is ih i = ih (⊎_elim (λ (s : same x y ≡ true). subst (λ z. is_in ys z ≡ true) (sym (same-true x y s)) is) (λ (t : is_in ys x ≡ true). t) (or_cases (same x y) (is_in ys x) i))
distinct_step false y x ys is ih i = ⊎_elim (λ (s : same x y ≡ true). or_left (same x y) (is_in (distinct ys) x) s) (λ (t : is_in ys x ≡ true). or_right (same x y) (is_in (distinct ys) x) (ih t)) (or_cases (same x y) (is_in ys x) i)

pub in_distinct : (ys : List (List ℕ)) (x : List ℕ) → is_in ys x ≡ true → is_in (distinct ys) x ≡ true
in_distinct [] x i = i
in_distinct (y ∷ ys) x i = distinct_step (is_in ys y) y x ys refl (in_distinct ys x) i

put_in_step : (s : Bool) (q p : NamedOp) (o : Option NamedOp) (names : List (List ℕ)) (x : List ℕ) → same x q.name ≡ s → (o ≡ Some p → is_in names x ≡ true) → cond s (Some q) o ≡ Some p → (same x q.name || is_in names x) ≡ true
put_in_step true q p o names x is ih e = or_left (same x q.name) (is_in names x) is
put_in_step false q p o names x is ih e = or_right (same x q.name) (is_in names x) (ih e)

put_named : (ps : List NamedOp) (x : List ℕ) (p : NamedOp) → put_at ps x ≡ Some p → is_in (map (λ (q : NamedOp). q.name) ps) x ≡ true
put_named [] x p e = absurd (both_ways false refl (ap (λ (q : Option NamedOp). option_map_or (λ _. true) q false) e))
put_named (q ∷ ps) x p e = put_in_step (same x q.name) q p (put_at ps x) (map (λ (q : NamedOp). q.name) ps) x refl (put_named ps x p) e

taken_step : (s : Bool) (log : List Commit) (key : ZoneKey) (y x : List ℕ) (names : List (List ℕ)) (o : Option Past) → same x y ≡ s
    → (is_in names x ≡ true → is_some_and (λ (p : Past). p.taken) o ≡ is_there (zone_at log key).rows x) → (s || is_in names x) ≡ true
    → is_some_and (λ (p : Past). p.taken) (cond s (Some (past_of log key y)) o) ≡ is_there (zone_at log key).rows x
taken_step true log key y x names o is ih i = ap (is_there (zone_at log key).rows) (sym (same-true x y is))
taken_step false log key y x names o is ih i = ih i

taken_in : (log : List Commit) (key : ZoneKey) (names : List (List ℕ)) (x : List ℕ) → is_in names x ≡ true → is_taken (map (past_of log key) names) x ≡ is_there (zone_at log key).rows x
taken_in log key [] x i = absurd (both_ways false refl i)
taken_in log key (y ∷ names) x i = taken_step (same x y) log key y x names (find (λ (p : Past). same x p.name) (map (past_of log key) names)) refl (taken_in log key names x) i

-- the history of the names tells which of them are taken
pub past-taken : (log : List Commit) (key : ZoneKey) (ops : List NamedOp) (x : List ℕ) (p : NamedOp) → put_at (puts_in ops) x ≡ Some p → is_taken (name_history log key ops) x ≡ is_there (zone_at log key).rows x
past-taken log key ops x p e = taken_in log key (distinct (map (λ (o : NamedOp). o.name) (puts_in ops))) x (in_distinct (map (λ (o : NamedOp). o.name) (puts_in ops)) x (put_named (puts_in ops) x p e))
