-- The answer to a modify is the outcomes of its operations.
use Rattle.std.proofs.Common.{◌≡◌, ℕ, suc, List, [], ◌∷◌, ◌++◌, Bool, true, false, cond, not, ◌||◌, refl, sym, ap, ◌∙◌, subst, Some, None, Option, map}
use Rattle.std.specs.Prelude.{find, zip, is_some, unwrap_or, if◌then◌else◌}
use Rattle.std.specs.Option.{option_map_or}
use Rattle.std.specs.List.{AllByRecursion}
use Rattle.std.proofs.lemmas.Bool.{both_ways, and_from, or_left, or_right, true_from_ne_false, false_from_ne_true}
use Rattle.name_rules.specs.Options.{is_some_and}
use Rattle.name_rules.proofs.NameLemmas.{same-true, same-refl, IsWithin}
use Rattle.ck_base.specs.declared.key.ZoneKey.{ZoneKey}
use Rattle.ck_base.specs.declared.scope.Scope.{Scope}
use Rattle.record_model.specs.declared.records.Record.{Record}
use Rattle.zone_model.specs.declared.operations.Op.{Op}
use Rattle.zone_model.specs.declared.operations.Past.{Past}
use Rattle.zone_model.specs.declared.outcomes.OpFault.{OpFault}
use Rattle.zone_model.specs.declared.outcomes.OpFault.TheVariants.{Atomic}
use Rattle.zone_model.specs.declared.outcomes.Outcome.{Outcome}
use Rattle.zone_model.specs.declared.outcomes.Outcome.TheVariants.{Put, Deleted}
use Rattle.zone_model.specs.declared.commits.Commit.{Commit}
use Rattle.zone_model.specs.declared.events.Event.{Event}
use Rattle.zone_model.specs.Names.{same, is_in, distinct}
use Rattle.zone_model.specs.Records.{record_at, is_there}
use Rattle.zone_model.specs.Zones.{zone_at, puts_at}
use Rattle.zone_model.specs.Views.{view_of}
use Rattle.zone_model.specs.Past.{past_of, name_history, is_taken}
use Rattle.zone_model.specs.Requests.{Caller, NamedOp, is_deletion, makes_new, puts_in, names_put}
use Rattle.zone_model.specs.Grounds.{Grounds, grounds_of}
use Rattle.zone_model.specs.PutChecks.{is_new, is_hidden, is_missing, fault_of_put}
use Rattle.zone_model.specs.DeletionChecks.{fault_of_deletion}
use Rattle.zone_model.specs.Judging.{faults_of, has_fault}
use Rattle.zone_laws.proofs.JudgedLaws.{faults_from, faults_told}
use Rattle.zone_model.specs.Effect.{Request, working, stamp, stamped}
use Rattle.zone_model.specs.Modifying.{is_judged_as_one, done, outcome_of, request_at, judgement_at, effect_at, modified_as_one, modified_apart}
use Rattle.zone_model.specs.Events.{log_of}
use Rattle.zone_laws.proofs.RecordLaws.{found-name}
use Rattle.zone_laws.proofs.FormedLaws.{view-part}
use Rattle.zone_laws.proofs.JudgeLaws.{passed-from, in_distinct, there-found}
use Rattle.board_model.specs.declared.parts.Part.{Part}
use Rattle.board_model.specs.declared.parts.Part.TheVariants.{Modify, Lookup}
use Rattle.board_model.specs.declared.answers.Answer.{Answer}
use Rattle.board_model.specs.declared.answers.Answer.TheVariants.{Modify as ModifyAnswer, Lookup as LookupAnswer, NoZone, StoreFailed as NotStored}
use Rattle.board_model.specs.Sights.{OpSight, puts_seen, op_sight, sights_of, request_seen, outcomes_as_one, outcomes_apart, outcomes_by}
use Rattle.board_model.specs.Asks.{caller_in, ops_at}
use Rattle.board_laws.specs.Answered.{answer_at, view_for, modified_at, AnswersAreTold}

-- ---- the history of a name that a put offers

past_step : (s : Bool) (log : List Commit) (key : ZoneKey) (y x : List ℕ) (names : List (List ℕ)) (o : Option Past) → same x y ≡ s → (is_in names x ≡ true → o ≡ Some (past_of log key x)) → (s || is_in names x) ≡ true
    → cond s (Some (past_of log key y)) o ≡ Some (past_of log key x)
past_step true log key y x names o is ih i = ap (λ z. Some (past_of log key z)) (sym (same-true x y is))
past_step false log key y x names o is ih i = ih i

past_in : (log : List Commit) (key : ZoneKey) (names : List (List ℕ)) (x : List ℕ) → is_in names x ≡ true → find (λ (p : Past). same x p.name) (map (past_of log key) names) ≡ Some (past_of log key x)
past_in log key [] x i = absurd (both_ways false refl i)
past_in log key (y ∷ names) x i = past_step (same x y) log key y x names (find (λ (p : Past). same x p.name) (map (past_of log key) names)) refl (past_in log key names x) i

pub past_offered : (log : List Commit) (key : ZoneKey) (ops : List NamedOp) (x : List ℕ) → is_in (names_put ops) x ≡ true → find (λ (p : Past). same x p.name) (name_history log key ops) ≡ Some (past_of log key x)
past_offered log key ops x i = past_in log key (distinct (names_put ops)) x (in_distinct (names_put ops) x i)

-- ---- outcomes, by what is seen and at the log

pub all_mapped : {X Y : Type 0} (f g : X → Y) (xs : List X) → AllByRecursion (λ x. f x ≡ g x) xs → map f xs ≡ map g xs
all_mapped f g [] all = refl
all_mapped f g (x ∷ xs) all = λ i. all.0 i ∷ all_mapped f g xs all.1 i

module _ (caller : Caller) (moment : ℕ) (log : List Commit) (all : List NamedOp) where
  abbrev its_sight : OpSight
  its_sight = op_sight caller moment log all

  abbrev as_seen : Request
  as_seen = request_seen caller moment its_sight all

  abbrev at_log : Request
  at_log = request_at caller moment log all

  abbrev its_grounds : Grounds
  its_grounds = grounds_of caller (name_history log caller.key all) its_sight.view.rows all

  abbrev IsAlike : NamedOp × Option OpFault → Type 0
  IsAlike judged = outcome_of as_seen judged ≡ outcome_of at_log judged

  -- a put that passes its checks offers a name that is in the zone just where it is seen
  module _ (op : NamedOp) (earlier : List (List ℕ)) (is_offered : is_in (names_put all) op.name ≡ true) (passed : fault_of_put its_grounds op earlier ≡ None) where
    abbrev its_put : NamedOp
    its_put = op

    puts_told : puts_seen its_sight.pasts op.name ≡ puts_at log caller.key op.name
    puts_told = ap (λ o. option_map_or (λ (p : Past). p.puts) o 0) (past_offered log caller.key all op.name is_offered)

    taken_told : is_taken its_sight.pasts op.name ≡ is_there (zone_at log caller.key).rows op.name
    taken_told = ap (is_some_and (λ (p : Past). p.taken)) (past_offered log caller.key all op.name is_offered)

    there_by : (s : Bool) → is_there its_sight.view.rows op.name ≡ s → is_there (zone_at log caller.key).rows op.name ≡ s
    there_by true e = seen_there (record_at its_sight.view.rows op.name) refl (sym (there-found its_sight.view.rows op.name) ∙ e)
      where
        seen_there : (o : Option Record) → record_at its_sight.view.rows op.name ≡ o → is_some o ≡ true → is_there (zone_at log caller.key).rows op.name ≡ true
        seen_there None is f = absurd (both_ways false refl f)
        seen_there (Some r) is f = there-found (zone_at log caller.key).rows op.name ∙ ap is_some ((view-part log caller.user caller.scope caller.key).part op.name r is)
    there_by false e =
        let checks = passed-from its_grounds its_put earlier passed in
        let new : is_new its_grounds its_put ≡ true = ap not e in
        let makes : makes_new op.kind ≡ true = true_from_ne_false (makes_new op.kind) (λ m. both_ways (is_missing its_grounds its_put) checks.found (and_from (not (makes_new op.kind)) _ (ap not m) new)) in
        false_from_ne_true (is_there (zone_at log caller.key).rows op.name) (λ t.
        both_ways (is_hidden its_grounds its_put) checks.unhidden (and_from (makes_new op.kind) _ makes (and_from (is_new its_grounds its_put) _ new (taken_told ∙ t))))

    there_told : is_there its_sight.view.rows op.name ≡ is_there (zone_at log caller.key).rows op.name
    there_told = sym (there_by (is_there its_sight.view.rows op.name) refl)

    stamped_alike : (r : Record) → op.name ≡ r.name → stamped as_seen r ≡ stamped at_log r
    stamped_alike r e =
        let puts = subst (λ x. puts_seen its_sight.pasts x ≡ puts_at log caller.key x) e puts_told in
        let there = subst (λ x. is_there its_sight.view.rows x ≡ is_there (zone_at log caller.key).rows x) e there_told in
        λ i. record r { tag = suc (puts i); created = if there i then r.created else stamp at_log; modified = stamp at_log }

    placed_alike : (o : Option Record) → record_at (working at_log) op.name ≡ o
        → option_map_or (λ r. Put (stamped as_seen r)) o (Deleted op.name) ≡ option_map_or (λ r. Put (stamped at_log r)) o (Deleted op.name)
    placed_alike None e = refl
    placed_alike (Some r) e = ap Put (stamped_alike r (same-true op.name r.name (found-name (working at_log) op.name r e)))

    put_alike : done as_seen op ≡ done at_log op
    put_alike = alike_where (is_deletion op.kind)
      where
        alike_where : (d : Bool) → option_map_or (λ r. Put (stamped as_seen r)) (if d then None else record_at (working at_log) op.name) (Deleted op.name)
            ≡ option_map_or (λ r. Put (stamped at_log r)) (if d then None else record_at (working at_log) op.name) (Deleted op.name)
        alike_where true = refl
        alike_where false = placed_alike (record_at (working at_log) op.name) refl

  put_by : (op : NamedOp) (earlier : List (List ℕ)) → is_in (names_put all) op.name ≡ true → (o : Option OpFault) → fault_of_put its_grounds op earlier ≡ o → IsAlike (op, o)
  put_by op earlier is_offered (Some fault) e = refl
  put_by op earlier is_offered None e = put_alike op earlier is_offered e

  deletion_by : (op : NamedOp) → is_deletion op.kind ≡ true → (o : Option OpFault) → IsAlike (op, o)
  deletion_by op is (Some fault) = refl
  deletion_by op is None =
      ap (λ b. option_map_or (λ r. Put (stamped as_seen r)) (if b then None else (record_at (working as_seen) op.name)) (Deleted op.name)) is
      ∙ sym (ap (λ b. option_map_or (λ r. Put (stamped at_log r)) (if b then None else (record_at (working at_log) op.name)) (Deleted op.name)) is)

  kind_by : (b : Bool) (op : NamedOp) (ops : List NamedOp) (earlier : List (List ℕ)) → is_deletion op.kind ≡ b
      → IsWithin (map (λ (o : NamedOp). o.name) (if not b then op ∷ puts_in ops else puts_in ops)) (names_put all)
      → ((more : List (List ℕ)) → IsWithin (names_put ops) (names_put all) → AllByRecursion IsAlike (zip ops (faults_from its_grounds more ops)))
      → AllByRecursion IsAlike (zip (op ∷ ops)
      (if b then fault_of_deletion its_grounds op ∷ faults_from its_grounds earlier ops else fault_of_put its_grounds op earlier ∷ faults_from its_grounds (op.name ∷ earlier) ops))
  kind_by true op ops earlier is within rest = (deletion_by op is (fault_of_deletion its_grounds op), rest earlier within)
  kind_by false op ops earlier is within rest = (
    put_by op earlier (within op.name (or_left (same op.name op.name) _ (same-refl op.name))) (fault_of_put its_grounds op earlier) refl,
    rest (op.name ∷ earlier) (λ x i. within x (or_right (same x op.name) _ i)),
  )

  each_alike : (ops : List NamedOp) (earlier : List (List ℕ)) → IsWithin (names_put ops) (names_put all) → AllByRecursion IsAlike (zip ops (faults_from its_grounds earlier ops))
  each_alike [] earlier within = tt
  each_alike (op ∷ ops) earlier within = kind_by (is_deletion op.kind) op ops earlier refl within
      (λ more w. each_alike ops more w)

  refused_alike : (ops : List NamedOp) (faults : List (Option OpFault)) → AllByRecursion IsAlike (zip ops (map (λ o. Some (unwrap_or o Atomic)) faults))
  refused_alike [] faults = tt
  refused_alike (op ∷ ops) [] = tt
  refused_alike (op ∷ ops) (o ∷ faults) = (refl, refused_alike ops faults)

  together_by : (b : Bool) (faults : List (Option OpFault)) → AllByRecursion IsAlike (zip all faults) → AllByRecursion IsAlike (zip all (if b then map (λ o. Some (unwrap_or o Atomic)) faults else faults))
  together_by true faults each = refused_alike all faults
  together_by false faults each = each

  pub seen_as_one : outcomes_as_one caller moment its_sight all ≡ (modified_as_one caller moment log all).outcomes
  seen_as_one =
      let faults = faults_of its_grounds all in
      all_mapped (outcome_of as_seen) (outcome_of at_log) (zip all (judgement_at caller moment log all)) (together_by (has_fault faults) faults (subst (λ fs. AllByRecursion IsAlike (zip all fs)) (sym (faults_told its_grounds all)) (each_alike all [] (λ x i. i))))

-- ---- one after another

module _ (caller : Caller) (moment : ℕ) where
  pub seen_apart : (ops : List NamedOp) (log : List Commit)
      → outcomes_apart caller moment (sights_of caller moment log ops) ops ≡ (modified_apart caller moment log ops).outcomes
  seen_apart [] log = refl
  seen_apart (op ∷ ops) log =
      let made = effect_at caller moment log (op ∷ []) in
      λ i. seen_as_one caller moment log (op ∷ []) i ++ seen_apart ops (log ++ made) i

  outcomes_told : (b : Bool) (log : List Commit) (ops : List NamedOp)
      → (if b then outcomes_as_one caller moment (op_sight caller moment log ops) ops else outcomes_apart caller moment (if b then [] else sights_of caller moment log ops) ops)
      ≡ (if b then modified_as_one caller moment log ops else modified_apart caller moment log ops).outcomes
  outcomes_told true log ops = seen_as_one caller moment log ops
  outcomes_told false log ops = seen_apart ops log

-- ---- the law

modify_told : (lock : ℕ) (events : List Event) (user : List ℕ) (scope : Scope) (key : ZoneKey) (atomic : Bool) (ops : List Op) (moment : ℕ) (words : List (List ℕ)) → (view_of (log_of events) user scope key).here ≡ true
    → answer_at lock events (Modify user scope key atomic ops moment words) ≡ ModifyAnswer (modified_at events user scope key atomic ops moment words).outcomes
modify_told lock events user scope key atomic ops moment words here =
    let caller = caller_in user scope key in
    let named = ops_at key ops words in
    let before : OpSight = op_sight caller moment (log_of events) named in
    let each : List OpSight = sights_of caller moment (log_of events) named in
    ap (λ h. if h then ModifyAnswer (outcomes_by caller moment atomic before (if not h || is_judged_as_one key atomic then [] else each) named) else NoZone) here
    ∙ ap ModifyAnswer (outcomes_told caller moment (is_judged_as_one key atomic) (log_of events) named)

not_modify : (outcomes : List Outcome) → ModifyAnswer outcomes ≡ NoZone → ⊥
not_modify outcomes e = both_ways false refl (sym (ap is_told e))
  where
    is_told : Answer → Bool
    is_told (ModifyAnswer os) = true
    is_told (LookupAnswer found) = true
    is_told NoZone = false
    is_told NotStored = true

not_lookup : (found : List (Option Record)) → LookupAnswer found ≡ NoZone → ⊥
not_lookup found e = both_ways false refl (sym (ap is_told e))
  where
    is_told : Answer → Bool
    is_told (ModifyAnswer os) = true
    is_told (LookupAnswer fs) = true
    is_told NoZone = false
    is_told NotStored = true

unseen_told : (lock : ℕ) (events : List Event) (part : Part) → (view_for events part).here ≡ false → answer_at lock events part ≡ NoZone
unseen_told lock events (Modify user scope key atomic ops moment words) e =
    let caller = caller_in user scope key in
    let named = ops_at key ops words in
    let before : OpSight = op_sight caller moment (log_of events) named in
    let each : List OpSight = sights_of caller moment (log_of events) named in
    ap (λ h. if h then ModifyAnswer (outcomes_by caller moment atomic before (if not h || is_judged_as_one key atomic then [] else each) named) else NoZone) e
unseen_told lock events (Lookup user scope key names) e = ap (λ h. if h then LookupAnswer (map (record_at (view_of (log_of events) user scope key).rows) names) else NoZone) e

here_or : (h : Bool) (given : Answer) → (given ≡ NoZone → ⊥) → (if h then given else NoZone) ≡ NoZone → h ≡ false
here_or true given never e = absurd (never e)
here_or false given never e = refl

no_other_told : (lock : ℕ) (events : List Event) (part : Part) → answer_at lock events part ≡ NoZone → (view_for events part).here ≡ false
no_other_told lock events (Modify user scope key atomic ops moment words) e = here_or (view_of (log_of events) user scope key).here _ (not_modify _) e
no_other_told lock events (Lookup user scope key names) e = here_or (view_of (log_of events) user scope key).here _ (not_lookup _) e

pub answers_told : AnswersAreTold
answers_told = record {
  modify = modify_told;
  lookup = λ lock events user scope key names here. ap (λ h. if h then LookupAnswer (map (record_at (view_of (log_of events) user scope key).rows) names) else NoZone) here;
  unseen = unseen_told;
  no_other = no_other_told;
}
