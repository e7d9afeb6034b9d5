-- What an ask on the own default zone comes to.
use Rattle.std.proofs.Common.{◌≡◌, ℕ, List, [], ◌∷◌, ◌++◌, length, Bool, true, false, not, ◌&&◌, refl, sym, ap, ◌∙◌, subst, map, Option, ◌≤◌, arith}
use Rattle.std.specs.Prelude.{◌||◌, if◌then◌else◌}
use Rattle.std.specs.List.{list_all, AllByRecursion}
use Rattle.ck_base.specs.declared.key.ZoneKey.{ZoneKey}
use Rattle.ck_base.specs.declared.scope.Scope.{Scope}
use Rattle.ck_base.specs.declared.scope.Scope.TheVariants.{Private}
use Rattle.record_model.specs.declared.records.Record.{Record}
use Rattle.record_model.specs.declared.view.View.{View}
use Rattle.zone_model.specs.declared.operations.Op.{Op}
use Rattle.zone_model.specs.declared.commits.Commit.{Commit}
use Rattle.zone_model.specs.declared.events.Event.{Event}
use Rattle.zone_model.specs.declared.outcomes.Modified.{Modified}
use Rattle.zone_model.specs.Names.{is_default}
use Rattle.zone_model.specs.Records.{record_at}
use Rattle.zone_model.specs.Zones.{zone_at}
use Rattle.zone_model.specs.Views.{view_of}
use Rattle.zone_model.specs.Events.{log_of}
use Rattle.zone_model.specs.Requests.{Caller, NamedOp}
use Rattle.zone_model.specs.Modifying.{is_judged_as_one, modified_as_one, modified_apart, commits_of_request}
use Rattle.plain_creates.specs.PlainCreates.{IsOwner, is_plain_create}
use Rattle.plain_creates.specs.OnePuts.{IsOnePut, last_put}
use Rattle.zone_laws.proofs.LegalLaws.{histories_legal}
use Rattle.zone_laws.proofs.OnePutLaws.{puts_found}
use Rattle.board_model.specs.declared.parts.Part.{Part}
use Rattle.board_model.specs.declared.parts.Part.TheVariants.{Modify, Lookup}
use Rattle.board_model.specs.declared.answers.Answer.{Answer}
use Rattle.board_model.specs.declared.answers.Answer.TheVariants.{Modify as ModifyAnswer, Lookup as LookupAnswer, NoZone}
use Rattle.board_model.specs.Sights.{OpSight, op_sight, sights_of, outcomes_as_one, outcomes_apart, outcomes_by}
use Rattle.board_model.specs.Asks.{stored, caller_in, ops_at, sight, answer, commits_by, event_of, made, makes}
use Rattle.board_model.specs.Parts.{MayBeAsked}
use Rattle.zone_board.specs.declared.create.Asking.{Asking}
use Rattle.zone_board.specs.Kept.{IsKept, IsCreation}
use Rattle.zone_board.specs.Askings.{caller_of, all_done}
use Rattle.zone_board.proofs.PlainLemmas.{plain_named, length_named}
use Rattle.zone_board.proofs.SightLemmas.{default_there, view_is, seen_apart}
use Rattle.zone_board.proofs.LegalLemmas.{few_made, lawful_made, kept_more}

module _ (events : List Event) (user : List ℕ) (key : ZoneKey) (by_owner : user ≡ key.owner) (default : is_default key ≡ true) (ones : AllByRecursion IsOnePut (log_of events)) where
  abbrev its_caller : Caller
  its_caller = caller_in user Private key

  owns : IsOwner its_caller
  owns = record { user = by_owner; scope = refl }

  there : (zone_at (log_of events) key).there ≡ true
  there = default_there (log_of events) key default ones

  viewed : view_of (log_of events) user Private key ≡ record { here = true; rows = (zone_at (log_of events) key).rows }
  viewed = view_is its_caller owns (log_of events) there

  -- ---- lookups

  all_found : (names : List (List ℕ)) → map (record_at (zone_at (log_of events) key).rows) names ≡ map (λ x. last_put key x (log_of events)) names
  all_found [] = refl
  all_found (x ∷ names) = λ i. puts_found.found (log_of events) key x ones i ∷ all_found names i

  looked_up : (lock : ℕ) (names : List (List ℕ)) → answer lock (sight lock events (Lookup user Private key names)) (Lookup user Private key names) ≡ LookupAnswer (map (λ x. last_put key x (log_of events)) names)
  looked_up lock names = ap (λ (v : View). if v.here then LookupAnswer (map (record_at v.rows) names) else NoZone) viewed ∙ ap LookupAnswer (all_found names)

  -- ---- modifications

  module _ (atomic : Bool) (ops : List Op) (moment : ℕ) (words : List (List ℕ)) (plain : list_all is_plain_create ops ≡ true) where
    abbrev its_ops : List NamedOp
    its_ops = ops_at key ops words

    abbrev its_part : Part
    its_part = Modify user Private key atomic ops moment words

    abbrev apart : Modified
    apart = modified_apart its_caller moment (log_of events) its_ops

    one_off : (b : Bool) → (b && not (is_default key)) ≡ false
    one_off true = ap not default
    one_off false = refl

    told : (lock : ℕ) → answer lock (sight lock events its_part) its_part ≡ ModifyAnswer apart.outcomes
    told lock =
        let before : OpSight = op_sight its_caller moment (log_of events) its_ops in
        let each : List OpSight = sights_of its_caller moment (log_of events) its_ops in
        ap (λ (v : View). if v.here then ModifyAnswer (outcomes_by its_caller moment atomic before (if not v.here || is_judged_as_one key atomic then [] else each) its_ops) else NoZone) viewed
        ∙ ap (λ b. ModifyAnswer (if b then outcomes_as_one its_caller moment before its_ops else outcomes_apart its_caller moment (if b then [] else each) its_ops)) (one_off atomic)
        ∙ ap ModifyAnswer (seen_apart its_caller owns moment default its_ops (log_of events) (plain_named key ops words plain) ones)

    committed : (lock : ℕ) → commits_by lock events its_part ≡ apart.commits
    committed lock =
        ap (λ (v : View). if v.here then commits_of_request its_caller moment (log_of events) atomic its_ops else []) viewed
        ∙ ap (λ b. (if b then modified_as_one its_caller moment (log_of events) its_ops else modified_apart its_caller moment (log_of events) its_ops).commits) (one_off atomic)

-- what creations come to
pub all_is : (asking : Asking) (log : List Commit) (ops : List NamedOp) → all_done asking log ops ≡ modified_apart (caller_of asking) asking.moment log ops
unfolding all_done
all_is asking log ops = refl

-- ---- parts that may be asked

module _ (lock : ℕ) (events : List Event) (part : Part) (may : MayBeAsked lock part) (ones : AllByRecursion IsOnePut (log_of events)) (user : List ℕ) (scope : Scope) (key : ZoneKey) where
  module _ (names : List (List ℕ)) (is : part ≡ Lookup user scope key names) where
    lookup_told : answer lock (sight lock events part) part ≡ LookupAnswer (map (λ x. last_put key x (log_of events)) names)
    lookup_told =
        let mine = subst (MayBeAsked lock) is may in
        ap (λ p. answer lock (sight lock events p) p) (is ∙ ap (λ s. Lookup user s key names) mine.in_private) ∙ looked_up events user key mine.by_owner mine.in_default ones lock names

    pub lookup_answered : (seen : List Event) (asked : List (List ℕ)) (found : List (Option Record)) → seen ≡ events → asked ≡ names → found ≡ map (λ x. last_put key x (log_of seen)) asked
        → LookupAnswer found ≡ answer lock (sight lock events part) part
    lookup_answered seen asked found seen_is asked_is found_is =
        ap LookupAnswer (found_is ∙ (λ i. map (λ x. last_put key x (log_of (seen_is i))) (asked_is i))) ∙ sym lookup_told

  module _ (atomic : Bool) (ops : List Op) (moment : ℕ) (words : List (List ℕ)) (is : part ≡ Modify user scope key atomic ops moment words) (ops_done : List Op) (words_drawn : List (List ℕ))
      (ops_are : ops_done ≡ ops) (words_are : words_drawn ≡ words) (asking : Asking) (caller_is : caller_of asking ≡ caller_in user Private key) (moment_is : asking.moment ≡ moment) where
    abbrev all_apart : Modified
    all_apart = modified_apart (caller_in user Private key) moment (log_of events) (ops_at key ops words)

    abbrev its_done : Modified
    its_done = all_done asking (log_of events) (ops_at asking.key.now ops_done words_drawn)

    done_is : its_done ≡ all_apart
    done_is = all_is asking (log_of events) (ops_at asking.key.now ops_done words_drawn) ∙ (λ i. modified_apart (caller_is i) (moment_is i) (log_of events) (ops_at (caller_is i).key (ops_are i) (words_are i)))

    part_is : part ≡ Modify user Private key atomic ops moment words
    part_is = is ∙ ap (λ s. Modify user s key atomic ops moment words) (subst (MayBeAsked lock) is may).0.in_private

    commits_are : its_done.commits ≡ commits_by lock events part
    commits_are =
        let mine = subst (MayBeAsked lock) is may in
        ap (λ (m : Modified). m.commits) done_is
        ∙ sym (ap (commits_by lock events) part_is ∙ committed events user key mine.0.by_owner mine.0.in_default ones atomic ops moment words mine.1.plain lock)

    pub modify_answered : (given : Answer) → given ≡ ModifyAnswer its_done.outcomes → given ≡ answer lock (sight lock events part) part
    modify_answered given is_told =
        let mine = subst (MayBeAsked lock) is may in
        is_told ∙ ap (λ (m : Modified). ModifyAnswer m.outcomes) done_is
        ∙ sym (ap (λ p. answer lock (sight lock events p) p) part_is ∙ told events user key mine.0.by_owner mine.0.in_default ones atomic ops moment words mine.1.plain lock)

    pub modify_made : (seat : ℕ) (new : List Event) → new ≡ events ++ event_of stored seat events its_done.commits → new ≡ events ++ made stored lock seat events part
    modify_made seat new new_is = new_is ∙ ap (λ cs. events ++ event_of stored seat events cs) commits_are

    pub modify_makes : (event : Bool) → event ≡ makes its_done.commits → event ≡ makes (commits_by lock events part)
    modify_makes event event_is = event_is ∙ ap makes commits_are

    -- the history stays as it is to be
    pub modify_keeps : (seat : ℕ) (new : List Event) → AllByRecursion (IsCreation key) its_done.commits → new ≡ events ++ event_of stored seat events its_done.commits → IsKept lock events → IsKept lock new
    modify_keeps seat new formed new_is kept =
        let mine = subst (MayBeAsked lock) is may in
        let caller = caller_in user Private key in
        let named = ops_at key ops words in
        let all_formed : AllByRecursion (IsCreation key) all_apart.commits = subst (λ (m : Modified). AllByRecursion (IsCreation key) m.commits) done_is formed in
        let grown : new ≡ events ++ event_of stored seat events all_apart.commits = new_is ∙ ap (λ (m : Modified). events ++ event_of stored seat events m.commits) done_is in
        let few : length all_apart.commits ≤ 200 = omega (arith, few_made caller moment named (log_of events), length_named key ops words, mine.1.meant.few) in
        let lawful = lawful_made caller moment (log_of events) named (histories_legal.lawful lock events kept.legal) (default_there (log_of events) key mine.0.in_default ones) (plain_named key ops words mine.1.plain) in
        subst (IsKept lock) (sym grown) (kept_more lock seat events key all_apart.commits kept mine.0.of_lock all_formed few lawful)
