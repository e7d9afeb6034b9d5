-- What is made are the commits of the operations.
use Rattle.std.proofs.Common.{◌≡◌, ◌≤◌, ℕ, List, [], ◌∷◌, ◌++◌, true, false, refl, sym, ap, ◌∙◌, arith, length, append_assoc, append-nil}
use Rattle.std.specs.Prelude.{if◌then◌else◌}
use Rattle.zone_model.specs.declared.commits.Commit.{Commit}
use Rattle.zone_model.specs.declared.events.Event.{Event}
use Rattle.zone_model.specs.Events.{commits_of, log_of}
use Rattle.zone_model.specs.Modifying.{commits_of_request}
use Rattle.board_model.specs.declared.parts.Part.{Part}
use Rattle.board_model.specs.declared.parts.Part.TheVariants.{Modify, Lookup}
use Rattle.board_model.specs.declared.answers.Answer.{Answer}
use Rattle.board_model.specs.declared.answers.Answer.TheVariants.{StoreFailed}
use Rattle.board_model.specs.Asks.{Append, stored, failed, caller_in, commits_by, event_of, made, makes, told, ops_at}
use Rattle.board_laws.specs.Answered.{view_for, CommitsAreMade, FailuresAreTold}

pub log-append : (old more : List Event) → log_of (old ++ more) ≡ log_of old ++ log_of more
log-append [] more = refl
log-append (e ∷ old) more = ap (λ l. commits_of e ++ l) (log-append old more) ∙ sym (append_assoc (commits_of e) (log_of old) (log_of more))

one_event : (append : Append) (seat : ℕ) (events : List Event) (cs : List Commit) → length (event_of append seat events cs) ≤ 1
one_event append seat events [] = omega arith
one_event stored seat events (c ∷ cs) = omega arith
one_event (failed from to) seat events (c ∷ cs) = omega arith

its_commits : (seat : ℕ) (events : List Event) (cs : List Commit) → log_of (event_of stored seat events cs) ≡ cs
its_commits seat events [] = refl
its_commits seat events (c ∷ cs) = append-nil (c ∷ cs)

no_commits : (from to seat : ℕ) (events : List Event) (cs : List Commit) → log_of (event_of (failed from to) seat events cs) ≡ []
no_commits from to seat events [] = refl
no_commits from to seat events (c ∷ cs) = refl

not_stored : (from to seat : ℕ) (events : List Event) (cs : List Commit) (a : Answer) → makes cs ≡ true → told (event_of (failed from to) seat events cs) a ≡ StoreFailed
not_stored from to seat events [] a e = absurd (cc (e))
not_stored from to seat events (c ∷ cs) a e = refl

as_found : (seat : ℕ) (events : List Event) (cs : List Commit) (a : Answer) → told (event_of stored seat events cs) a ≡ a
as_found seat events [] a = refl
as_found seat events (c ∷ cs) a = refl

none_made : (append : Append) (seat : ℕ) (events : List Event) (cs : List Commit) → makes cs ≡ false → event_of append seat events cs ≡ []
none_made append seat events [] e = refl
none_made append seat events (c ∷ cs) e = absurd (cc (e))

unseen_made : (lock : ℕ) (events : List Event) (part : Part) → (view_for events part).here ≡ false → commits_by lock events part ≡ []
unseen_made lock events (Modify user scope key atomic ops moment words) e =
    ap (λ h. if h then commits_of_request (caller_in user scope key) moment (log_of events) atomic (ops_at key ops words) else []) e
unseen_made lock events (Lookup user scope key names) e = refl

pub commits_made : CommitsAreMade
commits_made = record {
  modify = λ lock events user scope key atomic ops moment words here.
      ap (λ h. if h then commits_of_request (caller_in user scope key) moment (log_of events) atomic (ops_at key ops words) else []) here;
  lookup = λ lock events user scope key names. refl;
  unseen = unseen_made;
  one = λ append lock seat events part. one_event append seat events (commits_by lock events part);
  log = λ lock seat events part. log-append events (made stored lock seat events part) ∙ ap (λ l. log_of events ++ l) (its_commits seat events (commits_by lock events part));
}

pub failures_told : FailuresAreTold
failures_told = record {
  log_kept = λ from to lock seat events part.
      log-append events (made (failed from to) lock seat events part) ∙ ap (λ l. log_of events ++ l) (no_commits from to seat events (commits_by lock events part)) ∙ append-nil (log_of events);
  failed_told = λ from to lock seat events part a e. not_stored from to seat events (commits_by lock events part) a e;
  stored_told = λ lock seat events part a. as_found seat events (commits_by lock events part) a;
  idle = λ append lock seat events part e. none_made append seat events (commits_by lock events part) e;
}
