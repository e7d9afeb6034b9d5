-- What a request on records comes to: its answers and its commits.
use Rattle.std.specs.Prelude.{ℕ, Bool, not, ◌&&◌, List, [], ◌∷◌, ◌++◌, map, zip, Option, None, if◌then◌else◌, option_and_then}
use Rattle.std.specs.Option.{option_map_or}
use Rattle.std.specs.List.{flat_map}
use Rattle.ck_base.specs.declared.key.ZoneKey.{ZoneKey}
use Rattle.record_model.specs.declared.records.Record.{Record}
use Rattle.zone_model.specs.declared.outcomes.OpFault.{OpFault}
use Rattle.zone_model.specs.declared.outcomes.OpFault.TheVariants.{Conflict}
use Rattle.zone_model.specs.declared.outcomes.Outcome.{Outcome}
use Rattle.zone_model.specs.declared.outcomes.Outcome.TheVariants.{Put, Deleted, Refused}
use Rattle.zone_model.specs.declared.outcomes.Modified.{Modified}
use Rattle.zone_model.specs.declared.commits.Commit.{Commit}
use Rattle.zone_model.specs.Names.{is_default}
use Rattle.name_rules.specs.Options.{or_else}
use Rattle.zone_model.specs.Records.{record_at}
use Rattle.zone_model.specs.Zones.{zone_at, puts_at}
use Rattle.zone_model.specs.Views.{view_of}
use Rattle.zone_model.specs.Past.{name_history}
use Rattle.zone_model.specs.Requests.{Caller, NamedOp, is_deletion, root_given}
use Rattle.zone_model.specs.Judging.{judgement, has_fault}
use Rattle.zone_model.specs.Effect.{Request, working, stamped, effect}

-- ---- the answers

-- only a conflict shows a record, the one whose tag is another: that of the name, or else the root
abbrev pub shown_with : OpFault → List Record → NamedOp → Option Record
shown_with Conflict seen op = or_else (record_at seen op.name) (option_and_then (record_at seen) (root_given op.draft))
shown_with _ seen op = None

-- a put is answered with the record of the working view, whatever goes with the removals, and a deletion with its name
abbrev pub done : Request → NamedOp → Outcome
done q op =
    let put = if is_deletion op.kind then None else record_at (working q) op.name in
    option_map_or (λ r. Put (stamped q r)) put (Deleted op.name)

abbrev pub outcome_of : Request → NamedOp × Option OpFault → Outcome
outcome_of q judged = option_map_or (λ fault. Refused fault (shown_with fault q.seen judged.0)) judged.1 (done q judged.0)

-- ---- at a log

-- an atomic request is judged as one, but never in a default zone
abbrev pub is_judged_as_one : ZoneKey → Bool → Bool
is_judged_as_one key atomic = atomic && not (is_default key)

-- an operation that is done by itself, and the log that it finds
pub record Step : Type 0 where
  pub log : List Commit
  pub op : NamedOp

module _ (caller : Caller) (moment : ℕ) where
  abbrev pub request_at : List Commit → List NamedOp → Request
  request_at log ops = record {
    caller = caller;
    moment = moment;
    seen = (view_of log caller.user caller.scope caller.key).rows;
    rows = (zone_at log caller.key).rows;
    puts = puts_at log caller.key;
    ops = ops;
  }

  abbrev pub judgement_at : List Commit → List NamedOp → List (Option OpFault)
  judgement_at log ops = judgement (view_of log caller.user caller.scope caller.key) (name_history log caller.key ops) ops caller

  -- the operations as one: one commit, or none where something is refused or nothing is written
  abbrev pub effect_at : List Commit → List NamedOp → List Commit
  effect_at log ops = if has_fault (judgement_at log ops) then [] else effect (request_at log ops)

  abbrev pub modified_as_one : List Commit → List NamedOp → Modified
  modified_as_one log ops = record {
    outcomes = map (outcome_of (request_at log ops)) (zip ops (judgement_at log ops));
    commits = effect_at log ops;
  }

  -- the operations one after another, each at the log with the commits of those before it
  abbrev pub steps : List Commit → List NamedOp → List Step
  steps log [] = []
  steps log (op ∷ ops) = record { log = log; op = op } ∷ steps (log ++ effect_at log (op ∷ [])) ops

  abbrev pub step_done : Step → Modified
  step_done s = modified_as_one s.log (s.op ∷ [])

  abbrev pub modified_apart : List Commit → List NamedOp → Modified
  modified_apart log ops = record {
    outcomes = flat_map (λ s. (step_done s).outcomes) (steps log ops);
    commits = flat_map (λ s. (step_done s).commits) (steps log ops);
  }

  abbrev pub modified : List Commit → Bool → List NamedOp → Modified
  modified log atomic ops = if is_judged_as_one caller.key atomic then modified_as_one log ops else modified_apart log ops

  abbrev pub commits_of_request : List Commit → Bool → List NamedOp → List Commit
  commits_of_request log atomic ops = (modified log atomic ops).commits
