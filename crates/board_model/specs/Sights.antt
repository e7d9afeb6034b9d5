-- What an ask on records is given to see, and what it comes to by that alone.
use Rattle.std.specs.Prelude.{ℕ, Bool, List, [], ◌∷◌, map, zip, flat_map, find, if◌then◌else◌}
use Rattle.std.specs.Option.{option_map_or}
use Rattle.record_model.specs.declared.view.View.{View}
use Rattle.zone_model.specs.declared.operations.Past.{Past}
use Rattle.zone_model.specs.declared.commits.Commit.{Commit}
use Rattle.zone_model.specs.declared.outcomes.Outcome.{Outcome}
use Rattle.zone_model.specs.Names.{same}
use Rattle.zone_model.specs.Views.{view_of}
use Rattle.zone_model.specs.Past.{name_history}
use Rattle.zone_model.specs.Requests.{Caller, NamedOp}
use Rattle.zone_model.specs.Judging.{judgement}
use Rattle.zone_model.specs.Effect.{Request}
use Rattle.zone_model.specs.Modifying.{is_judged_as_one, outcome_of, Step, steps}

-- the caller's view of the zone, and what has happened to the names that operations put
pub record OpSight : Type 0 where
  pub view : View
  pub pasts : List Past

-- What an answer may depend on: for a modify what is seen before the request and, where the zone is here and the operations are done one
-- after another, before each of them; and else the view.
pub data Sight : Type 0 where
  modifying : OpSight → List OpSight → Sight
  viewing : View → Sight

-- how often commits have put the name, as far as it is told
abbrev pub puts_seen : List Past → List ℕ → ℕ
puts_seen pasts x = option_map_or (λ (p : Past). p.puts) (find (λ (p : Past). same x p.name) pasts) 0

module _ (caller : Caller) (moment : ℕ) where
  abbrev pub op_sight : List Commit → List NamedOp → OpSight
  op_sight log ops = record { view = view_of log caller.user caller.scope caller.key; pasts = name_history log caller.key ops }

  -- before each of the operations, which are done one after another
  abbrev pub sights_of : List Commit → List NamedOp → List OpSight
  sights_of log ops = map (λ (s : Step). op_sight s.log (s.op ∷ [])) (steps caller moment log ops)

  -- a request as far as the caller sees the zone
  abbrev pub request_seen : OpSight → List NamedOp → Request
  request_seen s ops = record {
    caller = caller;
    moment = moment;
    seen = s.view.rows;
    rows = s.view.rows;
    puts = puts_seen s.pasts;
    ops = ops;
  }

  -- an outcome for each operation, by what was seen before all of them
  abbrev pub outcomes_as_one : OpSight → List NamedOp → List Outcome
  outcomes_as_one s ops = map (outcome_of (request_seen s ops)) (zip ops (judgement s.view s.pasts ops caller))

  -- or by what was seen before each of them
  abbrev pub outcomes_apart : List OpSight → List NamedOp → List Outcome
  outcomes_apart each ops = flat_map (λ (x : OpSight × NamedOp). outcomes_as_one x.0 (x.1 ∷ [])) (zip each ops)

  abbrev pub outcomes_by : Bool → OpSight → List OpSight → List NamedOp → List Outcome
  outcomes_by atomic before each ops = if is_judged_as_one caller.key atomic then outcomes_as_one before ops else outcomes_apart each ops
