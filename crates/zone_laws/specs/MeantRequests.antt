-- What the laws ask of operations holds of those that a request has.
use Rattle.std.specs.Prelude.{◌≡◌, ℕ, Bool, true, false, List, [], map, filter_map, is_some}
use Rattle.std.specs.List.{AllByRecursion}
use Rattle.ck_base.specs.Guids.{IsGuid}
use Rattle.ck_base.specs.Names.{IsName}
use Rattle.zone_model.specs.declared.operations.Op.{Op}
use Rattle.zone_model.specs.declared.commits.Commit.{Commit}
use Rattle.zone_model.specs.Names.{has_twice}
use Rattle.zone_model.specs.Zones.{zone_at}
use Rattle.zone_model.specs.Requests.{Caller, NamedOp, puts_in, roots_in}
use Rattle.zone_model.specs.OpForms.{AreMeantOps}
use Rattle.zone_model.specs.Modifying.{commits_of_request}
use Rattle.zone_model.specs.Lawful.{MayFollowInTurn}
use Rattle.zone_laws.specs.Laws.{IsGivenPut}

-- the operation as a request has it, without the name and the GUID that it is done with
abbrev pub as_given : NamedOp → Op
as_given op = record { kind = op.kind; draft = op.draft }

abbrev pub AreNamed : List Op → List NamedOp → Type 0
AreNamed ops named = map as_given named ≡ ops

-- it has a name, and a GUID where it gives a root
pub record IsDrawn (op : NamedOp) : Type 0 where
  pub name : IsName op.name
  pub guid : is_some op.draft.for_root ≡ true → IsGuid op.guid

-- Of the operations of a request no two name one record, and no two puts give one root, whatever names are drawn; and once these
-- and the GUIDs are drawn its puts are as they are given. So what it commits may follow after any lawful log, where the zone is
-- there.
pub record MeantRequestsAreLawful : Type 0 where
  pub names : (ops : List Op) → AreMeantOps ops → has_twice (filter_map (λ (op : Op). op.draft.name) ops) ≡ false
  pub roots : (ops : List Op) (named : List NamedOp) → AreMeantOps ops → AreNamed ops named → has_twice (roots_in named) ≡ false
  pub puts : (ops : List Op) (named : List NamedOp) → AreMeantOps ops → AreNamed ops named → AllByRecursion IsDrawn named
      → AllByRecursion IsGivenPut (puts_in named)
  pub commits : (caller : Caller) (moment : ℕ) (log : List Commit) (atomic : Bool) (ops : List Op) (named : List NamedOp)
      → MayFollowInTurn [] log → (zone_at log caller.key).there ≡ true → AreMeantOps ops → AreNamed ops named
      → MayFollowInTurn log (commits_of_request caller moment log atomic named)
