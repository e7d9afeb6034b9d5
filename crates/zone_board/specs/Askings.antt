-- Who asks for creations in which zone, and what they come to.
use Rattle.std.specs.Prelude.{◌≡◌, ◌<◌, ◌^◌, ℕ, true, List, [], ◌∷◌}
use Rattle.ck_base.specs.declared.scope.Scope.TheVariants.{Private}
use Rattle.record_model.specs.declared.records.Record.{Record}
use Rattle.zone_model.specs.declared.operations.Op.{Op}
use Rattle.zone_model.specs.declared.commits.Commit.{Commit}
use Rattle.zone_model.specs.declared.outcomes.Modified.{Modified}
use Rattle.zone_model.specs.Names.{is_default}
use Rattle.zone_model.specs.Form.{IsKey}
use Rattle.zone_model.specs.Requests.{Caller, NamedOp}
use Rattle.zone_model.specs.Modifying.{modified_as_one, modified_apart}
use Rattle.plain_creates.specs.OnePuts.{commit_of_put}
use Rattle.zone_board.specs.declared.create.Asking.{Asking}

abbrev pub caller_of : Asking → Caller
caller_of asking = record { user = asking.user.now; scope = Private; key = asking.key.now }

-- the owner of a default zone asks
pub record IsOfOwner (asking : Asking) : Type 0 where
  pub by_owner : asking.user.now ≡ asking.key.now.owner
  pub in_default : is_default asking.key.now ≡ true
  pub named : IsKey asking.key.now
  pub in_time : asking.moment < 2 ^ 64

-- the commit that puts the record
abbrev pub commit_by : Asking → Record → Commit
commit_by asking row = commit_of_put asking.key.now asking.user.now asking.moment row

-- an operation that begins no share, with its name
abbrev pub with_name : Op → List ℕ → NamedOp
with_name op name = record { kind = op.kind; draft = op.draft; name = name; guid = [] }

-- what one operation with its name comes to
unfoldable pub one_done : Asking → List Commit → NamedOp → Modified
one_done asking log op = modified_as_one (caller_of asking) asking.moment log (op ∷ [])

-- what operations with their names come to, one after another
unfoldable pub all_done : Asking → List Commit → List NamedOp → Modified
all_done asking log ops = modified_apart (caller_of asking) asking.moment log ops
