use Rattle.std.proofs.Common.{◌≡◌, None}
use Rattle.zone_model.specs.GivenNames.{again_at, first_of}
use Rattle.modify_ops.proofs.names.first_again.Given as goal

abbrev pub invariant-loop-place : goal.invariant-loop-place
invariant-loop-place l = first_of (again_at l.ops) l.place ≡ None
