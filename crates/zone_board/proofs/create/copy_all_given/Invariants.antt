use Rattle.std.proofs.Common.{◌≡◌, ◌++◌, drop}
use Rattle.zone_board.specs.Creations.{given_fields}
use Rattle.zone_board.proofs.create.copy_all_given.Given as goal

abbrev pub invariant-loop-wish : goal.invariant-loop-wish
invariant-loop-wish l = l.fields.items ++ given_fields (drop l.wish-index l.wishes) ≡ given_fields l.wishes
