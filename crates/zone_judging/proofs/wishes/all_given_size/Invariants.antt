use Rattle.std.proofs.Common.{◌≡◌, ◌-◌, ◌^◌, min, take}
use Rattle.std.specs.List.{sum_by}
use Rattle.zone_judging.specs.Wishes.{given_size}
use Rattle.zone_judging.proofs.wishes.all_given_size.Given as goal

abbrev pub invariant-loop-wish : goal.invariant-loop-wish
invariant-loop-wish l = l.total ≡ min (sum_by given_size (take l.wish-index l.wishes)) (2 ^ 64 - 1)
