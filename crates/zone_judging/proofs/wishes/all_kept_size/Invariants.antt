use Rattle.std.proofs.Common.{◌≡◌, ◌-◌, ◌^◌, min, take}
use Rattle.std.specs.List.{sum_by}
use Rattle.zone_judging.specs.Wishes.{kept_size}
use Rattle.zone_judging.proofs.wishes.all_kept_size.Given as goal

abbrev pub invariant-loop-field : goal.invariant-loop-field
invariant-loop-field l = l.total ≡ min (sum_by (kept_size l.wishes) (take l.field-index l.fields)) (2 ^ 64 - 1)
