use Rattle.std.proofs.Common.{◌≡◌, map, take}
use Rattle.ck_records.specs.Shown.{as_wish}
use Rattle.ck_records.proofs.shown.with_values.Given as goal

abbrev pub invariant-loop-wish : goal.invariant-loop-wish
invariant-loop-wish l = map as_wish l.fields.items ≡ take l.wish-index l.wishes
