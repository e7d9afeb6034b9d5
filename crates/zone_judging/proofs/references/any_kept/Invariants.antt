use Rattle.std.proofs.Common.{◌≡◌, false, take}
use Rattle.std.specs.List.{list_any}
use Rattle.zone_judging.specs.Wishes.{is_kept_and}
use Rattle.zone_judging.specs.Holding.{refers}
use Rattle.zone_judging.proofs.references.any_kept.Given as goal

abbrev pub invariant-loop-field : goal.invariant-loop-field
invariant-loop-field g l = list_any (is_kept_and l.wishes (refers (g.T.RefTest.test l.test))) (take l.field-index l.fields) ≡ false
