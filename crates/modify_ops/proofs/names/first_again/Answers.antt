use Rattle.std.proofs.Common.{rules, ◌≡◌, ◌<◌, None, Some, length, take, sym}
use Rattle.zone_model.specs.GivenNames.{again}
use Rattle.modify_ops.proofs.LoopLemmas.{again_here, again_later}
use Rattle.modify_ops.proofs.names.first_again.Goals as goal

pub returns-in-Some : goal.returns-in-Some
returns-in-Some c =
    let ops = c.args.ops.now in
    let i = c.loop-place.place in
    let op = c.index-ops-place.result in
    let within : i < length ops = search rules in
    let is : again (take i ops) op ≡ Some c.in-Some.name.now = search rules in
    sym (again_here ops i op within c.index-ops-place.is c.in-Some.name.now is c.loop-place.invariant)

pub loop-place-preserved : goal.loop-place-preserved
loop-place-preserved c =
    let ops = c.args.ops.now in
    let i = c.loop-place.place in
    let op = c.index-ops-place.result in
    let within : i < length ops = search rules in
    let is : again (take i ops) op ≡ None = search rules in
    again_later ops i op within c.index-ops-place.is is c.loop-place.invariant
