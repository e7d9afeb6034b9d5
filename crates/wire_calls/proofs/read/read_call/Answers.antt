use Rattle.std.proofs.Common.{rules, ◌≡◌, true, false, None, Some}
use Rattle.wire_calls.specs.Calls.{has_body}
use Rattle.wire_calls.proofs.MeansLemmas.{means_read, means_only, means_empty, only_empty, told_json, told_none, told_empty}
use Rattle.wire_calls.proofs.read.read_call.Goals as goal

pub returns-then-has_body-clause-means : goal.returns-then-has_body-clause-means
returns-then-has_body-clause-means c =
    let post : has_body c.args.route.now.operation ≡ true = search rules in
    means_read c.args.route.now c.args.caller.now c.args.body.now post c.read_with_body.result c.read_with_body.ensures.call c.read_with_body.ensures.json

pub returns-then-has_body-clause-only : goal.returns-then-has_body-clause-only
returns-then-has_body-clause-only c call m =
    let post : has_body c.args.route.now.operation ≡ true = search rules in
    means_only c.args.route.now c.args.caller.now c.args.body.now c.read_with_body.result post c.read_with_body.ensures.call call m

pub returns-then-has_body-clause-call : goal.returns-then-has_body-clause-call
returns-then-has_body-clause-call c d is =
    let post : has_body c.args.route.now.operation ≡ true = search rules in
    told_json c.args.route.now c.args.caller.now c.args.body.now c.read_with_body.result post c.read_with_body.ensures.call d is

pub returns-then-has_body-clause-none : goal.returns-then-has_body-clause-none
returns-then-has_body-clause-none c none =
    let post : has_body c.args.route.now.operation ≡ true = search rules in
    told_none c.args.route.now c.args.caller.now c.args.body.now c.read_with_body.result post (c.read_with_body.ensures.none none)

pub returns-else-has_body-clause-means : goal.returns-else-has_body-clause-means
returns-else-has_body-clause-means c =
    let get : has_body c.args.route.now.operation ≡ false = search rules in
    means_empty c.args.route.now c.args.caller.now c.args.body.now get c.read_without_body.result c.read_without_body.ensures.call

pub returns-else-has_body-clause-only : goal.returns-else-has_body-clause-only
returns-else-has_body-clause-only c call m =
    let get : has_body c.args.route.now.operation ≡ false = search rules in
    only_empty c.args.route.now c.args.caller.now c.args.body.now c.read_without_body.result get c.read_without_body.ensures.call call m

pub returns-else-has_body-clause-call : goal.returns-else-has_body-clause-call
returns-else-has_body-clause-call c d is =
    let get : has_body c.args.route.now.operation ≡ false = search rules in
    told_empty c.args.route.now c.args.caller.now c.args.body.now c.read_without_body.result get c.read_without_body.ensures.call (Some d)

pub returns-else-has_body-clause-none : goal.returns-else-has_body-clause-none
returns-else-has_body-clause-none c none =
    let get : has_body c.args.route.now.operation ≡ false = search rules in
    told_empty c.args.route.now c.args.caller.now c.args.body.now c.read_without_body.result get c.read_without_body.ensures.call None
