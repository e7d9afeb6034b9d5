use Rattle.std.proofs.Common.{rules, ◌≡◌, Some}
use Rattle.serde_json.specs.View.{view}
use Rattle.ck_base.specs.Names.{IsName}
use Rattle.wire_calls.specs.Found.{entry_name, IsServer}
use Rattle.wire_calls.proofs.EntryLemmas.{some_is, just_conflict, other_conflict}
use Rattle.wire_calls.proofs.entry_read.read_conflict.Goals as goal

pub returns-then-branch : goal.returns-then-branch
returns-then-branch c =
    let name = c.in-Some.name in
    let named : IsName name = search rules in
    let server = some_is (IsServer c.args.here.now.owner c.args.numbers_as_strings (view c.args.json.now)) c.in_ok-server.field-0 c.in-Some-2.server c.in_ok-server.ensures c.in-Some-2.is in
    just_conflict c.args.here.now.owner c.args.numbers_as_strings (view c.args.json.now) name c.in-Some-2.server (view c.in_ok-written.written) c.in_ok-written.ensures
    c.in_ok-same_json.field-0 c.in_ok-same_json.ensures named server c.if-branch.true

pub returns-else-branch : goal.returns-else-branch
returns-else-branch c =
    let name = c.in-Some.name in
    let read : entry_name (view c.args.json.now) ≡ Some name = search rules in
    let server = some_is (IsServer c.args.here.now.owner c.args.numbers_as_strings (view c.args.json.now)) c.in_ok-server.field-0 c.in-Some-2.server c.in_ok-server.ensures c.in-Some-2.is in
    other_conflict c.args.here.now.owner c.args.numbers_as_strings (view c.args.json.now) name c.in-Some-2.server (view c.in_ok-written.written) c.in_ok-written.ensures
    c.in_ok-same_json.field-0 c.in_ok-same_json.ensures read server c.if-branch.false
