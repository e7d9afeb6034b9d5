use Rattle.std.proofs.Common.{rules, ◌≡◌, false}
use Rattle.serde_json.specs.View.{view}
use Rattle.wire_calls.specs.Asked.{answers}
use Rattle.wire_calls.specs.Found.{IsEntryOf}
use Rattle.wire_calls.proofs.EntryLemmas.{some_is, another}
use Rattle.wire_calls.proofs.entry_read.read_entry.Goals as goal

pub returns-else-answers : goal.returns-else-answers
returns-else-answers c =
    let d = view c.args.json.now in
    let owner = c.args.here.now.owner in
    let entry = some_is (IsEntryOf owner c.args.numbers_as_strings d) c.in_ok-entry.field-0 c.in-Some.entry c.in_ok-entry.ensures c.in-Some.is in
    let unasked : answers c.args.asked.now c.in-Some.entry ≡ false = search rules in
    another owner c.args.numbers_as_strings c.args.asked.now d c.in-Some.entry entry unasked
