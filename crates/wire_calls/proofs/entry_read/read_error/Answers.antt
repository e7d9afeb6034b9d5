use Rattle.std.proofs.Common.{rules, ◌≡◌, None}
use Rattle.serde_json.specs.View.{view}
use Rattle.wire_calls.specs.Found.{IsFailed, IsConflict}
use Rattle.wire_calls.proofs.EntryLemmas.{none_is, no_error}
use Rattle.wire_calls.proofs.entry_read.read_error.Goals as goal

pub returns-in-None : goal.returns-in-None
returns-in-None c =
    let d = view c.args.json.now in
    let owner = c.args.here.now.owner in
    let not_failed : c.in_ok-error.field-0 ≡ None = search rules in
    let no_conflict : c.in_ok-name.field-0 ≡ None = search rules in
    no_error owner c.args.numbers_as_strings d (none_is (IsFailed d) c.in_ok-error.field-0 c.in_ok-error.ensures not_failed)
    (none_is (IsConflict owner c.args.numbers_as_strings d) c.in_ok-name.field-0 c.in_ok-name.ensures no_conflict)
