use Rattle.std.proofs.Common.{rules, ◌≡◌, true, map, Some, None, option_and_then}
use Rattle.serde_json.specs.Find.{as_array}
use Rattle.serde_json.specs.View.{view, items_of}
use Rattle.field_values.specs.Members.{found}
use Rattle.wire_calls.specs.Found.{has_one_member}
use Rattle.wire_calls.proofs.ReplyListLemmas.{is_listing, no_array}
use Rattle.wire_calls.proofs.list_read.listed.Goals as goal

pub returns-in-Some : goal.returns-in-Some
returns-in-Some c =
    let d = view c.args.json.now in
    let ds = map view c.as_slice.result.now in
    let one : has_one_member d ≡ true = search rules in
    let read : option_and_then as_array (found c.args.name.now d) ≡ Some (items_of ds) = search rules in
    is_listing c.args.name.now d ds one read

pub returns-in-None : goal.returns-in-None
returns-in-None c =
    let d = view c.args.json.now in
    let none : option_and_then as_array (found c.args.name.now d) ≡ None = search rules in
    no_array c.args.name.now d none
