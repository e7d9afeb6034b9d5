use Rattle.std.proofs.Common.{rules, ◌≡◌, map, sym, ◌∙◌}
use Rattle.serde_json.specs.View.{view}
use Rattle.wire_calls.specs.Lists.{list_data}
use Rattle.wire_calls.proofs.ReplyListLemmas.{map_count, other_count}
use Rattle.wire_calls.proofs.list_read.read_listed.Goals as goal

pub returns-then-items-asked : goal.returns-then-items-asked
returns-then-items-asked g c =
    let Is = g.R.EntryReader.is_asked c.args.reader.now in
    let write = g.R.EntryReader.entry_data c.args.reader.now in
    let items = c.in-Some.items.now in
    let written : list_data c.args.name.now (map view items) ≡ view c.args.json.now = search rules in
    other_count Is write c.args.name.now c.args.asked.now (view c.args.json.now) (map view items) written (λ e. c.if-items-asked.true (sym (map_count view items) ∙ e))
