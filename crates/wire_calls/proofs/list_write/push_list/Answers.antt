use Rattle.std.proofs.Common.{◌<◌, length, string_bytes, sym, ◌∙◌, arith}
use Rattle.serde_json.specs.View.{view}
use Rattle.wire_calls.proofs.ListTextLemmas.{left_more, read_more, text_more}
use Rattle.wire_calls.proofs.list_write.push_list.Goals as goal

pub loop-place-preserved : goal.loop-place-preserved
loop-place-preserved g c =
    let told = g.L.Entries.told in
    let xs = told c.args.list.now in
    let i = c.loop-place.place in
    let d = view c.in_ok-json.json in
    let es = told c.take_json.new.self in
    let within : i < length xs = omega (arith, c.loop-place-test.true, c.count-place-end.ensures) in
    let left = sym c.in_ok-json.ensures.json ∙ c.loop-place.invariant.left in
    record {
      text = text_more (string_bytes c.loop-place.text) (string_bytes c.push_json.new.text) _ (told c.loop-place.list) i d es c.loop-place.invariant.text c.in_ok-json.ensures.json c.in_ok-push_json.ensures.text;
      left = left_more xs i d es within left;
      read = read_more xs i d es within left c.loop-place.invariant.read c.in_ok-push_json.ensures.read;
    }
