use Rattle.std.proofs.Common.{rules, ◌≡◌, ◌<◌, None, ◌+◌, ◌++◌, [], ◌∷◌, map, length, take, sym, subst, arith}
use Rattle.serde_json.specs.View.{view}
use Rattle.wire_calls.specs.ReplyLists.{IsEntryFor}
use Rattle.wire_calls.specs.Found.{AreEntriesFor}
use Rattle.wire_calls.proofs.EntryLemmas.{some_is, none_is}
use Rattle.wire_calls.proofs.ReplyListLemmas.{one_more, wrong_here, all_read}
use Rattle.wire_calls.proofs.list_read.read_entries.Goals as goal

pub loop-place-preserved : goal.loop-place-preserved
loop-place-preserved g c =
    let Is = g.R.EntryReader.is_asked c.args.reader.now in
    let write = g.R.EntryReader.entry_data c.args.reader.now in
    let wants = c.args.asked.now in
    let items = c.args.items.now in
    let i = c.loop-place.place in
    let a = c.index-asked-place.result in
    let v = c.index-items-place.result in
    let e = c.in-Some.entry in
    let within : i < length items = search rules in
    let within_wants : i < length wants = omega (arith, within, c.loop-place.invariant.count) in
    let is = some_is (IsEntryFor Is write a (view v)) c.in_ok-entry.entry e c.in_ok-entry.ensures c.in-Some.is in
    let pushed : c.push.new.self.items ≡ c.loop-place.entries.items ++ e ∷ [] = search rules in
    record {
      count = c.loop-place.invariant.count;
      so_far = subst (AreEntriesFor Is write (take (i + 1) wants) (map view (take (i + 1) items))) (sym pushed)
          (one_more Is write wants items c.loop-place.entries.items i a v within_wants within c.index-asked-place.is c.index-items-place.is c.loop-place.invariant.so_far e is);
    }

pub returns-in-None : goal.returns-in-None
returns-in-None g c =
    let Is = g.R.EntryReader.is_asked c.args.reader.now in
    let write = g.R.EntryReader.entry_data c.args.reader.now in
    let wants = c.args.asked.now in
    let items = c.args.items.now in
    let i = c.loop-place.place in
    let a = c.index-asked-place.result in
    let v = c.index-items-place.result in
    let within : i < length items = search rules in
    let within_wants : i < length wants = omega (arith, within, c.loop-place.invariant.count) in
    let absent : c.in_ok-entry.entry ≡ None = search rules in
    let none = none_is (IsEntryFor Is write a (view v)) c.in_ok-entry.entry c.in_ok-entry.ensures absent in
    wrong_here Is write wants items c.loop-place.entries.items i a v within_wants within c.index-asked-place.is c.index-items-place.is c.loop-place.invariant.so_far none

pub returns : goal.returns
returns g c =
    let Is = g.R.EntryReader.is_asked c.args.reader.now in
    let write = g.R.EntryReader.entry_data c.args.reader.now in
    let read = all_read Is write c.args.asked.now c.args.items.now c.loop-place.entries.items c.loop-place.place c.loop-place-test.false
    c.loop-place.invariant.count c.loop-place.invariant.so_far in
    subst (AreEntriesFor Is write c.args.asked.now (map view c.args.items.now)) (sym c.from_vec.ensures) read
