use Rattle.std.proofs.Common.{map}
use Rattle.std.specs.List.{zip}
use Rattle.talk_model.specs.Calls.{found_entry}
use Rattle.ck_server.proofs.ReplyLemmas.{next_entry, past_names, past_items}
use Rattle.ck_server.proofs.replies.lookup_entries.Goals as goal

pub loop-name-preserved : goal.loop-name-preserved
loop-name-preserved c =
    next_entry (found_entry c.args.keys.now) c.args.names.now (map (found_entry c.args.keys.now) (zip c.args.names.now c.args.records)) c.loop-name.entries c.loop-name.name-index c.loop-name.rest c.loop-name.invariant
    c.push.new.self c.name-item.result c.in-Some.found c.pop.new.self c.in_ok-lookup_entry.field-0 c.loop-name-test.true c.name-item.is c.in-Some.ensures c.in_ok-lookup_entry.ensures c.in_ok-push.ensures.ok

pub returns : goal.returns
returns c = past_names (found_entry c.args.keys.now) c.args.names.now _ c.loop-name.entries c.loop-name.name-index c.loop-name.rest c.loop-name.invariant c.loop-name-test.false

pub returns-in_default : goal.returns-in_default
returns-in_default c = past_items (found_entry c.args.keys.now) c.args.names.now _ c.loop-name.entries c.loop-name.name-index c.loop-name.rest c.loop-name.invariant c.in_default.ensures.0
