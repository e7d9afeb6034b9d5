use Rattle.std.proofs.Common.{arith, ap, ◌∙◌}
use Rattle.std.proofs.lemmas.List.{drop_all, take_rest}
use Rattle.drawn_names.specs.Drawing.{drawn_name}
use Rattle.zone_model.specs.Events.{log_of}
use Rattle.zone_board.proofs.OperationLemmas.{draft_meant, ones_more, step, all_made}
use Rattle.zone_board.proofs.stripe.create_records.Goals as goal

pub create_record-requires-clause-puts : goal.create_record-requires-clause-puts
create_record-requires-clause-puts c = ones_more c.args.asking (log_of c.args.events.now) c.loop-op.commits.items c.requires.puts c.loop-op.invariant.0.formed

pub create_record-requires-clause-meant : goal.create_record-requires-clause-meant
create_record-requires-clause-meant c =
    draft_meant c.args.asking (log_of c.args.events.now) c.args.ops.now c.loop-op.op-index c.op-item.result c.args.words.now _ c.loop-op.commits.items c.loop-op.outcomes.items
    c.loop-op.invariant.0 c.loop-op-test.true c.op-item.is

pub loop-op-preserved : goal.loop-op-preserved
loop-op-preserved c =
    step c.args.asking (log_of c.args.events.now) c.args.ops.now c.loop-op.op-index c.op-item.result c.args.words.now c.loop-op.drawn c.words_for-drawn.result
    c.loop-op.commits.items c.create_record.new.commits.items c.loop-op.outcomes.items c.push.new.self.items c.in_ok-name.name c.in_ok-outcome.outcome
    c.loop-op.invariant.0 c.loop-op.invariant.1 c.loop-op-test.true c.op-item.is c.words_for-drawn.ensures.words
    (c.in_ok-name.ensures ∙ ap (drawn_name c.op-item.result) (take_rest c.args.words.now c.loop-op.drawn))
    c.in_ok-outcome.ensures.told c.in_ok-outcome.ensures.made c.in_ok-outcome.ensures.formed c.in_ok-push.ensures.items

pub returns-clause-made : goal.returns-clause-made
returns-clause-made c = (all_made c.args.asking (log_of c.args.events.now) c.args.ops.now c.args.words.now _ c.loop-op.commits.items c.loop-op.outcomes.items _ (drop_all c.loop-op.op-index c.args.ops.now (omega arith)) c.loop-op.invariant.0).0

pub returns-clause-told : goal.returns-clause-told
returns-clause-told c = (all_made c.args.asking (log_of c.args.events.now) c.args.ops.now c.args.words.now _ c.loop-op.commits.items c.loop-op.outcomes.items _ (drop_all c.loop-op.op-index c.args.ops.now (omega arith)) c.loop-op.invariant.0).1
