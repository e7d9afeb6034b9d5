use Rattle.std.proofs.Common.{◌≡◌, ap, ◌∙◌, arith}
use Rattle.std.specs.Prelude.{Ok, ok_or}
use Rattle.serde_json.specs.View.{view}
use Rattle.ck_records.proofs.LoopLemmas.{all_more}
use Rattle.modify_ops.specs.declared.fault.BadOps.TheVariants.{BadOp}
use Rattle.modify_ops.specs.Forms.{op_of}
use Rattle.zone_model.specs.OpForms.{IsMeantOp}
use Rattle.modify_ops.proofs.LoopLemmas.{one_longer, op_read}
use Rattle.modify_ops.proofs.form.read_each.Goals as goal

pub loop-item-preserved : goal.loop-item-preserved
loop-item-preserved c =
    let op = c.in_ok-read_op_at.field-0 in
    let read : Ok op ≡ ok_or (op_of c.args.here.now c.args.caller.now (view c.item-item.result)) (BadOp c.loop-item.item-index) =
    c.in_ok-read_op_at.ensures.op (λ e. cc e) ∙ ap (λ n. ok_or (op_of c.args.here.now c.args.caller.now (view c.item-item.result)) (BadOp n)) c.loop-item.invariant.place in
    record {
      place = omega (arith, c.loop-item.invariant.place);
      count = one_longer c.args.items.now c.loop-item.item-index c.item-item.result c.loop-item.ops.items c.push.new.self.items op c.loop-item-test.true c.in_ok-push.ensures.items c.loop-item.invariant.count;
      so_far = op_read c.args.here.now c.args.caller.now c.args.items.now c.loop-item.item-index c.item-item.result c.loop-item.ops.items c.loop-item-test.true c.item-item.is c.loop-item.invariant.so_far op c.push.new.self.items read c.in_ok-push.ensures.items;
      meant = all_more IsMeantOp c.loop-item.ops.items c.push.new.self.items op c.in_ok-push.ensures.items c.loop-item.invariant.meant c.in_ok-read_op_at.ensures.meant;
    }
