use Rattle.std.proofs.Common.{◌≡◌, [], ◌∷◌, ◌++◌, map, take, arith, sym, ap, ◌∙◌}
use Rattle.std.proofs.lemmas.List.{take_all}
use Rattle.zone_model.specs.Judging.{fault_behind}
use Rattle.zone_judging.specs.Asked.{named, grounds_in}
use Rattle.zone_judging.proofs.JudgeLemmas.{faults_after, faults_start, faults_more}
use Rattle.zone_judging.proofs.judging.faults_of.Goals as goal

pub loop-op-preserved : goal.loop-op-preserved
loop-op-preserved g c =
    let ground = grounds_in g.V.Sees.rows c.args.g.now in
    let ops = c.args.g.now.ops.now in
    let at = c.loop-op.op-index in
    let count : c.len.result ≡ at = c.len.ensures ∙ c.loop-op.invariant.count in
    let fault : c.fault_behind-fault.result ≡ fault_behind ground (map named (take at ops)) (named c.op-item.result) =
    c.fault_behind-fault.ensures ∙ ap (λ n. fault_behind ground (map named (take n ops)) (named c.op-item.result)) count in
    record {
      count = omega (arith, c.in_ok-push.ensures.len, c.loop-op.invariant.count);
      told = c.in_ok-push.ensures.items
          ∙ ap (λ fs. fs ++ c.fault_behind-fault.result ∷ []) c.loop-op.invariant.told
          ∙ ap (λ f. faults_after ground [] (map named (take at ops)) ++ f ∷ []) fault
          ∙ ap (λ op. faults_after ground [] (map named (take at ops)) ++ fault_behind ground (map named (take at ops)) (named op) ∷ []) c.op-item.is
          ∙ sym (faults_more ground ops at c.op-item.result c.loop-op-test.true);
    }

pub returns : goal.returns
returns g c =
    let ground = grounds_in g.V.Sees.rows c.args.g.now in
    c.loop-op.invariant.told
    ∙ ap (λ ops. faults_after ground [] (map named ops)) (take_all c.loop-op.op-index c.args.g.now.ops.now c.loop-op-test.false)
    ∙ sym (faults_start ground (map named c.args.g.now.ops.now))
