use Rattle.std.proofs.Common.{◌≡◌, ◌∙◌, sym, ap, append-nil, rules}
use Rattle.std.specs.Prelude.{Ok, Err, None, Some}
use Rattle.ck_records.specs.Participants.{entry_of}
use Rattle.serde_json.specs.View.{view}
use Rattle.record_model.specs.DraftForms.{IsWanted}
use Rattle.ck_records.proofs.LoopLemmas.{all_more, entry_read, entry_refused}
use Rattle.ck_records.proofs.participants.read_entries.Goals as goal

pub returns-in_err-wanted-clause-entries : goal.returns-in_err-wanted-clause-entries
returns-in_err-wanted-clause-entries c = λ other.
    let fault = c.in_err-wanted.field-0.0 in
    let told : c.from_residual.result ≡ Err fault = search rules in
    let was : c.read_entry.result ≡ Err fault = c.in_err-wanted.was in
    let failed = sym (c.read_entry.ensures.entry (λ memory. other (cc (told, was, memory)))) ∙ was in
    told ∙ entry_refused entry_of c.args.items.now c.loop-item.item-index c.item-item.result fault c.loop-item.list.items c.loop-item-test.true c.item-item.is failed c.loop-item.invariant.so_far

pub loop-item-preserved-in_default : goal.loop-item-preserved-in_default
loop-item-preserved-in_default c =
    let none : c.in_ok-wanted.field-0 ≡ None = search rules in
    let read : Ok None ≡ entry_of (view c.item-item.result) = ap Ok (sym none) ∙ c.in_ok-wanted.ensures.entry (λ e. cc e) in
    record {
      so_far = entry_read entry_of c.args.items.now c.loop-item.item-index c.item-item.result None c.loop-item.list.items c.loop-item.list.items c.loop-item-test.true c.item-item.is read (sym (append-nil c.loop-item.list.items)) c.loop-item.invariant.so_far;
      meant = c.loop-item.invariant.meant;
    }

pub loop-item-preserved : goal.loop-item-preserved
loop-item-preserved c =
    let read : Ok (Some c.in-Some.wanted) ≡ entry_of (view c.item-item.result) = ap Ok (sym c.in-Some.is) ∙ c.in_ok-wanted.ensures.entry (λ e. cc e) in
    record {
      so_far = entry_read entry_of c.args.items.now c.loop-item.item-index c.item-item.result (Some c.in-Some.wanted) c.loop-item.list.items c.push.new.self.items c.loop-item-test.true c.item-item.is read c.in_ok-push.ensures.items c.loop-item.invariant.so_far;
      meant = all_more IsWanted c.loop-item.list.items c.push.new.self.items c.in-Some.wanted c.in_ok-push.ensures.items c.loop-item.invariant.meant (rw c.in-Some.is at c.in_ok-wanted.ensures.meant);
    }
