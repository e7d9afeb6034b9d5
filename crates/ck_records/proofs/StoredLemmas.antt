-- Which record is read, and when none is.
use Rattle.std.proofs.Common.{◌≡◌, ◌↔◌, IsTrue, ℕ, Bool, true, false, List, Option, None, Some, sym, ap, subst, ◌∙◌}
use Rattle.serde_json.specs.Data.{Data}
use Rattle.field_values.specs.Exact.{IsExact}
use Rattle.record_model.specs.declared.records.Record.{Record}
use Rattle.record_model.specs.RecordForms.{IsStored}
use Rattle.ck_records.specs.Writing.{record_data}
use Rattle.ck_records.specs.Replied.{IsReplyOf}
use Rattle.ck_records.proofs.FlatLemmas.{record_exact}

-- something else is written for what was read
pub other_json : (owner : List ℕ) (as_text : Bool) (d w : Data) (shown r : Record) → (IsReplyOf owner as_text d r → Some shown ≡ Some r) → w ≡ record_data owner as_text shown
    → (same : Bool) → (IsExact w → (IsTrue same ↔ (d ≡ w))) → same ≡ false → IsReplyOf owner as_text d r → ⊥
other_json owner as_text d w shown r back writes same tells differs is =
    let one : r ≡ shown = cc (back is) in
    let exact : IsExact w = subst IsExact (ap (record_data owner as_text) one ∙ sym writes) (record_exact owner as_text r is.stored) in
    let found : same ≡ true = (tells exact).1 (sym is.written ∙ ap (record_data owner as_text) one ∙ sym writes) in
    cc (found, differs)

-- just that is written for the record
pub same_json : (owner : List ℕ) (as_text : Bool) (d w : Data) (r : Record) → IsStored r → w ≡ record_data owner as_text r
    → (same : Bool) → (IsExact w → (IsTrue same ↔ (d ≡ w))) → same ≡ true → IsReplyOf owner as_text d r
same_json owner as_text d w r stored writes same tells found =
    let exact : IsExact w = subst IsExact (sym writes) (record_exact owner as_text r stored) in
    record { stored = stored; written = sym ((tells exact).0 found ∙ writes) }
