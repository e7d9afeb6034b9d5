-- Which record the JSON in a reply is.
use Rattle.std.specs.Prelude.{◌≡◌, ℕ, Bool, List}
use Rattle.serde_json.specs.Data.{Data}
use Rattle.record_model.specs.declared.records.Record.{Record}
use Rattle.ck_records.specs.Writing.{record_data}
use Rattle.record_model.specs.RecordForms.{IsStored}

-- it is what is written for the record, which has its form, in a zone of the owner
pub record IsReplyOf (owner : List ℕ) (as_text : Bool) (d : Data) (r : Record) : Type 0 where
  pub stored : IsStored r
  pub written : record_data owner as_text r ≡ d

-- no JSON is that of two records
abbrev pub RecordsReadBack : Type 0
RecordsReadBack = (owner : List ℕ) (as_text : Bool) (d : Data) (r s : Record) → IsReplyOf owner as_text d r → IsReplyOf owner as_text d s → r ≡ s
