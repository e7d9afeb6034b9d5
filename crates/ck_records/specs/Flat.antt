-- The JSON of records and of drafts has no float and is not deep, so that its text tells it exactly.
use Rattle.std.specs.Prelude.{◌≡◌, ◌≤◌, ℕ, Bool, false, List}
use Rattle.serde_json.specs.Data.{depth}
use Rattle.serde_json.specs.Written.{has_float}
use Rattle.record_model.specs.declared.draft.Draft.{Draft}
use Rattle.record_model.specs.declared.records.Record.{Record}
use Rattle.ck_records.specs.DraftWriting.{draft_data}
use Rattle.record_model.specs.DraftForms.{IsMeantDraft}
use Rattle.record_model.specs.RecordForms.{IsStored}
use Rattle.ck_records.specs.Writing.{record_data}

-- the JSON of a record in the form in which a zone keeps it has no float, and nests at most five deep
pub record RecordsAreFlat : Type 0 where
  pub whole : (owner : List ℕ) (as_text : Bool) (r : Record) → IsStored r → has_float (record_data owner as_text r) ≡ false
  pub shallow : (owner : List ℕ) (as_text : Bool) (r : Record) → IsStored r → depth (record_data owner as_text r) ≤ 5

-- the same of a draft that some JSON means
pub record DraftsAreFlat : Type 0 where
  pub whole : (d : Draft) → IsMeantDraft d → has_float (draft_data d) ≡ false
  pub shallow : (d : Draft) → IsMeantDraft d → depth (draft_data d) ≤ 5

-- the JSON of any record has no float
abbrev pub RecordsHaveNoFloat : Type 0
RecordsHaveNoFloat = (owner : List ℕ) (as_text : Bool) (r : Record) → has_float (record_data owner as_text r) ≡ false
