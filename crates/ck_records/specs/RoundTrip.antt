-- What is written is read as what it was.
use Rattle.std.specs.Prelude.{◌≡◌, ℕ, List, Ok}
use Rattle.ck_base.specs.declared.key.ZoneKey.{ZoneKey}
use Rattle.record_model.specs.declared.draft.Draft.{Draft}
use Rattle.ck_records.specs.Reading.{draft_of}
use Rattle.ck_records.specs.DraftWriting.{draft_data}
use Rattle.record_model.specs.DraftForms.{IsMeantDraft}

-- the JSON of a draft that some JSON means is read as the draft, in each zone and by each caller
abbrev pub DraftsReadBack : Type 0
DraftsReadBack = (here : ZoneKey) (caller : List ℕ) (d : Draft) → IsMeantDraft d → draft_of here caller (draft_data d) ≡ Ok d
