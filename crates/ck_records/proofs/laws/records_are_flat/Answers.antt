use Rattle.ck_records.proofs.FlatLemmas.{records_flat}
use Rattle.ck_records.proofs.DraftFlatLemmas.{drafts_flat}
use Rattle.ck_records.proofs.WholeLemmas.{records_whole}
use Rattle.ck_records.proofs.laws.records_are_flat.Goals as goal

pub returns-clause-records : goal.returns-clause-records
returns-clause-records c = records_flat

pub returns-clause-drafts : goal.returns-clause-drafts
returns-clause-drafts c = drafts_flat

pub returns-clause-whole : goal.returns-clause-whole
returns-clause-whole c owner as_text r = records_whole owner as_text r
