use Rattle.ck_records.proofs.ReadsBackLemmas.{drafts_read_back}
use Rattle.ck_records.proofs.laws.drafts_read_back.Goals as goal

pub returns : goal.returns
returns c = drafts_read_back
