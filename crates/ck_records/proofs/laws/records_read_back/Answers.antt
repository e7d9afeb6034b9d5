use Rattle.ck_records.proofs.ShowsBackLemmas.{records_read_back}
use Rattle.ck_records.proofs.laws.records_read_back.Goals as goal

pub returns : goal.returns
returns c = records_read_back
