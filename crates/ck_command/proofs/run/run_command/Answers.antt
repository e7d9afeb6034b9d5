use Rattle.ck_command.proofs.EndingLemmas.{two_at_wrong_words, three_at_no_table}
use Rattle.ck_command.proofs.run.run_command.Goals as goal

pub returns-clause-words : goal.returns-clause-words
returns-clause-words g c = two_at_wrong_words _ _ _ _ _ c.run-ending.result _ c.run-ending.ensures c.status.ensures.status

pub returns-clause-table : goal.returns-clause-table
returns-clause-table g c = three_at_no_table _ _ _ _ _ c.run-ending.result _ c.run-ending.ensures c.status.ensures.status
