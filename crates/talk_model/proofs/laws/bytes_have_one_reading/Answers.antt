use Rattle.talk_model.proofs.ConnectionLemmas.{one_reading, close_asked_more, bad_head_more, long_head_more, no_length_more, long_body_more, spent_more, not_built_more}
use Rattle.talk_model.proofs.laws.bytes_have_one_reading.Goals as goal

pub returns-clause-one : goal.returns-clause-one
returns-clause-one c t bytes v w e f = one_reading t bytes v w e f

pub returns-clause-close_asked : goal.returns-clause-close_asked
returns-clause-close_asked c t bytes more w = close_asked_more t bytes more w

pub returns-clause-bad_head : goal.returns-clause-bad_head
returns-clause-bad_head c t bytes more w = bad_head_more t bytes more w

pub returns-clause-head_too_long : goal.returns-clause-head_too_long
returns-clause-head_too_long c t bytes more w = long_head_more t bytes more w

pub returns-clause-no_length : goal.returns-clause-no_length
returns-clause-no_length c t bytes more w = no_length_more t bytes more w

pub returns-clause-body_too_long : goal.returns-clause-body_too_long
returns-clause-body_too_long c t bytes more w = long_body_more t bytes more w

pub returns-clause-spent : goal.returns-clause-spent
returns-clause-spent c t bytes more w = spent_more t bytes more w

pub returns-clause-not_built : goal.returns-clause-not_built
returns-clause-not_built c t bytes more w = not_built_more t bytes more w
