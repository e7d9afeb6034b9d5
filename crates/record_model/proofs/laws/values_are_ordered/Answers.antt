use Rattle.record_model.proofs.OrderProofs.{values_linear, values_by_kinds}
use Rattle.record_model.proofs.laws.values_are_ordered.Goals as goal

pub returns-clause-linear : goal.returns-clause-linear
returns-clause-linear c = values_linear

pub returns-clause-by_kinds : goal.returns-clause-by_kinds
returns-clause-by_kinds c = values_by_kinds
