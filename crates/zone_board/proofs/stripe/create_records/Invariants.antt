use Rattle.std.proofs.Common.{◌≤◌, drop, length}
use Rattle.zone_model.specs.Events.{log_of}
use Rattle.zone_board.proofs.OperationLemmas.{IsUnderWay}
use Rattle.zone_board.proofs.stripe.create_records.Given as goal

abbrev pub invariant-loop-op : goal.invariant-loop-op
invariant-loop-op l = IsUnderWay l.fn.asking (log_of l.events) l.ops (drop l.op-index l.ops) l.words (drop l.drawn l.words) l.commits.items l.outcomes.items × (l.drawn ≤ length l.words)
