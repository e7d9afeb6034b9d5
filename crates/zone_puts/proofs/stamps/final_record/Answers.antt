use Rattle.std.proofs.Common.{◌∙◌}
use Rattle.zone_puts.proofs.StampLemmas.{final_as}
use Rattle.zone_puts.proofs.stamps.final_record.Goals as goal

pub returns : goal.returns
returns c = λ q gone told mark. c.left_marked-after.ensures ∙ final_as q gone c.args.row c.in_ok-stamped_row.stamped_row c.args.unmarked (c.in_ok-stamped_row.ensures q told) mark
