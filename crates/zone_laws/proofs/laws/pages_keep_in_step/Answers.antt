use Rattle.zone_laws.proofs.PageLaws.{page_in_step, page_is_view, page_within, page_onward}
use Rattle.zone_laws.proofs.RepeatLaws.{page_later}
use Rattle.zone_laws.proofs.laws.pages_keep_in_step.Goals as goal

pub returns : goal.returns
returns c = record { step = page_in_step; whole = page_is_view; limit = page_within; onward = page_onward; later = page_later }
