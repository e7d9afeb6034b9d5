use Rattle.std.proofs.Common.{◌∙◌}
use Rattle.zone_model.specs.Events.{log_of}
use Rattle.zone_board.proofs.FoundLemmas.{taken}
use Rattle.zone_board.proofs.find.is_taken.Goals as goal

pub returns : goal.returns
returns c = c.is_some.ensures ∙ taken (λ r. r.now) c.args.key.now c.args.name.now (log_of c.args.events.now) c.args.commits.now _ c.last_after.result c.requires c.last_put-earlier.ensures c.last_after.ensures
