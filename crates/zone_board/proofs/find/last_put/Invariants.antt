use Rattle.std.proofs.Common.{◌≡◌, fold, drop}
use Rattle.std.specs.Prelude.{option_map}
use Rattle.zone_model.specs.Events.{log_of}
use Rattle.zone_model.specs.Options.{or_else}
use Rattle.plain_creates.specs.OnePuts.{put_by, last_put}
use Rattle.zone_board.proofs.find.last_put.Given as goal

abbrev pub invariant-loop-event : goal.invariant-loop-event
invariant-loop-event l = fold (λ last c. or_else (put_by l.key l.name c) last) (option_map (λ r. r.now) l.last) (log_of (drop l.event-index l.events)) ≡ last_put l.key l.name (log_of l.events)
