-- The commits of events, and whose events they are.
use Rattle.std.specs.Prelude.{ℕ, nat_eq, List, [], filter, Option, None, Some}
use Rattle.std.specs.List.{flat_map}
use Rattle.zone_model.specs.declared.commits.Commit.{Commit}
use Rattle.zone_model.specs.declared.events.Origin.{Origin}
use Rattle.zone_model.specs.declared.events.Event.{Event}
use Rattle.zone_model.specs.declared.events.Event.TheVariants.{Made, StoreFailed}

abbrev pub origin_of : Event → Origin
origin_of (Made origin commits) = origin
origin_of (StoreFailed origin before after) = origin

abbrev pub commits_of : Event → List Commit
commits_of (Made origin commits) = commits
commits_of (StoreFailed origin before after) = []

-- the commits of a history, in order
abbrev pub log_of : List Event → List Commit
log_of events = flat_map commits_of events

-- the events of a seat
abbrev pub own : ℕ → List Event → List Event
own seat events = filter (λ e. nat_eq (origin_of e).seat seat) events

-- the events of the seat that a board has, if it has one
abbrev pub own_of : Option ℕ → List Event → List Event
own_of None events = []
own_of (Some seat) events = own seat events
