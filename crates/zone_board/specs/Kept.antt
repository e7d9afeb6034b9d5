-- What is kept of the history of a lock.
use Rattle.std.specs.Prelude.{◌≡◌, ℕ, List}
use Rattle.std.specs.List.{AllByRecursion}
use Rattle.ck_base.specs.declared.key.ZoneKey.{ZoneKey}
use Rattle.zone_model.specs.declared.commits.Commit.{Commit}
use Rattle.zone_model.specs.declared.events.Event.{Event}
use Rattle.zone_model.specs.Events.{log_of}
use Rattle.zone_model.specs.Form.{IsInForm}
use Rattle.zone_model.specs.Legal.{IsLegal}
use Rattle.plain_creates.specs.OnePuts.{IsOnePut}

-- the history is legal, and each of its commits puts one record
pub record IsKept (lock : ℕ) (events : List Event) : Type 0 where
  pub legal : IsLegal lock events
  pub puts : AllByRecursion IsOnePut (log_of events)

-- a commit in its form that puts one record in the zone
pub record IsCreation (key : ZoneKey) (c : Commit) : Type 0 where
  pub form : IsInForm c
  pub one : IsOnePut c
  pub zone : c.key ≡ key
