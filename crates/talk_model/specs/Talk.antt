-- The bytes that are written for requests, as a function of the requests, their marks and the histories of the locks.
use Rattle.std.specs.Prelude.{ℕ, List, map, zip}
use Rattle.zone_model.specs.declared.events.Event.{Event}
use Rattle.zone_model.specs.Histories.{Histories}
use Rattle.talk_model.specs.declared.marks.Mark.{Mark}
use Rattle.talk_model.specs.Requests.{Meaning}
use Rattle.talk_model.specs.Calls.{text_at}
use Rattle.talk_model.specs.Marks.{step_behind}

-- the replies, one for each request, by what is to be done behind the asks of its mark
abbrev pub talk : List Meaning → List Mark → Histories Event → List (List ℕ)
talk wanted marks h = map (λ (p : Meaning × Mark). text_at p.0.close (step_behind h p.1 p.0)) (zip wanted marks)
