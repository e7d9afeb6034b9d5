-- The histories that a board keeps.
use Rattle.std.specs.Prelude.{ℕ, List, [], map, unwrap_or, true, Some}
use Rattle.std.specs.List.{slice_get}
use Rattle.zone_model.specs.declared.events.Event.{Event}
use Rattle.board_model.specs.Turns.{BoardState}
use Rattle.zone_board.specs.declared.stripe.Stripe.{Stripe}

-- the events of each lock, and the lengths at which it was asked
abbrev pub events_in : List Stripe → List (List Event)
events_in stripes = map (λ (s : Stripe). s.events.items) stripes

abbrev pub turns_in : List Stripe → List (List ℕ)
turns_in stripes = map (λ (s : Stripe). s.turns.items) stripes

-- the list of a lock, or none where there is no such lock
abbrev pub list_at : {X : Type 0} → List (List X) → ℕ → List X
list_at lists lock = unwrap_or (slice_get lists lock) []

-- the board of one thread, by the events of each lock and the lengths at which it was asked: it writes as seat 0, nobody else adds to its
-- histories, and it has no store, which never fails
abbrev pub solo : List (List Event) × List (List ℕ) → BoardState
solo s = record { histories = list_at s.0; seats = λ lock. Some 0; turns = list_at s.1; faults = λ lock. 0; alone = true }
