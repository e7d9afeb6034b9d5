-- What a pass knows, and what taking the value tells it.
use Rattle.std.specs.Prelude.{◌≡◌, ℕ, ◌+◌, ◌≤◌, List, [], ◌∷◌, length, Option, Some, None, unwrap_or}
use Rattle.atomic_table.specs.Table.{Me}
use Rattle.atomic_table.specs.Seated.{TableId}
use Rattle.zone_locks.specs.declared.rule.View.{View}
use Rattle.zone_locks.specs.declared.rule.Turned.{Turned}
use Rattle.zone_locks.specs.declared.rule.Stage.{Stage}
use Rattle.zone_locks.specs.declared.rule.Stage.TheVariants.{Idle, Waits, In, Back}
use Rattle.zone_locks.specs.Growing.{StartsWith, own, own_of}

pub record Known (I : Type 0) : Type 0 where
  pub lock : TableId  -- the lock that the pass is of
  pub seen : List I  -- the longest list that the pass has seen
  pub seat : Option ℕ  -- the seat of its items: the first pass's is 0, any other has one from its first ticket on
  pub drawn : ℕ  -- one more than its last ticket, or 0
  pub turn : Option ℕ  -- its ticket, while it has the value

module _ {I : Type 0} where
  -- the first pass of a lock, whose value stands for this list
  abbrev pub first_pass : TableId → List I → Known I
  first_pass lock items = record { lock = lock; seen = items; seat = Some 0; drawn = 0; turn = None }

  -- a pass that has seen the same, and has no seat yet
  abbrev pub newcomer : Known I → Known I
  newcomer k = record { lock = k.lock; seen = k.seen; seat = None; drawn = 0; turn = None }

  -- the pass outside, once it has seen this list
  abbrev pub having_seen : List I → Known I → Known I
  having_seen items k = record { lock = k.lock; seen = items; seat = k.seat; drawn = k.drawn; turn = None }

  -- the pass has the value at its turn, which stands for the list found
  abbrev pub taking : ℕ → ℕ → List I → Known I → Known I
  taking ticket seat found k = record { lock = k.lock; seen = found; seat = Some seat; drawn = ticket + 1; turn = Some ticket }

  -- the pass has the value, which it took at that ticket for that seat when the list was so long
  abbrev pub HasTaken : Known I → ℕ → ℕ → ℕ → Type 0
  HasTaken k ticket seat found = (k.turn ≡ Some ticket) × (k.seat ≡ Some seat) × (found ≡ length k.seen)

  -- What a take tells of the pass before and after: the list found continues what it had seen, with nothing more of its own.
  -- Its ticket is a later one. Its seat is the one it had, or one more than its first ticket.
  pub record Took (seat_of : I → ℕ) (before after : Known I) (found : List I) (ticket seat count : ℕ) : Type 0 where
    pub continues : StartsWith found before.seen
    pub own_is : own seat_of seat found ≡ own_of seat_of before.seat before.seen
    pub counted : count ≡ length (own seat_of seat found)
    pub later : before.drawn ≤ ticket
    pub seat_is : seat ≡ unwrap_or before.seat (ticket + 1)
    pub after_is : after ≡ taking ticket seat found before

-- the ticket of a pass that has the value
abbrev pub turn_of : Stage → Option ℕ
turn_of Idle = None
turn_of (Waits ticket) = None
turn_of (In ticket) = Some ticket
turn_of (Back ticket) = None

-- between two calls a pass is outside and holds no slot, or has the value and holds the slot, which is empty
abbrev pub Rests : {S : Type 0} → Stage → List (ℕ × Option S) → Type 0
Rests Idle slots = slots ≡ []
Rests (Waits ticket) slots = ⊥
Rests (In ticket) slots = slots ≡ (0, None) ∷ []
Rests (Back ticket) slots = ⊥

module _ {T I : Type 0} where
  abbrev pub known : TableId → Me (Option (Turned T)) (View I) → Known I
  known lock me = record { lock = lock; seen = me.0.seen; seat = me.0.seat; drawn = me.0.drawn; turn = turn_of me.0.stage }

  -- a pass keeps the number of its seat, and how many items of it it has seen
  pub record IsSound (seat_of : I → ℕ) (number : Option ℕ) (count : ℕ) (me : Me (Option (Turned T)) (View I)) : Type 0 where
    pub rests : Rests me.0.stage me.1
    pub quiet : me.0.told ≡ []
    pub numbered : number ≡ me.0.seat
    pub counts : count ≡ length (own_of seat_of me.0.seat me.0.seen)
