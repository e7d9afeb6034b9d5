-- What holds of the lock between any two steps.
-- Its table has two words, the next ticket and the ticket that is served, and a slot with the value and the ticket for which it stands.
use Rattle.std.specs.Prelude.{◌≡◌, ◌≢◌, ◌⊎◌, ℕ, ◌+◌, ◌<◌, ◌≤◌, List, [], ◌∷◌, Option, Some}
use mathlib.Core.Option.{some, none}
use mathlib.Core.Option as maybe
use lib.ListN.{get_elem?}
use Rattle.atomic_table.specs.Table.{State}
use Rattle.zone_locks.specs.declared.rule.View.{View}
use Rattle.zone_locks.specs.declared.rule.Turned.{Turned}
use Rattle.zone_locks.specs.declared.rule.Stage.{Stage}
use Rattle.zone_locks.specs.declared.rule.Stage.TheVariants.{Idle, Waits, In, Back}
use Rattle.zone_locks.specs.Growing.{StartsWith, own, own_of, GrownBy}

abbrev pub HasTicket : Stage → ℕ → Type 0
HasTicket Idle n = ⊥
HasTicket (Waits k) n = k ≡ n
HasTicket (In k) n = k ≡ n
HasTicket (Back k) n = k ≡ n

abbrev pub IsIn : Stage → Type 0
IsIn (In k) = Unit {0}
IsIn _ = ⊥

abbrev pub HasPutBack : Stage → Type 0
HasPutBack (Back k) = Unit {0}
HasPutBack _ = ⊥

-- where a pass may stand: one that waits has a ticket that is not yet served, one inside has the ticket served, and has seen the whole list,
-- with the value out or back
abbrev pub Stands : {I : Type 0} → ℕ → ℕ → List I → List I → Stage → Type 0
Stands ticket serving log seen Idle = Unit {0}
Stands ticket serving log seen (Waits n) = (serving ≤ n) × (n < ticket)
Stands ticket serving log seen (In n) = (n ≡ serving) × (n < ticket) × (seen ≡ log)
Stands ticket serving log seen (Back n) = (n ≡ serving) × (n < ticket) × (seen ≡ log)

module _ {I : Type 0} where
  -- the first pass, whose seat is 0, as if it had made the items that were there
  abbrev pub first_view : List I → View I
  first_view items = record { seen = items; told = []; put = []; made = items; drawn = 0; stage = Idle; seat = Some 0 }

  -- what a pass knows is so: it has seen a front of the list, its last ticket is drawn, its seat is no later than that,
  -- and the items of its seat in the list are just those that it made, in order, all of which it has seen
  pub record Knows (seat_of : I → ℕ) (ticket serving : ℕ) (log : List I) (v : View I) : Type 0 where
    pub saw : StartsWith log v.seen
    pub heard : StartsWith log v.told
    pub drew : v.drawn ≤ ticket
    pub stands : Stands ticket serving log v.seen v.stage
    pub sits : (n : ℕ) → v.seat ≡ Some n → (n ≤ ticket) × (own seat_of n log ≡ own seat_of n v.seen)
    pub made : own_of seat_of v.seat log ≡ v.made

  -- no two passes have one ticket or one seat
  pub record Apart (v w : View I) : Type 0 where
    pub tickets : (n : ℕ) → HasTicket v.stage n → HasTicket w.stage n → ⊥
    pub seats : (n : ℕ) → v.seat ≡ Some n → w.seat ≡ Some n → ⊥

  abbrev pub AreApart : List (View I) → Type 0
  AreApart views = (i j : ℕ) (v w : View I) → i ≢ j → get_elem? views i ≡ some v → get_elem? views j ≡ some w → Apart v w

  -- each ticket that is drawn and not yet done is some pass's
  abbrev pub AllStand : ℕ → ℕ → List (View I) → Type 0
  AllStand ticket serving views = (n : ℕ) → serving ≤ n → n < ticket → (j : ℕ) × (v : View I) × (get_elem? views j ≡ some v) × HasTicket v.stage n

  -- the slot is out, with a pass that is inside
  abbrev pub IsAway : {T : Type 0} → List (maybe.Option (Option (Turned T))) → List (View I) → Type 0
  IsAway homes views = (homes ≡ none ∷ []) × ((j : ℕ) × (v : View I) × (get_elem? views j ≡ some v) × IsIn v.stage)

  -- some pass has seen the whole list, or was just told it by one that it met
  abbrev pub IsSeen : List I → List (View I) → Type 0
  IsSeen log views = (j : ℕ) × (v : View I) × (get_elem? views j ≡ some v) × ((v.seen ≡ log) ⊎ (v.told ≡ log))

  -- the pass is inside and has noted that it put back the list, which is the one before and then items of its seat
  pub record Noted (seat_of : I → ℕ) (before put : List I) (v : View I) : Type 0 where
    pub stands : HasPutBack v.stage
    pub put_is : v.put ≡ put
    pub seat : ℕ
    pub sits : v.seat ≡ Some seat
    pub grown : GrownBy seat_of seat before put

  module _ {T : Type 0} (items : T → List I) where
    -- the slot is at home, with the value for the ticket served, which stands for the whole list. Nobody is inside
    abbrev pub IsHome : List I → ℕ → List (maybe.Option (Option (Turned T))) → List (View I) → Type 0
    IsHome log serving homes views =
        (held : Turned T) × (homes ≡ some (Some held) ∷ []) × (items held.value ≡ log) × (held.turn ≡ serving)
        × ((j : ℕ) (v : View I) → get_elem? views j ≡ some v → (IsIn v.stage → ⊥) × (HasPutBack v.stage → ⊥))

    -- the slot is at home, with the value for the ticket after the one served. A pass inside has noted the list put back, which continues the log
    abbrev pub IsReturned : (I → ℕ) → List I → ℕ → List (maybe.Option (Option (Turned T))) → List (View I) → Type 0
    IsReturned seat_of log serving homes views =
        (held : Turned T) × (homes ≡ some (Some held) ∷ []) × (held.turn ≡ serving + 1)
        × ((j : ℕ) × (v : View I) × (get_elem? views j ≡ some v) × Noted seat_of log (items held.value) v)

    -- the rule. The log is the longest list that a pass has seen: each has seen a front of it, and some pass the whole, or was just told it
    pub record IsKept (seat_of : I → ℕ) (s : State (Option (Turned T)) (View I)) : Type 0 where
      pub ticket : ℕ
      pub serving : ℕ
      pub log : List I
      pub words : s.words ≡ ticket ∷ serving ∷ []
      pub order : serving ≤ ticket
      pub slot : IsHome log serving s.homes s.views ⊎ IsAway s.homes s.views ⊎ IsReturned seat_of log serving s.homes s.views
      pub each : (j : ℕ) (v : View I) → get_elem? s.views j ≡ some v → Knows seat_of ticket serving log v
      pub longest : IsSeen log s.views
      pub apart : AreApart s.views
      pub all_stand : AllStand ticket serving s.views
      pub unused : (n : ℕ) → ticket < n → own seat_of n log ≡ []
