-- What each kind of step tells the pass that makes it.
use Rattle.std.specs.Prelude.{◌≡◌, ◌≢◌, ◌⊎◌, ℕ, ◌+◌, ◌≤◌, List, [], ◌∷◌, ◌++◌, Option, Some, None, unwrap_or}
use Rattle.atomic_table.specs.Table.{Me, Step, rest}
use Rattle.zone_locks.specs.declared.rule.View.{View}
use Rattle.zone_locks.specs.declared.rule.Turned.{Turned}
use Rattle.zone_locks.specs.declared.rule.Stage.TheVariants.{Idle, Waits, In, Back}
use Rattle.zone_locks.specs.Growing.{StartsWith, own, after_front, longer}

-- a pass: its view, and the slots that it holds
abbrev Sat : Type 0 → Type 0 → Type 0
Sat T I = Me (Option (Turned T)) (View I)

-- the seat, or the new one
abbrev pub seat_or : ℕ → Option ℕ → Option ℕ
seat_or new seat = Some (unwrap_or seat new)

module _ {I : Type 0} where
  -- a ticket is drawn. A pass without a seat has that number and 1
  abbrev pub drew_view : View I → ℕ → View I
  drew_view v n = record { seen = v.seen; told = v.told; put = v.put; made = v.made; drawn = n + 1; stage = Waits n; seat = seat_or (n + 1) v.seat }

  -- inside: the whole list is seen
  abbrev pub entered_view : View I → ℕ → List I → View I
  entered_view v n log = record { seen = log; told = v.told; put = v.put; made = v.made; drawn = v.drawn; stage = In n; seat = v.seat }

  -- the value is back, and the list put back is noted
  abbrev pub back_view : View I → ℕ → List I → View I
  back_view v n put = record { seen = v.seen; told = v.told; put = put; made = v.made; drawn = v.drawn; stage = Back n; seat = v.seat }

  -- outside: the list put back is seen, and what it has more the pass has made
  abbrev pub served_view : View I → View I
  served_view v = record { seen = v.put; told = v.told; put = []; made = v.made ++ after_front v.seen v.put; drawn = v.drawn; stage = Idle; seat = v.seat }

  -- a pass that has seen these, and has no ticket and no seat
  abbrev pub seer : List I → View I
  seer items = record { seen = items; told = []; put = []; made = []; drawn = 0; stage = Idle; seat = None }

  -- the one is told what the other has seen
  abbrev pub told_view : View I → View I → View I
  told_view v w = record { seen = v.seen; told = w.seen; put = v.put; made = v.made; drawn = v.drawn; stage = v.stage; seat = v.seat }

  -- and has seen the longer
  abbrev pub learned_view : View I → View I
  learned_view v = record { seen = longer v.seen v.told; told = []; put = v.put; made = v.made; drawn = v.drawn; stage = v.stage; seat = v.seat }

  module _ {T : Type 0} where
    -- drawn: a seat that is new has no items yet
    pub record Drew (seat_of : I → ℕ) (n : ℕ) (before after : Sat T I) : Type 0 where
      pub is : after ≡ (drew_view before.0 n, before.1)
      pub later : before.0.drawn ≤ n
      pub unused : before.0.seat ≡ None → own seat_of (n + 1) before.0.seen ≡ []

    -- where the word was the one expected, the ticket is drawn, and else nothing changed
    abbrev pub draws : (I → ℕ) → Step (Option (Turned T)) → Sat T I → ℕ → Sat T I → Type 0
    draws seat_of st before found after = (found ≡ st.first → Drew seat_of found before after) × (found ≢ st.first → after ≡ before)

    -- the value stands for this list, and for that ticket
    abbrev pub StandsFor : (T → List I) → Option (Turned T) → ℕ → List I → Type 0
    StandsFor items None n log = ⊥
    StandsFor items (Some held) n log = (items held.value ≡ log) × (held.turn ≡ n)

    -- inside, with the slot, whose list continues what was seen, with nothing more of the pass's own
    pub record Entered (items : T → List I) (seat_of : I → ℕ) (n : ℕ) (before after : Sat T I) : Type 0 where
      pub log : List I
      pub slot : Option (Turned T)
      pub is : after ≡ (entered_view before.0 n log, (0, slot) ∷ before.1)
      pub stands : StandsFor items slot n log
      pub continues : StartsWith log before.0.seen
      pub own_is : (k : ℕ) → before.0.seat ≡ Some k → own seat_of k log ≡ own seat_of k before.0.seen

    -- where the ticket served is its own the pass is inside, and else nothing changed
    abbrev pub looks : (T → List I) → (I → ℕ) → Step (Option (Turned T)) → Sat T I → ℕ → Sat T I → Type 0
    looks items seat_of st before found after = (before.0.stage ≡ Waits found → Entered items seat_of found before after) × (before.0.stage ≢ Waits found → after ≡ before)

    abbrev pub list_in : (T → List I) → Option (Turned T) → List I
    list_in items None = []
    list_in items (Some held) = items held.value

    abbrev pub list_held : (T → List I) → List (ℕ × Option (Turned T)) → List I
    list_held items [] = []
    list_held items (x ∷ xs) = list_in items x.1

    -- the slot is back, and the list in it noted
    abbrev pub notes : (T → List I) → Step (Option (Turned T)) → Sat T I → ℕ → Sat T I → Type 0
    notes items st before found after = (n : ℕ) → before.0.stage ≡ In n → after ≡ (back_view before.0 n (list_held items before.1), rest before.1)

    -- outside
    abbrev pub serves : Step (Option (Turned T)) → Sat T I → ℕ → Sat T I → Type 0
    serves st before found after = after ≡ (served_view before.0, before.1)

    -- one of the two lists begins the other, and the longer has nothing more of the pass's own
    pub record Learned (seat_of : I → ℕ) (before after : Sat T I) : Type 0 where
      pub is : after ≡ (learned_view before.0, before.1)
      pub alike : StartsWith before.0.seen before.0.told ⊎ StartsWith before.0.told before.0.seen
      pub own_is : (k : ℕ) → before.0.seat ≡ Some k → own seat_of k after.0.seen ≡ own seat_of k before.0.seen

    abbrev pub learns : (I → ℕ) → Step (Option (Turned T)) → Sat T I → ℕ → Sat T I → Type 0
    learns seat_of st before found after = Learned seat_of before after

    -- inside at that ticket, with the value out of the slot, which stands for the list found
    pub record IsInside (seat_of : I → ℕ) (n : ℕ) (found : List I) (before after : Sat T I) : Type 0 where
      pub is : after ≡ (entered_view before.0 n found, (0, None) ∷ [])
      pub continues : StartsWith found before.0.seen
      pub own_is : (k : ℕ) → before.0.seat ≡ Some k → own seat_of k found ≡ own seat_of k before.0.seen
