-- One step keeps the rule.
use Rattle.std.proofs.Common.{◌≡◌, ◌≢◌, ◌⊎◌, ℕ, zero, suc, ◌+◌, ◌<◌, ◌≤◌, List, [], ◌∷◌, ◌++◌, set, sym, refl, ap, ◌∙◌, subst, inl, inr, arith, Option, Some, None, append-nil}
use mathlib.Core.Logic.{dite}
use mathlib.Core.Option.{none, some, some-ne-none, some-injective}
use mathlib.Core.Option as maybe
use native.Mathlib.Decide.{ℕ_discrete}
use lib.ListN.{get_elem?}
use Rattle.atomic_table.specs.Table.{State, Me, opening}
use Rattle.atomic_table.proofs.Lists.{set_again}
use Rattle.zone_locks.specs.declared.rule.View.{View}
use Rattle.zone_locks.specs.declared.rule.Turned.{Turned}
use Rattle.zone_locks.specs.declared.rule.Stage.{Stage}
use Rattle.zone_locks.specs.declared.rule.Stage.TheVariants.{Idle, Waits, In, Back}
use Rattle.zone_locks.specs.Growing.{StartsWith, own, own_of, GrownBy, after_front}
use Rattle.zone_locks.specs.Rules.{HasTicket, IsIn, HasPutBack, first_view, Apart, AreApart, Stands, Knows, IsSeen, Noted, IsHome, IsAway, IsReturned, IsKept}
use Rattle.zone_locks.specs.Steps.{seat_or, drew_view, entered_view, back_view, served_view}
use Rattle.zone_locks.proofs.ListLemmas.{begins_itself, begins_more, after_is, own-append, own_front, own_all, own_others, own_of_same}
use Rattle.zone_locks.proofs.ViewLemmas.{some_same, each_set, apart_set, stays, here_set, changes}

module _ {T I : Type 0} (items : T → List I) (seat_of : I → ℕ) where
  abbrev Slot : Type 0
  Slot = Option (Turned T)

  abbrev St : Type 0
  St = State Slot (View I)

  abbrev Sat : Type 0
  Sat = Me Slot (View I)

  abbrev Homes : Type 0
  Homes = List (maybe.Option Slot)

  abbrev Rule : St → Type 0
  Rule = IsKept items seat_of

  abbrev Where : List I → ℕ → Homes → List (View I) → Type 0
  Where log serving homes views = IsHome items log serving homes views ⊎ IsAway homes views ⊎ IsReturned items seat_of log serving homes views

  -- the start
  pub starts : (value : T) (h : Turned T) → h.value ≡ value → h.turn ≡ 0 → ((n : ℕ) → 0 < n → own seat_of n (items value) ≡ []) → own seat_of 0 (items value) ≡ items value → Rule (opening (0 ∷ 0 ∷ []) (Some h ∷ []) (first_view (items value)))
  starts value h is turn none_else all = record {
    ticket = 0;
    serving = 0;
    log = items value;
    words = refl;
    order = omega arith;
    slot = inl (h, refl, ap items is, turn, no_in);
    each = each;
    longest = (0, v, refl, inl refl);
    apart = apart;
    all_stand = λ n a b. absurd (omega arith);
    unused = none_else;
  }
    where
      v : View I
      v = first_view (items value)

      only : (j : ℕ) (u : View I) → get_elem? (first_view (items value) ∷ []) j ≡ some u → (j ≡ 0) × (first_view (items value) ≡ u)
      only zero u e = (refl, some-injective (first_view (items value)) u e)
      only (suc j) u e = absurd (some-ne-none u (sym e))

      no_in : (j : ℕ) (u : View I) → get_elem? (first_view (items value) ∷ []) j ≡ some u → (IsIn u.stage → ⊥) × (HasPutBack u.stage → ⊥)
      no_in j u e = ((λ h. subst (λ (x : View I). IsIn x.stage) (sym (only j u e).1) h), (λ h. subst (λ (x : View I). HasPutBack x.stage) (sym (only j u e).1) h))

      knows : Knows seat_of 0 0 (items value) (first_view (items value))
      knows = record { saw = begins_itself (items value); heard = (items value, refl); drew = omega arith; stands = tt; sits = λ n e. (omega (arith, some_same 0 n e), refl); made = all }

      each : (j : ℕ) (u : View I) → get_elem? (first_view (items value) ∷ []) j ≡ some u → Knows seat_of 0 0 (items value) u
      each j u e = subst (Knows seat_of 0 0 (items value)) (only j u e).1 knows

      apart : AreApart (first_view (items value) ∷ [])
      apart i j u w ne a b = absurd (ne ((only i u a).0 ∙ sym (only j w b).0))

  -- the slot is where it was, where a pass changes that has not come to it
  slot_stays : (log : List I) (serving : ℕ) (homes : Homes) (vs : List (View I)) (me : ℕ) (v w : View I) → get_elem? vs me ≡ some v → (IsIn v.stage → ⊥) → (HasPutBack v.stage → ⊥)
      → (IsIn w.stage → ⊥) → (HasPutBack w.stage → ⊥) → Where log serving homes vs → Where log serving homes (set vs me w)
  slot_stays log serving homes vs me v w at out out' still still' (inl h) = inl (h.0, h.1, h.2, h.3, each_set (λ u. (IsIn u.stage → ⊥) × (HasPutBack u.stage → ⊥)) vs me w (still, still') (λ j u ne e. h.4 j u e))
  slot_stays log serving homes vs me v w at out out' still still' (inr (inl a)) = inr (inl (a.0, stays (λ u. IsIn u.stage) vs me v w at out a.1))
  slot_stays log serving homes vs me v w at out out' still still' (inr (inr b)) = inr (inr (b.0, b.1, b.2, stays (λ u. Noted seat_of log (items b.0.value) u) vs me v w at (λ n. out' n.stands) b.3))

  -- the ticket of a pass that is inside
  in_ticket : (ticket serving : ℕ) (log seen : List I) (st : Stage) → Stands ticket serving log seen st → IsIn st → HasTicket st serving
  in_ticket ticket serving log seen Idle k h = h
  in_ticket ticket serving log seen (Waits m) k h = absurd h
  in_ticket ticket serving log seen (In m) k h = k.0
  in_ticket ticket serving log seen (Back m) k h = absurd h

  back_ticket : (ticket serving : ℕ) (log seen : List I) (st : Stage) → Stands ticket serving log seen st → HasPutBack st → HasTicket st serving
  back_ticket ticket serving log seen Idle k h = h
  back_ticket ticket serving log seen (Waits m) k h = absurd h
  back_ticket ticket serving log seen (In m) k h = absurd h
  back_ticket ticket serving log seen (Back m) k h = k.0

  module _ (s : St) (r : Rule s) (me : ℕ) (v : View I) (at : get_elem? s.views me ≡ some v) where
    -- a step that changes nothing
    pub same : Rule record { words = s.words; homes = s.homes; views = set s.views me v }
    same = subst (λ (vs : List (View I)). Rule record { words = s.words; homes = s.homes; views = vs }) (sym (set_again s.views me v at)) record {
      ticket = r.ticket;
      serving = r.serving;
      log = r.log;
      words = r.words;
      order = r.order;
      slot = r.slot;
      each = r.each;
      longest = r.longest;
      apart = r.apart;
      all_stand = r.all_stand;
      unused = r.unused;
    }

    -- the draw of the ticket
    pub draws_ticket : v.stage ≡ Idle → Rule record { words = (r.ticket + 1) ∷ r.serving ∷ []; homes = s.homes; views = set s.views me (drew_view v r.ticket) }
    draws_ticket idle = record {
      ticket = r.ticket + 1;
      serving = r.serving;
      log = r.log;
      words = refl;
      order = omega (arith, r.order);
      slot = slot_stays r.log r.serving s.homes s.views me v w at (λ h. subst (λ st. IsIn st) idle h) (λ h. subst (λ st. HasPutBack st) idle h) (λ x. x) (λ x. x) r.slot;
      each = each_set (Knows seat_of (r.ticket + 1) r.serving r.log) s.views me w knows (λ j u ne e. later u (r.each j u e));
      longest = changes (λ u. (u.seen ≡ r.log) ⊎ (u.told ≡ r.log)) s.views me v w at (λ x. x) r.longest;
      apart = apart_set s.views me w r.apart (λ j u ne e. apart j u (r.apart me j v u (λ x. ne (sym x)) at e) (r.each j u e) v.seat refl);
      all_stand = λ n a b. dite (ℕ_discrete n r.ticket) (λ e. (me, w, here_set s.views me v w at, sym e))
          (λ ne. stays (λ u. HasTicket u.stage n) s.views me v w at (λ h. subst (λ st. HasTicket st n) idle h) (r.all_stand n a (omega (arith, ne, b))));
      unused = λ n l. r.unused n (omega arith);
    }
      where
        w : View I
        w = drew_view v r.ticket

        later : (u : View I) → Knows seat_of r.ticket r.serving r.log u → Knows seat_of (r.ticket + 1) r.serving r.log u
        later u k = record { saw = k.saw; heard = k.heard; drew = omega (arith, k.drew); stands = later_stands u.seen u.stage k.stands; sits = λ n e. (omega (arith, (k.sits n e).0), (k.sits n e).1); made = k.made }
          where
            later_stands : (seen : List I) (st : Stage) → Stands r.ticket r.serving r.log seen st → Stands (r.ticket + 1) r.serving r.log seen st
            later_stands seen Idle h = tt
            later_stands seen (Waits n) h = (h.0, omega (arith, h.1))
            later_stands seen (In n) h = (h.0, omega (arith, h.1), h.2)
            later_stands seen (Back n) h = (h.0, omega (arith, h.1), h.2)

        mine : (was : Option ℕ) → v.seat ≡ was → own_of seat_of (seat_or (r.ticket + 1) was) r.log ≡ v.made
        mine (Some m) is = ap (λ o. own_of seat_of o r.log) (sym is) ∙ (r.each me v at).made
        mine None is = r.unused (r.ticket + 1) (omega arith) ∙ (ap (λ o. own_of seat_of o r.log) (sym is) ∙ (r.each me v at).made)

        knows : Knows seat_of (r.ticket + 1) r.serving r.log (drew_view v r.ticket)
        knows = record { saw = (r.each me v at).saw; heard = (r.each me v at).heard; drew = omega arith; stands = (r.order, omega arith); sits = sits v.seat refl; made = mine v.seat refl }
          where
            sits : (was : Option ℕ) → v.seat ≡ was → (n : ℕ) → seat_or (r.ticket + 1) was ≡ Some n → (n ≤ r.ticket + 1) × (own seat_of n r.log ≡ own seat_of n v.seen)
            sits (Some m) is n e = let k = (r.each me v at).sits n (is ∙ e) in (omega (arith, k.0), k.1)
            sits None is n e =
                let m : r.ticket + 1 ≡ n = some_same (r.ticket + 1) n e in
                let none : own seat_of n r.log ≡ [] = r.unused n (omega (arith, m)) in
                (omega (arith, m), none ∙ sym (own_front seat_of n r.log v.seen (r.each me v at).saw none))

        ticket_below : (u : View I) → (st : Stage) → Stands r.ticket r.serving r.log u.seen st → (n : ℕ) → r.ticket ≡ n → HasTicket st n → ⊥
        ticket_below u Idle k n e h = h
        ticket_below u (Waits m) k n e h = omega (arith, k.1, e, h)
        ticket_below u (In m) k n e h = omega (arith, k.1, e, h)
        ticket_below u (Back m) k n e h = omega (arith, k.1, e, h)

        apart : (j : ℕ) (u : View I) → Apart v u → Knows seat_of r.ticket r.serving r.log u → (was : Option ℕ) → v.seat ≡ was → Apart (drew_view v r.ticket) u
        apart j u a k was is = record { tickets = λ n x y. ticket_below u u.stage k.stands n x y; seats = seats was is }
          where
            seats : (was : Option ℕ) → v.seat ≡ was → (n : ℕ) → seat_or (r.ticket + 1) v.seat ≡ Some n → u.seat ≡ Some n → ⊥
            seats (Some m) is n e f = a.seats n (is ∙ (sym (ap (seat_or (r.ticket + 1)) is) ∙ e)) f
            seats None is n e f = let m : r.ticket + 1 ≡ n = some_same (r.ticket + 1) n (sym (ap (seat_or (r.ticket + 1)) is) ∙ e) in omega (arith, m, (k.sits n f).0)

    -- where mine is the ticket served, the value is at home
    pub at_home : (n : ℕ) → v.stage ≡ Waits n → n ≡ r.serving → IsHome items r.log r.serving s.homes s.views
    at_home n is here = home r.slot
      where
        -- nobody else has the ticket that is served
        nobody : (j : ℕ) (u : View I) → get_elem? s.views j ≡ some u → (u.stage ≡ Waits n → ⊥) → HasTicket u.stage r.serving → ⊥
        nobody j u e other has =
            let ne : me ≡ j → ⊥ = λ x. other (sym (ap (λ (y : View I). y.stage) (some-injective v u (sym at ∙ (ap (get_elem? s.views) x ∙ e)))) ∙ is) in
            (r.apart me j v u ne at e).tickets r.serving (subst (λ st. HasTicket st r.serving) (sym is) here) has

        home : Where r.log r.serving s.homes s.views → IsHome items r.log r.serving s.homes s.views
        home (inl h) = h
        home (inr (inl a)) =
            let b = a.1 in
            absurd (nobody b.0 b.1 b.2 (λ x. subst (λ st. IsIn st) x b.3) (in_ticket r.ticket r.serving r.log b.1.seen b.1.stage (r.each b.0 b.1 b.2).stands b.3))
        home (inr (inr c)) =
            let b = c.3 in
            absurd (nobody b.0 b.1 b.2 (λ x. subst (λ st. HasPutBack st) x b.3.stands) (back_ticket r.ticket r.serving r.log b.1.seen b.1.stage (r.each b.0 b.1 b.2).stands b.3.stands))

    -- the look that finds the own ticket served
    pub enters : (n : ℕ) → v.stage ≡ Waits n → n ≡ r.serving → Rule record { words = r.ticket ∷ r.serving ∷ []; homes = none ∷ []; views = set s.views me (entered_view v n r.log) }
    enters n is here = record {
      ticket = r.ticket;
      serving = r.serving;
      log = r.log;
      words = refl;
      order = r.order;
      slot = inr (inl (refl, (me, w, here_set s.views me v w at, tt)));
      longest = (me, w, here_set s.views me v w at, inl refl);
      each = each_set (Knows seat_of r.ticket r.serving r.log) s.views me w knows (λ j u ne e. r.each j u e);
      apart = apart_set s.views me w r.apart (λ j u ne e. apart u (r.apart me j v u (λ x. ne (sym x)) at e));
      all_stand = λ k a b. dite (ℕ_discrete n k) (λ e. (me, w, here_set s.views me v w at, e)) (λ ne. stays (λ u. HasTicket u.stage k) s.views me v w at (λ h. ne (subst (λ st. HasTicket st k) is h)) (r.all_stand k a b));
      unused = r.unused;
    }
      where
        w : View I
        w = entered_view v n r.log

        within : n < r.ticket
        within = (subst (Stands r.ticket r.serving r.log v.seen) is (r.each me v at).stands).1

        knows : Knows seat_of r.ticket r.serving r.log (entered_view v n r.log)
        knows = record { saw = begins_itself r.log; heard = (r.each me v at).heard; drew = (r.each me v at).drew; stands = (here, within, refl); sits = λ k e. (((r.each me v at).sits k e).0, refl); made = (r.each me v at).made }

        apart : (u : View I) → Apart v u → Apart (entered_view v n r.log) u
        apart u a = record { tickets = λ k x y. a.tickets k (subst (λ st. HasTicket st k) (sym is) x) y; seats = a.seats }

    -- inside, the slot is out
    pub is_out : (n : ℕ) → v.stage ≡ In n → s.homes ≡ none ∷ []
    is_out n is = away r.slot
      where
        away : Where r.log r.serving s.homes s.views → s.homes ≡ none ∷ []
        away (inl x) = absurd ((x.4 me v at).0 (subst (λ st. IsIn st) (sym is) tt))
        away (inr (inl x)) = x.0
        away (inr (inr x)) = absurd (elsewhere x.3)
          where
            here : HasTicket v.stage r.serving
            here = in_ticket r.ticket r.serving r.log v.seen v.stage (r.each me v at).stands (subst (λ st. IsIn st) (sym is) tt)

            elsewhere : {put : List I} → (j : ℕ) × (u : View I) × (get_elem? s.views j ≡ some u) × Noted seat_of r.log put u → ⊥
            elsewhere b =
                let ne : me ≡ b.0 → ⊥ = λ e. subst (λ st. HasPutBack st) (sym (ap (λ (y : View I). y.stage) (some-injective v b.1 (sym at ∙ (ap (get_elem? s.views) e ∙ b.2)))) ∙ is) b.3.stands in
                (r.apart me b.0 v b.1 ne at b.2).tickets r.serving here (back_ticket r.ticket r.serving r.log b.1.seen b.1.stage (r.each b.0 b.1 b.2).stands b.3.stands)

    -- the look that notes the list put back
    pub puts_back : (n m : ℕ) (h : Turned T) → v.stage ≡ In n → v.seat ≡ Some m → GrownBy seat_of m v.seen (items h.value) → h.turn ≡ n + 1
        → Rule record { words = r.ticket ∷ r.serving ∷ []; homes = some (Some h) ∷ []; views = set s.views me (back_view v n (items h.value)) }
    puts_back n m h is seat grown turn = record {
      ticket = r.ticket;
      serving = r.serving;
      log = r.log;
      words = refl;
      order = r.order;
      slot = inr (inr (h, refl, turn ∙ ap (λ k. k + 1) in_here.0, (me, w, here_set s.views me v w at, noted)));
      each = each_set (Knows seat_of r.ticket r.serving r.log) s.views me w knows (λ j u ne e. r.each j u e);
      longest = changes (λ u. (u.seen ≡ r.log) ⊎ (u.told ≡ r.log)) s.views me v w at (λ x. x) r.longest;
      apart = apart_set s.views me w r.apart (λ j u ne e. apart u (r.apart me j v u (λ x. ne (sym x)) at e));
      all_stand = λ k a b. changes (λ u. HasTicket u.stage k) s.views me v w at (λ x. subst (λ st. HasTicket st k) is x) (r.all_stand k a b);
      unused = r.unused;
    }
      where
        w : View I
        w = back_view v n (items h.value)

        in_here : (n ≡ r.serving) × (n < r.ticket) × (v.seen ≡ r.log)
        in_here = subst (Stands r.ticket r.serving r.log v.seen) is (r.each me v at).stands

        noted : Noted seat_of r.log (items h.value) (back_view v n (items h.value))
        noted = record { stands = tt; put_is = refl; seat = m; sits = seat; grown = subst (λ l. GrownBy seat_of m l (items h.value)) in_here.2 grown }

        knows : Knows seat_of r.ticket r.serving r.log (back_view v n (items h.value))
        knows = record { saw = (r.each me v at).saw; heard = (r.each me v at).heard; drew = (r.each me v at).drew; stands = in_here; sits = (r.each me v at).sits; made = (r.each me v at).made }

        apart : (u : View I) → Apart v u → Apart (back_view v n (items h.value)) u
        apart u a = record { tickets = λ k x y. a.tickets k (subst (λ st. HasTicket st k) (sym is) x) y; seats = a.seats }

    -- the value is back, and stands for the list that was noted
    pub at_back : (n : ℕ) → v.stage ≡ Back n → (held : Turned T) × (s.homes ≡ some (Some held) ∷ []) × (held.turn ≡ r.serving + 1) × Noted seat_of r.log (items held.value) v
    at_back n is = back r.slot
      where
        here : HasTicket v.stage r.serving
        here = back_ticket r.ticket r.serving r.log v.seen v.stage (r.each me v at).stands (subst (λ st. HasPutBack st) (sym is) tt)

        same_one : (j : ℕ) (u : View I) → get_elem? s.views j ≡ some u → HasTicket u.stage r.serving → u ≡ v
        same_one j u e has = dite (ℕ_discrete me j)
            (λ x. some-injective u v (sym e ∙ (sym (ap (get_elem? s.views) x) ∙ at)))
            (λ ne. absurd ((r.apart me j v u ne at e).tickets r.serving here has))

        back : Where r.log r.serving s.homes s.views → (held : Turned T) × (s.homes ≡ some (Some held) ∷ []) × (held.turn ≡ r.serving + 1) × Noted seat_of r.log (items held.value) v
        back (inl x) = absurd ((x.4 me v at).1 (subst (λ st. HasPutBack st) (sym is) tt))
        back (inr (inl x)) =
            let b = x.1 in
            let e : b.1 ≡ v = same_one b.0 b.1 b.2 (in_ticket r.ticket r.serving r.log b.1.seen b.1.stage (r.each b.0 b.1 b.2).stands b.3) in
            absurd (subst (λ st. IsIn st) (ap (λ (y : View I). y.stage) e ∙ is) b.3)
        back (inr (inr x)) =
            let b = x.3 in
            let e : b.1 ≡ v = same_one b.0 b.1 b.2 (back_ticket r.ticket r.serving r.log b.1.seen b.1.stage (r.each b.0 b.1 b.2).stands b.3.stands) in
            (x.0, x.1, x.2, subst (λ u. Noted seat_of r.log (items x.0.value) u) e b.3)

    -- the store that serves the next: the list put back is the log
    pub serves_value : (n : ℕ) → v.stage ≡ Back n → Rule record { words = r.ticket ∷ (n + 1) ∷ []; homes = s.homes; views = set s.views me (served_view v) }
    serves_value n is = record {
      ticket = r.ticket;
      serving = n + 1;
      log = v.put;
      words = refl;
      order = omega (arith, in_here.1);
      slot = inl (ready.0, ready.1, sym noted.put_is, ready.2 ∙ ap (λ k. k + 1) (sym in_here.0), each_set (λ u. (IsIn u.stage → ⊥) × (HasPutBack u.stage → ⊥)) s.views me w ((λ x. x), (λ x. x)) (λ j u ne e. not_in j u ne e));
      each = each_set (Knows seat_of r.ticket (n + 1) v.put) s.views me w knows (λ j u ne e. later u (apart_from j u ne e) (r.each j u e));
      longest = (me, w, here_set s.views me v w at, inl refl);
      apart = apart_set s.views me w r.apart (λ j u ne e. record { tickets = λ k x y. x; seats = (apart_from j u ne e).seats });
      all_stand = λ k a b. stays (λ u. HasTicket u.stage k) s.views me v w at (λ x. let e : n ≡ k = subst (λ st. HasTicket st k) is x in omega (arith, e, a)) (r.all_stand k (omega (arith, a, in_here.0)) b);
      unused = λ k l. own_log k (λ e. omega (arith, l, e, ((r.each me v at).sits noted.seat noted.sits).0)) ∙ r.unused k l;
    }
      where
        ready : (held : Turned T) × (s.homes ≡ some (Some held) ∷ []) × (held.turn ≡ r.serving + 1) × Noted seat_of r.log (items held.value) v
        ready = at_back n is

        noted : Noted seat_of r.log (items ready.0.value) v
        noted = ready.3

        added : List I
        added = noted.grown.0

        w : View I
        w = served_view v

        in_here : (n ≡ r.serving) × (n < r.ticket) × (v.seen ≡ r.log)
        in_here = subst (Stands r.ticket r.serving r.log v.seen) is (r.each me v at).stands

        log_is : v.put ≡ r.log ++ added
        log_is = noted.put_is ∙ noted.grown.1

        own_log : (k : ℕ) → k ≢ noted.seat → own seat_of k v.put ≡ own seat_of k r.log
        own_log k ne = ap (own seat_of k) log_is ∙ (own-append seat_of k r.log added ∙ (ap (λ l. own seat_of k r.log ++ l) (own_others seat_of noted.seat added noted.grown.2 k ne) ∙ append-nil (own seat_of k r.log)))

        apart_from : (j : ℕ) (u : View I) → j ≢ me → get_elem? s.views j ≡ some u → Apart v u
        apart_from j u ne e = r.apart me j v u (λ x. ne (sym x)) at e

        here : HasTicket v.stage r.serving
        here = back_ticket r.ticket r.serving r.log v.seen v.stage (r.each me v at).stands (subst (λ st. HasPutBack st) (sym is) tt)

        not_in : (j : ℕ) (u : View I) → j ≢ me → get_elem? s.views j ≡ some u → (IsIn u.stage → ⊥) × (HasPutBack u.stage → ⊥)
        not_in j u ne e = (
          (λ x. (apart_from j u ne e).tickets r.serving here (in_ticket r.ticket r.serving r.log u.seen u.stage (r.each j u e).stands x)),
          (λ x. (apart_from j u ne e).tickets r.serving here (back_ticket r.ticket r.serving r.log u.seen u.stage (r.each j u e).stands x)),
        )

        made : own_of seat_of v.seat v.put ≡ v.made ++ after_front v.seen v.put
        made =
            let more : after_front v.seen v.put ≡ added = ap (after_front v.seen) (log_is ∙ ap (λ l. l ++ added) (sym in_here.2)) ∙ after_is v.seen added in
            let mine : own seat_of noted.seat r.log ≡ v.made = sym (ap (λ o. own_of seat_of o r.log) noted.sits) ∙ (r.each me v at).made in
            ap (λ o. own_of seat_of o v.put) noted.sits ∙ (ap (own seat_of noted.seat) log_is ∙ (own-append seat_of noted.seat r.log added
            ∙ (ap (λ l. l ++ own seat_of noted.seat added) mine ∙ (ap (λ l. v.made ++ l) (own_all seat_of noted.seat added noted.grown.2) ∙ ap (λ l. v.made ++ l) (sym more)))))

        knows : Knows seat_of r.ticket (n + 1) v.put (served_view v)
        knows = record { saw = begins_itself v.put; heard = subst (λ l. StartsWith l v.told) (sym log_is) (begins_more v.told r.log added (r.each me v at).heard); drew = (r.each me v at).drew; stands = tt; sits = λ k e. (((r.each me v at).sits k e).0, refl); made = made }

        later : (u : View I) → Apart v u → Knows seat_of r.ticket r.serving r.log u → Knows seat_of r.ticket (n + 1) v.put u
        later u a k = record {
          saw = subst (λ l. StartsWith l u.seen) (sym log_is) (begins_more u.seen r.log added k.saw);
          heard = subst (λ l. StartsWith l u.told) (sym log_is) (begins_more u.told r.log added k.heard);
          drew = k.drew;
          stands = later_stands u.stage k.stands (λ x. a.tickets n (subst (λ st. HasTicket st n) (sym is) refl) x);
          sits = λ i e. ((k.sits i e).0, own_log i (λ x. a.seats noted.seat noted.sits (e ∙ ap Some x)) ∙ (k.sits i e).1);
          made = own_of_same seat_of r.log v.put u.seat (λ i e. own_log i (λ x. a.seats noted.seat noted.sits (e ∙ ap Some x))) ∙ k.made;
        }
          where
            later_stands : (st : Stage) → Stands r.ticket r.serving r.log u.seen st → (HasTicket st n → ⊥) → Stands r.ticket (n + 1) v.put u.seen st
            later_stands Idle x other = tt
            later_stands (Waits i) x other = (omega (arith, x.0, in_here.0, (λ (e : i ≡ n). other e)), x.1)
            later_stands (In i) x other = absurd (other (x.0 ∙ sym in_here.0))
            later_stands (Back i) x other = absurd (other (x.0 ∙ sym in_here.0))

    -- a pass that has no ticket learns, or is spent
    pub shifts : (w : View I) → v.stage ≡ Idle → w.stage ≡ Idle → Knows seat_of r.ticket r.serving r.log w → ((n : ℕ) → w.seat ≡ Some n → v.seat ≡ Some n) → IsSeen r.log (set s.views me w)
        → Rule record { words = s.words; homes = s.homes; views = set s.views me w }
    shifts w idle idle' knows sits longest = record {
      ticket = r.ticket;
      serving = r.serving;
      log = r.log;
      words = r.words;
      order = r.order;
      slot = slot_stays r.log r.serving s.homes s.views me v w at (λ h. subst (λ st. IsIn st) idle h) (λ h. subst (λ st. HasPutBack st) idle h) (λ h. subst (λ st. IsIn st) idle' h) (λ h. subst (λ st. HasPutBack st) idle' h) r.slot;
      longest = longest;
      each = each_set (Knows seat_of r.ticket r.serving r.log) s.views me w knows (λ j u ne e. r.each j u e);
      apart = apart_set s.views me w r.apart (λ j u ne e. record { tickets = λ n x y. subst (λ st. HasTicket st n) idle' x; seats = λ n x y. (r.apart me j v u (λ z. ne (sym z)) at e).seats n (sits n x) y });
      all_stand = λ n a b. stays (λ u. HasTicket u.stage n) s.views me v w at (λ h. subst (λ st. HasTicket st n) idle h) (r.all_stand n a b);
      unused = r.unused;
    }
