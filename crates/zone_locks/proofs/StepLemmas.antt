-- Each kind of step may be made.
use Rattle.std.proofs.Common.{◌≡◌, ◌⊎◌, ℕ, ◌+◌, ◌≤◌, eqb, nat_le, List, [], ◌∷◌, ◌++◌, length, get_or, set, sym, refl, ap, ◌∙◌, subst, ⊎_elim, inl, inr, arith, Option, Some, Bool, true, false, append-nil, append_assoc, leb-true, leb-false}
use Rattle.std.proofs.lemmas.List.{append_cancel_left}
use mathlib.Core.Logic.{dite}
use mathlib.Core.Option.{none, some, some-ne-none, some-injective}
use mathlib.Core.Option as maybe
use native.Mathlib.Decide.{ℕ_discrete, dec_le}
use lib.ListN.{get_elem?}
use prog.Atomic.{either}
use Rattle.atomic_table.specs.Table.{State, Me, Act, step, keeps, takes, gives, Valid, homes_after, carried_after, Allows, Splits, Joins, opening}
use Rattle.atomic_table.proofs.Lists.{set_else, set_again, at_snoc, at_longer, exchanged}
use Rattle.zone_locks.specs.declared.rule.View.{View}
use Rattle.zone_locks.specs.declared.rule.Turned.{Turned}
use Rattle.zone_locks.specs.declared.rule.Stage.{Stage}
use Rattle.zone_locks.specs.declared.rule.Stage.TheVariants.{Idle, Waits, In, Back}
use Rattle.zone_locks.specs.Growing.{StartsWith, own, AreOf, GrownBy, second_if}
use Rattle.zone_locks.specs.Rules.{IsIn, HasPutBack, first_view, Apart, AreApart, Stands, Knows, IsSeen, IsHome, IsAway, IsReturned, IsKept}
use Rattle.zone_locks.specs.Steps.{drew_view, entered_view, back_view, served_view, seer, told_view, learned_view, draws, looks, notes, serves, learns}
use Rattle.zone_locks.proofs.ListLemmas.{left_nil, begin_alike, front_whole, own-append, own_front, own_others, own_all}
use Rattle.zone_locks.proofs.ViewLemmas.{apart_back, here_set, changes}
use Rattle.zone_locks.proofs.RuleLemmas.{starts, same, draws_ticket, at_home, enters, is_out, puts_back, serves_value, shifts}

module _ {T I : Type 0} (items : T → List I) (seat_of : I → ℕ) where
  abbrev Slot : Type 0
  Slot = Option (Turned T)

  abbrev St : Type 0
  St = State Slot (View I)

  abbrev Sat : Type 0
  Sat = Me Slot (View I)

  abbrev Homes : Type 0
  Homes = List (maybe.Option Slot)

  abbrev Rule : St → Type 0
  Rule = IsKept items seat_of

  abbrev Where : List I → ℕ → Homes → List (View I) → Type 0
  Where log serving homes views = IsHome items log serving homes views ⊎ IsAway homes views ⊎ IsReturned items seat_of log serving homes views

  -- the words and the slot as they are
  module _ (me : ℕ) (m : Sat) (i : ℕ) (f : ℕ → ℕ) (then : ℕ → Sat → Type 0) where
    abbrev Goes : St → List ℕ → Homes → Type 0
    Goes s ws hs = (w : View I) × (a : Act Slot) × Valid hs m.1 a × Rule record { words = set ws i (f (get_or ws i 0)); homes = homes_after hs m.1 a; views = set s.views me w } × then (get_or ws i 0) (w, carried_after m.1 a)

  -- drawing
  pub draw_allowed : (slots me : ℕ) (m : Sat) (old : ℕ) → m.0.stage ≡ Idle → m.1 ≡ [] → Allows Rule slots me m 0 (λ n. either (eqb n old) (old + 1) n) (draws seat_of (step slots 0 old (old + 1) none) m)
  draw_allowed slots me m old idle empty s r long at fits =
      subst (λ ws. Goes me m 0 (λ n. either (eqb n old) (old + 1) n) (draws seat_of (step slots 0 old (old + 1) none) m) s ws s.homes) (sym r.words) (by_word (ℕ_discrete r.ticket old))
    where
      Aim : ℕ → Type 0
      Aim x = (w : View I) × (a : Act Slot) × Valid s.homes m.1 a × Rule record { words = x ∷ r.serving ∷ []; homes = homes_after s.homes m.1 a; views = set s.views me w } × draws seat_of (step slots 0 old (old + 1) none) m r.ticket (w, carried_after m.1 a)

      by_word : Dec (r.ticket ≡ old) → Aim (either (eqb r.ticket old) (old + 1) r.ticket)
      by_word d = exchanged r.ticket old (old + 1) Aim
          (λ e. (drew_view m.0 r.ticket, keeps, tt, subst (λ k. Rule record { words = (k + 1) ∷ r.serving ∷ []; homes = s.homes; views = set s.views me (drew_view m.0 r.ticket) }) e (draws_ticket items seat_of s r me m.0 at idle), ((λ _. record { is = refl; later = (r.each me m.0 at).drew; unused = λ _. own_front seat_of (r.ticket + 1) r.log m.0.seen (r.each me m.0 at).saw (r.unused (r.ticket + 1) (omega arith)) }), (λ ne. absurd (ne e)))))
          (λ ne. (m.0, keeps, tt, subst (λ ws. Rule record { words = ws; homes = s.homes; views = set s.views me m.0 }) r.words (same items seat_of s r me m.0 at), ((λ e. absurd (ne e)), (λ _. refl))))

  -- looking
  pub look_allowed : (slots me : ℕ) (m : Sat) (n : ℕ) → m.0.stage ≡ Waits n → Allows Rule slots me m 1 (λ x. x) (looks items seat_of (step slots 1 0 0 none) m)
  look_allowed slots me m n waits s r long at fits =
      subst (λ ws. Goes me m 1 (λ x. x) (looks items seat_of (step slots 1 0 0 none) m) s ws s.homes) (sym r.words) (by_turn (ℕ_discrete n r.serving))
    where
      Then : ℕ → Sat → Type 0
      Then = looks items seat_of (step slots 1 0 0 none) m

      ticket_is : Stage → ℕ
      ticket_is Idle = 0
      ticket_is (Waits k) = k
      ticket_is (In k) = k
      ticket_is (Back k) = k

      waits_for : (k : ℕ) → m.0.stage ≡ Waits k → n ≡ k
      waits_for k e = ap ticket_is (sym waits ∙ e)

      by_turn : Dec (n ≡ r.serving) → (w : View I) × (a : Act Slot) × Valid s.homes m.1 a × Rule record { words = r.ticket ∷ r.serving ∷ []; homes = homes_after s.homes m.1 a; views = set s.views me w } × Then r.serving (w, carried_after m.1 a)
      by_turn (yes e) =
          let h = at_home items seat_of s r me m.0 at n waits e in
          let x : Slot = Some h.0 in (
            entered_view m.0 n r.log,
            takes 0 x,
            ap (λ hs. get_elem? hs 0) h.1,
            subst (λ hs. Rule record { words = r.ticket ∷ r.serving ∷ []; homes = set hs 0 none; views = set s.views me (entered_view m.0 n r.log) }) (sym h.1) (enters items seat_of s r me m.0 at n waits e),
            (
              (λ is. record {
                log = r.log;
                slot = x;
                is = ap (λ k. (entered_view m.0 k r.log, (0, x) ∷ m.1)) e;
                stands = (h.2, h.3);
                continues = (r.each me m.0 at).saw;
                own_is = λ k k_is. ((r.each me m.0 at).sits k k_is).1;
              }),
              (λ other. absurd (other (waits ∙ ap Waits e))),
            ),
          )
      by_turn (no other) = (m.0, keeps, tt, subst (λ ws. Rule record { words = ws; homes = s.homes; views = set s.views me m.0 }) r.words (same items seat_of s r me m.0 at), ((λ is. absurd (other (waits_for r.serving is))), (λ _. refl)))

  -- noting what was put back
  note_back : (slots me : ℕ) (m : Sat) (n k : ℕ) (h : Turned T) → m.0.stage ≡ In n → m.1 ≡ (0, Some h) ∷ [] → m.0.seat ≡ Some k → GrownBy seat_of k m.0.seen (items h.value)
      → h.turn ≡ n + 1 → Allows Rule slots me m 1 (λ x. x) (notes items (step slots 1 0 0 none) m)
  note_back slots me m n k h is carries seat grown turn s r long at fits =
      subst (λ cs. Goes me (m.0, cs) 1 (λ x. x) (notes items (step slots 1 0 0 none) (m.0, cs)) s s.words s.homes) (sym carries)
      (subst (λ ws. Goes me (m.0, (0, Some h) ∷ []) 1 (λ x. x) (notes items (step slots 1 0 0 none) (m.0, (0, Some h) ∷ [])) s ws s.homes) (sym r.words) go)
    where
      stage_number : Stage → ℕ
      stage_number (In i) = i
      stage_number _ = 0

      go : (w : View I) × (a : Act Slot) × Valid s.homes ((0, Some h) ∷ []) a × Rule record { words = r.ticket ∷ r.serving ∷ []; homes = homes_after s.homes ((0, Some h) ∷ []) a; views = set s.views me w } × notes items (step slots 1 0 0 none) (m.0, (0, Some h) ∷ []) r.serving (w, carried_after ((0, Some h) ∷ []) a)
      go = (
        back_view m.0 n (items h.value),
        gives,
        tt,
        subst (λ hs. Rule record { words = r.ticket ∷ r.serving ∷ []; homes = set hs 0 (some (Some h)); views = set s.views me (back_view m.0 n (items h.value)) }) (sym (is_out items seat_of s r me m.0 at n is)) (puts_back items seat_of s r me m.0 at n k h is seat grown turn),
        (λ i e. ap (λ l. (back_view m.0 l (items h.value), [])) (ap stage_number (sym is ∙ e))),
      )

  pub note_allowed : (slots me : ℕ) (m : Sat) (v : View I) (n k : ℕ) (h : Turned T) → m ≡ (v, (0, Some h) ∷ []) → v.stage ≡ In n → v.seat ≡ Some k → GrownBy seat_of k v.seen (items h.value) → h.turn ≡ n + 1
      → Allows Rule slots me m 1 (λ x. x) (notes items (step slots 1 0 0 none) m)
  note_allowed slots me m v n k h is stage seat grown turn =
      subst (λ (x : Sat). Allows Rule slots me x 1 (λ y. y) (notes items (step slots 1 0 0 none) x)) (sym is) (note_back slots me (v, (0, Some h) ∷ []) n k h stage refl seat grown turn)

  -- serving the next
  pub serve_allowed : (slots me : ℕ) (m : Sat) (n : ℕ) → m.0.stage ≡ Back n → Allows Rule slots me m 1 (λ _. n + 1) (λ _. serves (step slots 1 (n + 1) 0 none) m (n + 1))
  serve_allowed slots me m n is s r long at fits =
      subst (λ ws. Goes me m 1 (λ _. n + 1) (λ _. serves (step slots 1 (n + 1) 0 none) m (n + 1)) s ws s.homes) (sym r.words)
      (served_view m.0, keeps, tt, serves_value items seat_of s r me m.0 at n is, refl)

  seer_knows : (ticket serving : ℕ) (log xs : List I) → StartsWith log xs → Knows seat_of ticket serving log (seer xs)
  seer_knows ticket serving log xs f = record { saw = f; heard = (log, refl); drew = omega arith; stands = tt; sits = λ n e. absurd (cc e); made = refl }

  -- a pass is split
  pub split_allowed : (me : ℕ) (v : View I) → Splits Rule me v v (seer v.seen)
  split_allowed me v s r at = subst (λ vs. Rule record { words = s.words; homes = s.homes; views = vs ++ seer v.seen ∷ [] }) (sym (set_again s.views me v at)) record {
    ticket = r.ticket;
    serving = r.serving;
    log = r.log;
    words = r.words;
    order = r.order;
    slot = slot r.slot;
    each = each;
    longest = (r.longest.0, r.longest.1, at_longer s.views (w ∷ []) r.longest.0 r.longest.1 r.longest.2, r.longest.3);
    apart = apart;
    all_stand = λ n a b. let h = r.all_stand n a b in (h.0, h.1, at_longer s.views (w ∷ []) h.0 h.1 h.2, h.3);
    unused = r.unused;
  }
    where
      w : View I
      w = seer v.seen

      knows : Knows seat_of r.ticket r.serving r.log (seer v.seen)
      knows = seer_knows r.ticket r.serving r.log v.seen (r.each me v at).saw

      each : (j : ℕ) (u : View I) → get_elem? (s.views ++ seer v.seen ∷ []) j ≡ some u → Knows seat_of r.ticket r.serving r.log u
      each j u e = ⊎_elim (λ x. r.each j u x) (λ x. subst (Knows seat_of r.ticket r.serving r.log) x knows) (at_snoc s.views (seer v.seen) u j e)

      seer_apart : (u : View I) → Apart (seer v.seen) u
      seer_apart u = record { tickets = λ n x y. x; seats = λ n x y. absurd (cc x) }

      apart : AreApart (s.views ++ seer v.seen ∷ [])
      apart i j u x ne a b = ⊎_elim
          (λ old. ⊎_elim (λ old'. r.apart i j u x ne old old') (λ new. subst (λ y. Apart u y) new (apart_back (seer v.seen) u (seer_apart u))) (at_snoc s.views (seer v.seen) x j b))
          (λ new. subst (λ y. Apart y x) new (seer_apart x))
          (at_snoc s.views (seer v.seen) u i a)

      slot : Where r.log r.serving s.homes s.views → Where r.log r.serving s.homes (s.views ++ seer v.seen ∷ [])
      slot (inl h) = inl (h.0, h.1, h.2, h.3, λ j u e. ⊎_elim (λ old. h.4 j u old) (λ new. ((λ x. subst (λ (y : View I). IsIn y.stage) (sym new) x), (λ x. subst (λ (y : View I). HasPutBack y.stage) (sym new) x))) (at_snoc s.views (seer v.seen) u j e))
      slot (inr (inl a)) = inr (inl (a.0, (a.1.0, a.1.1, at_longer s.views (seer v.seen ∷ []) a.1.0 a.1.1 a.1.2, a.1.3)))
      slot (inr (inr b)) = inr (inr (b.0, b.1, b.2, (b.3.0, b.3.1, at_longer s.views (seer v.seen ∷ []) b.3.0 b.3.1 b.3.2, b.3.3)))

  -- a pass takes in another
  -- one that was told nothing has seen the whole list
  seen_whole : (log : List I) (x : View I) → StartsWith log x.seen → x.told ≡ [] → (x.seen ≡ log) ⊎ (x.told ≡ log) → x.seen ≡ log
  seen_whole log x f quiet (inl e) = e
  seen_whole log x f quiet (inr e) = let empty : log ≡ [] = sym e ∙ quiet in left_nil x.seen f.0 (sym f.1 ∙ empty) ∙ sym empty

  pub join_allowed : (me : ℕ) (v : View I) (other : ℕ) (u : View I) → v.stage ≡ Idle → u.stage ≡ Idle → v.told ≡ [] → u.told ≡ []
      → Joins Rule me v other u (told_view v u) (seer [])
  join_allowed me v other u idle idle' quiet quiet' s r at ne at' = spends r1
    where
      w : View I
      w = told_view v u

      there : get_elem? s.views other ≡ some u
      there = sym (set_else s.views me other w ne) ∙ at'

      s1 : St
      s1 = record { words = s.words; homes = s.homes; views = set s.views me (told_view v u) }

      k : Knows seat_of r.ticket r.serving r.log v
      k = r.each me v at

      here : get_elem? (set s.views me (told_view v u)) me ≡ some (told_view v u)
      here = here_set s.views me v w at

      r1 : Rule record { words = s.words; homes = s.homes; views = set s.views me (told_view v u) }
      r1 = shifts items seat_of s r me v at (told_view v u) idle idle
          (record { saw = k.saw; heard = (r.each other u there).saw; drew = k.drew; stands = k.stands; sits = k.sits; made = k.made })
          (λ n e. e) (changes (λ y. (y.seen ≡ r.log) ⊎ (y.told ≡ r.log)) s.views me v w at (λ h. inl (seen_whole r.log v k.saw quiet h)) r.longest)

      -- what the one that is spent had seen the other was told
      passed_on : (log : List I) → StartsWith log u.seen → IsSeen log (set s.views me (told_view v u)) → IsSeen log (set (set s.views me (told_view v u)) other (seer []))
      passed_on log saw h = dite (ℕ_discrete h.0 other)
          (λ e. let is : h.1 ≡ u = some-injective h.1 u (sym h.2 ∙ (ap (get_elem? (set s.views me w)) e ∙ at')) in
          (me, w, set_else (set s.views me w) other me (seer []) (λ x. ne (sym x)) ∙ here, inr (seen_whole log u saw quiet' (subst (λ (y : View I). (y.seen ≡ log) ⊎ (y.told ≡ log)) is h.3))))
          (λ not_other. (h.0, h.1, set_else (set s.views me w) other h.0 (seer []) not_other ∙ h.2, h.3))

      spends : Rule record { words = s.words; homes = s.homes; views = set s.views me (told_view v u) }
          → Rule record { words = s.words; homes = s.homes; views = set (set s.views me (told_view v u)) other (seer []) }
      spends q = shifts items seat_of s1 q other u at' (seer []) idle' refl (seer_knows q.ticket q.serving q.log [] (q.log, refl)) (λ n e. absurd (cc e)) (passed_on q.log (q.each other u at').saw q.longest)

  -- what was told is seen
  learn_allowed : (slots me : ℕ) (m : Sat) → m.0.stage ≡ Idle → Allows Rule slots me m 0 (λ x. x) (learns seat_of (step slots 0 0 0 none) m)
  learn_allowed slots me m idle s r long at fits =
      subst (λ ws. Goes me m 0 (λ x. x) (learns seat_of (step slots 0 0 0 none) m) s ws s.homes) (sym r.words)
      (learned_view m.0, keeps, tt, subst (λ ws. Rule record { words = ws; homes = s.homes; views = set s.views me (learned_view m.0) }) r.words (shifts items seat_of s r me m.0 at (learned_view m.0) idle idle knows (λ n e. e) (changes (λ u. (u.seen ≡ r.log) ⊎ (u.told ≡ r.log)) s.views me m.0 (learned_view m.0) at (λ h. inl (learned_whole h)) r.longest)), record { is = refl; alike = alike; own_is = λ n e. sym (same_own (nat_le (length m.0.seen) (length m.0.told)) refl n e) ∙ (k.sits n e).1 })
    where
      k : Knows seat_of r.ticket r.serving r.log m.0
      k = r.each me m.0 at

      either_way : Dec (length m.0.seen ≤ length m.0.told) → StartsWith m.0.seen m.0.told ⊎ StartsWith m.0.told m.0.seen
      either_way (yes le) = inr (begin_alike r.log m.0.seen m.0.told k.saw.0 k.heard.0 k.saw.1 k.heard.1 le)
      either_way (no gt) = inl (begin_alike r.log m.0.told m.0.seen k.heard.0 k.saw.0 k.heard.1 k.saw.1 (omega (arith, gt)))

      alike : StartsWith m.0.seen m.0.told ⊎ StartsWith m.0.told m.0.seen
      alike = either_way (dec_le (length m.0.seen) (length m.0.told))

      learned_whole : (m.0.seen ≡ r.log) ⊎ (m.0.told ≡ r.log) → (learned_view m.0).seen ≡ r.log
      learned_whole h = by_length (nat_le (length m.0.seen) (length m.0.told)) refl h
        where
          by_length : (b : Bool) → nat_le (length m.0.seen) (length m.0.told) ≡ b → (m.0.seen ≡ r.log) ⊎ (m.0.told ≡ r.log) → second_if b m.0.seen m.0.told ≡ r.log
          by_length true is (inr e) = e
          by_length true is (inl e) = front_whole r.log m.0.told k.heard (omega (arith, ap length e, leb-true (length m.0.seen) (length m.0.told) is))
          by_length false is (inl e) = e
          by_length false is (inr e) = front_whole r.log m.0.seen k.saw (omega (arith, ap length e, leb-false (length m.0.seen) (length m.0.told) is))

      longer_saw : (b : Bool) → StartsWith r.log (second_if b m.0.seen m.0.told)
      longer_saw true = k.heard
      longer_saw false = k.saw

      same_own : (b : Bool) → nat_le (length m.0.seen) (length m.0.told) ≡ b → (n : ℕ) → m.0.seat ≡ Some n → own seat_of n r.log ≡ own seat_of n (second_if b m.0.seen m.0.told)
      same_own false is n e = (k.sits n e).1
      same_own true is n e =
          let t = begin_alike r.log m.0.seen m.0.told k.saw.0 k.heard.0 k.saw.1 k.heard.1 (leb-true (length m.0.seen) (length m.0.told) is) in
          let mid : own seat_of n m.0.told ≡ own seat_of n m.0.seen ++ own seat_of n t.0 = ap (own seat_of n) t.1 ∙ own-append seat_of n m.0.seen t.0 in
          let all : own seat_of n m.0.seen ++ (own seat_of n t.0 ++ own seat_of n k.heard.0) ≡ own seat_of n m.0.seen ++ [] =
          sym (append_assoc (own seat_of n m.0.seen) (own seat_of n t.0) (own seat_of n k.heard.0)) ∙ (ap (λ l. l ++ own seat_of n k.heard.0) (sym mid) ∙ (sym (own-append seat_of n m.0.told k.heard.0) ∙ (ap (own seat_of n) (sym k.heard.1) ∙ ((k.sits n e).1 ∙ sym (append-nil (own seat_of n m.0.seen)))))) in
          let nothing : own seat_of n t.0 ≡ [] = left_nil (own seat_of n t.0) (own seat_of n k.heard.0) (append_cancel_left (own seat_of n m.0.seen) _ _ all) in
          (k.sits n e).1 ∙ (sym (append-nil (own seat_of n m.0.seen)) ∙ (ap (λ l. own seat_of n m.0.seen ++ l) (sym nothing) ∙ sym mid))

      knows : Knows seat_of r.ticket r.serving r.log (learned_view m.0)
      knows = record {
        saw = longer_saw (nat_le (length m.0.seen) (length m.0.told));
        heard = (r.log, refl);
        drew = k.drew;
        stands = subst (λ st. Stands r.ticket r.serving r.log (learned_view m.0).seen st) (sym idle) tt;
        sits = λ n e. ((k.sits n e).0, same_own (nat_le (length m.0.seen) (length m.0.told)) refl n e);
        made = k.made;
      }

  pub learn_told : (slots me : ℕ) (m : Sat) (v u : View I) (held : List (ℕ × Slot)) → m ≡ (told_view v u, held) → v.stage ≡ Idle → Allows Rule slots me m 0 (λ x. x) (learns seat_of (step slots 0 0 0 none) m)
  learn_told slots me m v u held is idle = learn_allowed slots me m (ap (λ (y : Sat). y.0.stage) is ∙ idle)

  -- the lock is made
  pub start_allowed : (value about : T) (h : Turned T) (xs : List Slot) → xs ≡ Some h ∷ [] → about ≡ value → h.value ≡ value → h.turn ≡ 0 → AreOf seat_of 0 (items value)
      → Rule (opening (0 ∷ 0 ∷ []) xs (first_view (items about)))
  start_allowed value about h xs is same_value is' turn all =
      subst (λ (z : T × List Slot). Rule (opening (0 ∷ 0 ∷ []) z.1 (first_view (items z.0)))) (λ i. (sym same_value i, sym is i)) (starts items seat_of value h is' turn (λ n lt. own_others seat_of 0 (items value) all n (λ e. omega (arith, e, lt))) (own_all seat_of 0 (items value) all))
