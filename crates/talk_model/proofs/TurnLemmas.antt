-- One more ask, on any board.
use Rattle.std.proofs.Common.{◌≡◌, ◌≢◌, ℕ, zero, suc, ◌+◌, ◌-◌, ◌<◌, ◌≤◌, ◌++◌, List, [], ◌∷◌, length, drop, take, refl, sym, ap, ◌∙◌, subst, arith, append-nil, append_assoc, Bool, true, false, Some, None, Option, unwrap_or, nat_eq, length-append, eq-eqb, ne_eqb}
use Rattle.std.specs.Prelude.{if◌then◌else◌}
use Rattle.std.specs.List.{AllByRecursion}
use Rattle.std.proofs.lemmas.List.{drop-append-le, take_all, take_at}
use Rattle.std.proofs.lemmas.List.Elements.{filter-append}
use Rattle.std.proofs.Math.Seq.{drop-append_seam}
use mathlib.Core.Logic.{dite}
use native.Mathlib.Decide.{ℕ_discrete}
use Rattle.zone_model.specs.declared.events.Event.{Event}
use Rattle.zone_model.specs.declared.commits.Commit.{Commit}
use Rattle.zone_model.specs.Histories.{Histories, IsFront, Grows}
use Rattle.zone_model.specs.Events.{origin_of, own, own_of}
use Rattle.board_model.specs.declared.parts.Part.{Part}
use Rattle.board_model.specs.declared.answers.Answered.{Answered}
use Rattle.board_model.specs.Asks.{Append, stored, failed, sight, answer, event_of, made, makes, commits_by, append_in, told}
use Rattle.board_model.specs.Turns.{BoardState, HadTurn, IsAsked}
use Rattle.talk_model.specs.declared.marks.At.{At}
use Rattle.talk_model.specs.Marks.{IsLater, base_of, event_at, answer_at, IsAtOf, NotBefore}
use Rattle.talk_model.specs.Calls.{Ask}
use Rattle.talk_model.specs.Alone.{Storing, WentSo, made_alone, answer_alone}
use Rattle.talk_model.proofs.GrowthLemmas.{front-length, marked, marked_by, lengths_at, OwnAreMarked, TurnsAreMarked, marked-grown}
use Rattle.talk_model.proofs.MarkLemmas.{marked-snoc, lengths_at-snoc}

own-append : (n : ℕ) (xs ys : List Event) → own n (xs ++ ys) ≡ own n xs ++ own n ys
own-append n xs ys = filter-append (λ (e : Event). nat_eq (origin_of e).seat n) xs ys

left_nil : {A : Type 0} (xs ys : List A) → xs ++ ys ≡ [] → xs ≡ []
left_nil [] ys e = refl
left_nil (x ∷ xs) ys e = absurd (cc)

no_own-drop : (n k : ℕ) (xs : List Event) → own n xs ≡ [] → own n (drop k xs) ≡ []
no_own-drop n zero xs e = e
no_own-drop n (suc k) [] e = e
no_own-drop n (suc k) (x ∷ xs) e = no_own-drop n k xs (tail_none (nat_eq (origin_of x).seat n) refl e)
  where
    tail_none : (b : Bool) → nat_eq (origin_of x).seat n ≡ b → own n (x ∷ xs) ≡ [] → own n xs ≡ []
    tail_none true is h = absurd (cc (is, h))
    tail_none false is h = grind (arith, is, h)

some_is : (m n : ℕ) → Some m ≡ Some n → m ≡ n
some_is m n e = ap (λ (o : Option ℕ). unwrap_or o 0) e

-- what is made is one event or none
made-length : (append : Append) (seat : ℕ) (base : List Event) (cs : List Commit) → length (event_of append seat base cs) ≡ (if makes cs then 1 else 0)
made-length append seat base [] = refl
made-length stored seat base (c ∷ cs) = refl
made-length (failed from to) seat base (c ∷ cs) = refl

-- what is made is the seat's own
own-made : (append : Append) (seat : ℕ) (base : List Event) (cs : List Commit) → own seat (event_of append seat base cs) ≡ event_of append seat base cs
own-made append seat base [] = refl
own-made stored seat base (c ∷ cs) = rw (eq-eqb seat seat refl) refl
own-made (failed from to) seat base (c ∷ cs) = rw (eq-eqb seat seat refl) refl

-- where something is made, it tells what became of its append
same-made : (append other : Append) (seat : ℕ) (base : List Event) (cs : List Commit) (more : List Event)
    → (0 < length (event_of append seat base cs) → other ≡ append_in (event_of append seat base cs ++ more)) → event_of other seat base cs ≡ event_of append seat base cs
same-made append other seat base [] more e = refl
same-made stored other seat base (c ∷ cs) more e = ap (λ a. event_of a seat base (c ∷ cs)) (e (omega arith))
same-made (failed from to) other seat base (c ∷ cs) more e = ap (λ a. event_of a seat base (c ∷ cs)) (e (omega arith))

module _ (old new : BoardState) (lock : ℕ) where
  abbrev h : Histories Event
  h = old.histories

  abbrev h2 : Histories Event
  h2 = new.histories

  module _ (t : HadTurn old new lock) where
    turn_front : Grows h h2
    turn_front k = dite (ℕ_discrete k lock)
        (λ e. subst (λ j. IsFront (h j) (h2 j)) (sym e) (record { more = t.later ++ t.added; grown = t.new_is ∙ (ap (λ l. l ++ t.added) t.found ∙ append_assoc (h lock) t.later t.added) }))
        (λ ne. record { more = []; grown = (t.others k ne).history ∙ sym (append-nil (h k)) })

    turn_stays : (k n : ℕ) → old.seats k ≡ Some n → new.seats k ≡ Some n
    turn_stays k n e = dite (ℕ_discrete k lock)
        (λ same. ap new.seats same ∙ (t.sits ∙ ap (λ m. Some m) (sym (t.stays n (ap old.seats (sym same) ∙ e)))))
        (λ ne. (t.others k ne).seat ∙ e)

    turn_rises : (k : ℕ) → old.faults k ≤ new.faults k
    turn_rises k = dite (ℕ_discrete k lock)
        (λ same. subst (λ j. old.faults j ≤ new.faults j) (sym same) (omega (arith, t.since, t.until)))
        (λ ne. omega (arith, (t.others k ne).faults))

    -- a board after its turn is what it was later on
    pub turn_later : IsLater old new
    turn_later = record { grown = turn_front; stays = turn_stays; risen = turn_rises; still = t.still }

    -- the own events of a turn are those that it added
    pub own_at : (l : ℕ) → l ≤ length (h lock) → own t.seat t.added ≡ t.added → own_of (new.seats lock) (drop l (h2 lock)) ≡ own_of (old.seats lock) (drop l (h lock)) ++ t.added
    own_at l le mine =
        let whole : h2 lock ≡ (h lock ++ t.later) ++ t.added = t.new_is ∙ ap (λ x. x ++ t.added) t.found in
        let cut : drop l (h2 lock) ≡ (drop l (h lock) ++ t.later) ++ t.added =
        ap (drop l) whole ∙ (drop-append-le l (h lock ++ t.later) t.added (omega (arith, le, length-append (h lock) t.later)) ∙ ap (λ x. x ++ t.added) (drop-append-le l (h lock) t.later le)) in
        let split : own t.seat (drop l (h2 lock)) ≡ own t.seat (drop l (h lock)) ++ t.added =
        ap (own t.seat) cut ∙ (own-append t.seat (drop l (h lock) ++ t.later) t.added ∙ (ap (λ x. x ++ own t.seat t.added) (own-append t.seat (drop l (h lock)) t.later)
        ∙ (ap (λ x. (own t.seat (drop l (h lock)) ++ x) ++ own t.seat t.added) t.strange ∙ (ap (λ x. x ++ own t.seat t.added) (append-nil (own t.seat (drop l (h lock)))) ∙ ap (λ x. own t.seat (drop l (h lock)) ++ x) mine)))) in
        ap (λ (s : Option ℕ). own_of s (drop l (h2 lock))) t.sits ∙ (split ∙ ap (λ x. x ++ t.added) (before (old.seats lock) refl))
      where
        before : (was : Option ℕ) → old.seats lock ≡ was → own t.seat (drop l (h lock)) ≡ own_of (old.seats lock) (drop l (h lock))
        before (Some n) is = ap (λ k. own k (drop l (h lock))) (sym (t.stays n is)) ∙ ap (λ s. own_of s (drop l (h lock))) (sym is)
        before None is = no_own-drop t.seat l (h lock) (left_nil (own t.seat (h lock)) (own t.seat t.later) (sym (own-append t.seat (h lock) t.later) ∙ (ap (own t.seat) (sym t.found) ∙ t.fresh is))) ∙ ap (λ s. own_of s (drop l (h lock))) (sym is)

  module _ (part : Part) (answered : Answered) (k : IsAsked old new lock part answered) where
    abbrev t : HadTurn old new lock
    t = (k.had).turn

    abbrev its_commits : List Commit
    its_commits = commits_by lock t.base part

    abbrev its_ask : Ask
    its_ask = record { lock = lock; part = part }

    -- the trace of the ask
    abbrev pub at_of : At
    at_of = record { lock = lock; len = answered.len; event = answered.event }

    new_is : h2 lock ≡ t.base ++ made (k.had).append lock t.seat t.base part
    new_is = t.new_is ∙ ap (λ a. t.base ++ a) (k.had).added_is

    size : answered.len ≡ length t.base + (if answered.event then 1 else 0)
    size = k.len ∙ (ap length new_is ∙ (length-append t.base (made (k.had).append lock t.seat t.base part)
        ∙ ap (λ n. length t.base + n) (made-length (k.had).append t.seat t.base its_commits ∙ ap (λ (b : Bool). if b then 1 else 0) (sym k.event))))

    -- the base that the trace tells is what the ask found
    base-asked : base_of h2 at_of ≡ t.base
    base-asked =
        let shorter : answered.len - (if answered.event then 1 else 0) ≡ length t.base = omega (arith, size) in
        ap (λ n. take n (h2 lock)) shorter ∙ (ap (take (length t.base)) new_is ∙ take_at t.base (made (k.had).append lock t.seat t.base part) (length t.base) refl)

    abbrev event_or : Bool → List Event
    event_or b = if b then drop (answered.len - 1) (take answered.len (h2 lock)) else []

    -- the event that it tells is what the ask added
    event-asked : event_at h2 at_of ≡ t.added
    event-asked = by_made its_commits refl
      where
        by_made : (cs : List Commit) → its_commits ≡ cs → event_or answered.event ≡ t.added
        by_made [] is =
            let none : t.added ≡ [] = (k.had).added_is ∙ ap (event_of (k.had).append t.seat t.base) is in
            ap event_or (k.event ∙ ap makes is) ∙ sym none
        by_made (c ∷ cs) is =
            let event : answered.event ≡ true = k.event ∙ ap makes is in
            let len : answered.len ≡ length t.base + 1 = size ∙ ap (λ (b : Bool). length t.base + (if b then 1 else 0)) event in
            let before : answered.len - 1 ≡ length t.base = omega (arith, len) in
            ap event_or event ∙ (ap (λ n. drop n (take answered.len (h2 lock))) before
            ∙ (ap (drop (length t.base)) (take_all answered.len (h2 lock) (omega (arith, k.len)) ∙ t.new_is) ∙ drop-append_seam t.base t.added))

    -- the answer that the trace tells is the one that was given
    pub answer-asked : answer_at h2 at_of its_ask ≡ answered.answer
    answer-asked = (λ i. told (event-asked i) (answer lock (sight lock (base-asked i) part) part)) ∙ sym k.answer_is

    room : length (h lock) + (if answered.event then 1 else 0) ≤ answered.len
    room = omega (arith, size, ap length t.found, length-append (h lock) t.later)

    one_more : (n : ℕ) → n ≤ length (h lock) → answered.event ≡ true → n < answered.len
    one_more n le e = by_event answered.event room e
      where
        by_event : (b : Bool) → length (h lock) + (if b then 1 else 0) ≤ answered.len → b ≡ true → n < answered.len
        by_event true r e = omega (arith, le, r)
        by_event false r e = absurd (cc)

    pub is_at : (entry : BoardState) → IsLater entry old → IsAtOf entry new at_of its_ask
    is_at entry later =
        let entered : length (entry.histories lock) ≤ length (h lock) = front-length (entry.histories lock) (h lock) (later.grown lock) in
        record {
          seat = t.seat;
          append = (k.had).append;
          sits = t.sits;
          lock = refl;
          since_entry = omega (arith, room, entered);
          within = omega (arith, k.len);
          event = k.event ∙ ap (λ b. makes (commits_by lock b part)) (sym base-asked);
          event_is = take_all answered.len (h2 lock) (omega (arith, k.len)) ∙ (new_is ∙ ap (λ (b : List Event). b ++ made (k.had).append lock t.seat b part) (sym base-asked));
          fault = (t.faults, new.faults lock, omega (arith, later.risen lock, t.since), omega arith, (k.had).fault);
        }

    -- an ask whose length lies within what was there stands before
    pub not_before : (b : At) → b.len ≤ length (h b.lock) → NotBefore b at_of
    not_before b seen same =
        let here : length (h b.lock) ≡ length (h lock) = ap (λ (l : ℕ). length (h l)) same in
        (omega (arith, room, seen, here), one_more b.len (omega (arith, seen, here)))

    added_own : own t.seat t.added ≡ t.added
    added_own = ap (own t.seat) (k.had).added_is ∙ (own-made (k.had).append t.seat t.base its_commits ∙ sym (k.had).added_is)

    -- the trace of the ask names what the ask added
    names : marked_by lock h2 at_of ≡ t.added
    names = rw (eq-eqb lock lock refl) event-asked

    -- the own events beyond those at entry are the marked ones, with this ask's
    pub own_more : (entry : BoardState) (ats : List At) → IsLater entry old → AllByRecursion (λ (at : At). at.len ≤ length (h at.lock)) ats → OwnAreMarked entry old ats
        → OwnAreMarked entry new (ats ++ at_of ∷ [])
    own_more entry ats later within own_are j = dite (ℕ_discrete j lock) (λ e. subst (λ l. own_of (new.seats l) (drop (length (entry.histories l)) (h2 l)) ≡ marked l h2 (ats ++ at_of ∷ [])) (sym e) here) there
      where
        here : own_of (new.seats lock) (drop (length (entry.histories lock)) (h2 lock)) ≡ marked lock h2 (ats ++ at_of ∷ [])
        here =
            own_at t (length (entry.histories lock)) (front-length (entry.histories lock) (h lock) (later.grown lock)) added_own
            ∙ (ap (λ l. l ++ t.added) (own_are lock ∙ sym (marked-grown entry old new (turn_later t) lock ats within))
            ∙ (ap (λ l. marked lock h2 ats ++ l) (sym names) ∙ sym (marked-snoc lock h2 ats at_of)))

        there : j ≢ lock → own_of (new.seats j) (drop (length (entry.histories j)) (h2 j)) ≡ marked j h2 (ats ++ at_of ∷ [])
        there ne =
            let other : nat_eq lock j ≡ false = ne_eqb lock j (λ e. ne (sym e)) in
            let mine : own_of (new.seats j) (drop (length (entry.histories j)) (h2 j)) ≡ own_of (old.seats j) (drop (length (entry.histories j)) (h j)) = λ i. own_of ((t.others j ne).seat i) (drop (length (entry.histories j)) ((t.others j ne).history i)) in
            let ends : marked_by j h2 at_of ≡ [] = rw other refl in
            mine ∙ (own_are j ∙ (sym (marked-grown entry old new (turn_later t) j ats within)
            ∙ (sym (append-nil (marked j h2 ats)) ∙ (ap (λ l. marked j h2 ats ++ l) (sym ends) ∙ sym (marked-snoc j h2 ats at_of)))))

    -- an alone board adds what is made at all that is there, where the appends went as they did
    module _ (lone : old.alone ≡ true) (sits : old.seats lock ≡ Some 0) (final : Histories Event) (on : IsFront (h2 lock) (final lock)) (storing : Storing) (went : WentSo storing final) where
      base-alone : t.base ≡ h lock
      base-alone = t.found ∙ (ap (λ l. h lock ++ l) (t.whole lone).0 ∙ append-nil (h lock))

      abbrev alone_commits : List Commit
      alone_commits = commits_by lock (h lock) part

      added-alone : t.added ≡ event_of (k.had).append 0 (h lock) alone_commits
      added-alone = (k.had).added_is ∙ (λ i. made (k.had).append lock (sym (t.stays 0 sits) i) (base-alone i) part)

      made-alone : made_alone storing h its_ask ≡ t.added
      made-alone =
          let whole : final lock ≡ h lock ++ (t.added ++ on.more) = on.grown ∙ (ap (λ l. l ++ on.more) (t.new_is ∙ ap (λ l. l ++ t.added) base-alone) ∙ append_assoc (h lock) t.added on.more) in
          let behind : drop (length (h lock)) (final lock) ≡ t.added ++ on.more = ap (drop (length (h lock))) whole ∙ drop-append_seam (h lock) (t.added ++ on.more) in
          same-made (k.had).append (storing lock (length (h lock))) 0 (h lock) alone_commits on.more
          (λ some. went lock (length (h lock)) (omega (arith, some, ap length whole, length-append (h lock) (t.added ++ on.more), length-append t.added on.more, ap length added-alone))
          ∙ ap append_in (behind ∙ ap (λ l. l ++ on.more) added-alone))
          ∙ sym added-alone

      pub lone_adds : h2 lock ≡ h lock ++ made_alone storing h its_ask
      lone_adds = t.new_is ∙ (λ i. base-alone i ++ sym made-alone i)

      pub lone_answers : answered.answer ≡ answer_alone storing h its_ask
      lone_answers = k.answer_is ∙ (λ i. told (sym made-alone i) (answer lock (sight lock (base-alone i) part) part))

    -- its lock has had one ask more
    pub turns_more : (entry : BoardState) (ats : List At) → TurnsAreMarked entry old ats → TurnsAreMarked entry new (ats ++ at_of ∷ [])
    turns_more entry ats counted j = dite (ℕ_discrete j lock) (λ e. subst (λ l. new.turns l ≡ entry.turns l ++ lengths_at l (ats ++ at_of ∷ [])) (sym e) here) there
      where
        here : new.turns lock ≡ entry.turns lock ++ lengths_at lock (ats ++ at_of ∷ [])
        here =
            let one : lengths_at lock (ats ++ at_of ∷ []) ≡ lengths_at lock ats ++ answered.len ∷ [] =
            lengths_at-snoc lock ats at_of ∙ ap (λ (b : Bool). lengths_at lock ats ++ (if b then answered.len ∷ [] else [])) (eq-eqb lock lock refl) in
            (k.had).counted ∙ (λ i. counted lock i ++ sym k.len i ∷ []) ∙ append_assoc (entry.turns lock) (lengths_at lock ats) (answered.len ∷ []) ∙ ap (λ l. entry.turns lock ++ l) (sym one)

        there : j ≢ lock → new.turns j ≡ entry.turns j ++ lengths_at j (ats ++ at_of ∷ [])
        there ne =
            let none : lengths_at j (ats ++ at_of ∷ []) ≡ lengths_at j ats =
            lengths_at-snoc j ats at_of ∙ ap (λ (b : Bool). lengths_at j ats ++ (if b then answered.len ∷ [] else [])) (ne_eqb lock j (λ e. ne (sym e))) ∙ append-nil (lengths_at j ats) in
            (t.others j ne).turn ∙ counted j ∙ ap (λ l. entry.turns j ++ l) (sym none)
