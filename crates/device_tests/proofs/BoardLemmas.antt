-- A board behind the zone lock.
use Rattle.std.proofs.Common.{◌≡◌, ◌≢◌, ◌+◌, ℕ, unwrap_or, ◌==◌, Bool, true, false, List, [], ◌∷◌, ◌++◌, Option, Some, None, Result, Ok, Err, IfOk, IfErr, OnErr, refl, sym, ap, ◌∙◌, subst, arith, append-nil, ne_eqb, eqb-true, cond}
use Rattle.std.proofs.lemmas.List.{append_cancel_left}
use mathlib.Core.Logic.{inl, inr}
use Rattle.zone_locks.specs.Passes.{Known, Took, having_seen}
use Rattle.zone_locks.specs.Growing.{AreOf, GrownBy, own_of as own_at}
use Rattle.zone_locks.proofs.ListLemmas.{own-append}
use Rattle.zone_model.specs.declared.commits.Commit.{Commit}
use Rattle.zone_model.specs.declared.events.Event.{Event}
use Rattle.zone_model.specs.Events.{own}
use Rattle.zone_model.specs.Legal.{IsLegal}
use Rattle.board_model.specs.declared.parts.Part.{Part}
use Rattle.board_model.specs.declared.parts.Part.TheVariants.{Modify, Lookup}
use Rattle.board_model.specs.declared.answers.Answered.{Answered}
use Rattle.board_model.specs.Asks.{Append, stored, failed, sight, answer, event_of, made, makes, commits_by, told}
use Rattle.board_model.specs.Turns.{BoardState, AreLegal, HadTurn, IsAsked, MayHaveAsked, TellsFault}
use Rattle.zone_board.specs.declared.board.AskFault.{AskFault}
use Rattle.zone_board.specs.Stripes.{list_at, solo}
use Rattle.device_tests.specs.LockedBoards.{seat_in, looks_up, WasAnswered, HadPassTurn, AskedAt, SawAt, only_there, at_lock}

-- ---- the board that is kept

pub false_true : false ≡ true → ⊥
false_true e = cc (e)

own_made : (append : Append) (seat : ℕ) (events : List Event) (cs : List Commit) → AreOf seat_in seat (event_of append seat events cs)
own_made append seat events [] = tt
own_made stored seat events (c ∷ cs) = (refl, tt)
own_made (failed from to) seat events (c ∷ cs) = (refl, tt)

no_more : {A : Type 0} (xs ys : List A) → ys ≡ [] → xs ++ ys ≡ xs
no_more xs ys e = ap (λ l. xs ++ l) e ∙ append-nil xs

abbrev number_of : Option ℕ → ℕ
number_of (Some n) = n
number_of None = 0

was_answered : (old new : List (List Event) × List (List ℕ)) (part : Part) (answered : Answered) → IsAsked (solo old) (solo new) 13 part answered
    → WasAnswered 0 (list_at old.0 13) (list_at new.0 13) part answered
was_answered old new part answered a =
    let t = a.had.turn in
    let base_is : t.base ≡ list_at old.0 13 = t.found ∙ no_more (list_at old.0 13) t.later (t.whole refl).0 in
    let seat_is : t.seat ≡ 0 = ap number_of (sym t.sits) in
    let added_is : t.added ≡ made a.had.append 13 0 (list_at old.0 13) part =
    a.had.added_is ∙ (ap (λ n. made a.had.append 13 n t.base part) seat_is ∙ ap (λ l. made a.had.append 13 0 l part) base_is) in
    record {
      append = a.had.append;
      fault = subst (λ n. TellsFault a.had.append n 0) (t.whole refl).1 a.had.fault;
      after_is = t.new_is ∙ (ap (λ l. l ++ t.added) base_is ∙ ap (λ l. list_at old.0 13 ++ l) added_is);
      len = a.len;
      event = a.event ∙ ap (λ l. makes (commits_by 13 l part)) base_is;
      answer_is = a.answer_is ∙ (ap (λ l. told l (answer 13 (sight 13 t.base part) part)) added_is
          ∙ ap (λ l. told (made a.had.append 13 0 (list_at old.0 13) part) (answer 13 (sight 13 l part) part)) base_is);
    }

-- a board that was asked adds as its seat
pub grown_asked : (seat : ℕ) (before after : List Event) (part : Part) (answered : Answered) → WasAnswered seat before after part answered → GrownBy seat_in seat before after
grown_asked seat before after part answered w = (made w.append 13 seat before part, w.after_is, own_made w.append seat before (commits_by 13 before part))

pub grown_same : (seat : ℕ) (before after : List Event) → after ≡ before → GrownBy seat_in seat before after
grown_same seat before after e = ([], e ∙ sym (append-nil before), tt)

-- what is made where nothing is made is made as any seat
as_any : (seat : ℕ) (before after : List Event) (part : Part) (a : Answered) → looks_up part ≡ true → WasAnswered 0 before after part a → WasAnswered seat before after part a
as_any seat before after (Modify user scope key atomic ops moment words) a is w = absurd (false_true is)
as_any seat before after (Lookup user scope key names) a is w = record { append = w.append; fault = w.fault; after_is = w.after_is; len = w.len; event = w.event; answer_is = w.answer_is }

by_seat : (seat : ℕ) (before after : List Event) (part : Part) (a : Answered) (zeroth : Bool) → (seat == 0) ≡ zeroth → (zeroth ≡ false → looks_up part ≡ true) → WasAnswered 0 before after part a → WasAnswered seat before after part a
by_seat seat before after part a true is looks w = subst (λ n. WasAnswered n before after part a) (sym (eqb-true seat 0 is)) w
by_seat seat before after part a false is looks w = as_any seat before after part a (looks refl) w

-- what the board answers as seat 0 it answers as any seat that looks up
pub asked_kept : (seat : ℕ) (old new : List (List Event) × List (List ℕ)) (part : Part) (r : Result Answered AskFault) → ((seat == 0) ≡ false → looks_up part ≡ true)
    → IfOk r (IsAsked (solo old) (solo new) 13 part) → IfOk r (WasAnswered seat (list_at old.0 13) (list_at new.0 13) part)
asked_kept seat old new part (Err e) looks h = tt
asked_kept seat old new part (Ok a) looks h = by_seat seat (list_at old.0 13) (list_at new.0 13) part a (seat == 0) refl looks (was_answered old new part a h)

pub failed_kept : (old new : List (List Event) × List (List ℕ)) (r : Result Answered AskFault) → OnErr r (solo new ≡ solo old) → OnErr r (list_at new.0 13 ≡ list_at old.0 13)
failed_kept old new (Ok a) e = tt
failed_kept old new (Err f) e = ap (λ (s : BoardState). s.histories 13) e

pub grown_kept : (seat : ℕ) (before after : List Event) (part : Part) (r : Result Answered AskFault) → IfOk r (WasAnswered seat before after part) → OnErr r (after ≡ before) → GrownBy seat_in seat before after
grown_kept seat before after part (Ok a) h e = grown_asked seat before after part a h
grown_kept seat before after part (Err f) h e = grown_same seat before after e

-- ---- turns of a pass

right_nil : {A : Type 0} (xs ys : List A) → xs ++ ys ≡ [] → ys ≡ []
right_nil [] ys e = e
right_nil (x ∷ xs) ys e = absurd (cc (e))

-- what others added since is of other seats
strange_of : (before after : Known Event) (found : List Event) (ticket seat count : ℕ) (t : Took seat_in before after found ticket seat count) (was : Option ℕ) → before.seat ≡ was → own seat t.continues.0 ≡ []
strange_of before after found ticket seat count t (Some n) is =
    let stays : n ≡ seat = sym (t.seat_is ∙ ap (λ o. unwrap_or o (ticket + 1)) is) in
    append_cancel_left (own seat before.seen) _ _
    (sym (own-append seat_in seat before.seen t.continues.0) ∙ (ap (own seat) (sym t.continues.1) ∙ (t.own_is ∙ (ap (λ o. own_at seat_in o before.seen) is ∙ (ap (λ k. own k before.seen) stays ∙ sym (append-nil (own seat before.seen)))))))
strange_of before after found ticket seat count t None is =
    right_nil (own seat before.seen) (own seat t.continues.0) (sym (own-append seat_in seat before.seen t.continues.0) ∙ (ap (own seat) (sym t.continues.1) ∙ (t.own_is ∙ ap (λ o. own_at seat_in o before.seen) is)))

abbrev turn_of : (before mid after : Known Event) (found new : List Event) (ticket seat count : ℕ) → Took seat_in before mid found ticket seat count → after ≡ having_seen new mid → HadPassTurn before after
turn_of before mid after found new ticket seat count t is = record {
  seat = seat;
  later = t.continues.0;
  strange = strange_of before mid found ticket seat count t before.seat refl;
  sits = ap (λ (k : Known Event). k.seat) is ∙ ap (λ (k : Known Event). k.seat) t.after_is;
  stays = λ n e. sym (t.seat_is ∙ ap (λ o. unwrap_or o (ticket + 1)) e);
  fresh = λ e. ap (own seat) (sym t.continues.1) ∙ (t.own_is ∙ ap (λ o. own_at seat_in o before.seen) e);
}

-- a pass that took the board, asked it and gave it back
pub asked_at : (before mid after : Known Event) (found new : List Event) (ticket seat count : ℕ) (part : Part) (r : Result Answered AskFault)
    → Took seat_in before mid found ticket seat count → after ≡ having_seen new mid → IfOk r (WasAnswered seat found new part) → IfOk r (AskedAt before after part)
asked_at before mid after found new ticket seat count part (Err e) t is h = tt
asked_at before mid after found new ticket seat count part (Ok a) t is h = record {
  turn = turn_of before mid after found new ticket seat count t is;
  was = subst (λ l. WasAnswered seat l after.seen part a) t.continues.1 (subst (λ l. WasAnswered seat found l part a) (sym (ap (λ (k : Known Event). k.seen) is)) h);
}

pub saw_at : (before mid after : Known Event) (found new : List Event) (ticket seat count : ℕ) (r : Result Answered AskFault)
    → Took seat_in before mid found ticket seat count → after ≡ having_seen new mid → OnErr r (new ≡ found) → IfErr r (λ _. SawAt before after)
saw_at before mid after found new ticket seat count (Ok a) t is h = tt
saw_at before mid after found new ticket seat count (Err e) t is h = record {
  turn = turn_of before mid after found new ticket seat count t is;
  seen_is = ap (λ (k : Known Event). k.seen) is ∙ (h ∙ t.continues.1);
}

-- ---- one lock of sixteen

elsewhere : {A : Type 0} (nothing x y : A) (k : ℕ) → k ≢ 13 → only_there nothing x k ≡ only_there nothing y k
elsewhere nothing x y k ne = ap (λ b. cond b x nothing) (ne_eqb k 13 ne) ∙ sym (ap (λ b. cond b y nothing) (ne_eqb k 13 ne))

not_none : (before after : List Event) (e : Event) → [] ≡ before ++ e ∷ after → ⊥
not_none [] after e is = cc (is)
not_none (b ∷ before) after e is = cc (is)

pub none_legal : (k : ℕ) → IsLegal k []
none_legal k = λ before e after is. absurd (not_none before after e is)

legal_by : (events : List Event) (k : ℕ) (b : Bool) → (k == 13) ≡ b → IsLegal 13 events → IsLegal k (only_there [] events k)
legal_by events k true is h = rw is (subst (λ n. IsLegal n events) (sym (eqb-true k 13 is)) h)
legal_by events k false is h = rw is (none_legal k)

pub only_legal : (k : Known Event × List ℕ) → IsLegal 13 k.0.seen → AreLegal (at_lock k).histories
only_legal k h lock = legal_by k.0.seen lock (lock == 13) refl h

abbrev had_turn : (old new : Known Event) (turns turns' : List ℕ) (added : List Event) (t : HadPassTurn old new) → new.seen ≡ (old.seen ++ t.later) ++ added → IsLegal 13 new.seen
    → HadTurn (at_lock (old, turns)) (at_lock (new, turns')) 13
had_turn old new turns turns' added t is legal = record {
  seat = t.seat;
  base = old.seen ++ t.later;
  later = t.later;
  added = added;
  faults = 0;
  found = refl;
  whole = λ e. absurd (false_true e);
  strange = t.strange;
  sits = t.sits;
  stays = t.stays;
  fresh = t.fresh;
  new_is = is;
  since = omega arith;
  until = omega arith;
  legal = only_legal (new, turns') legal;
  still = refl;
  others = λ k ne. record {
    history = elsewhere [] new.seen old.seen k ne;
    seat = elsewhere None new.seat old.seat k ne;
    turn = elsewhere [] turns' turns k ne;
    faults = refl;
  };
}

pub asked_there : (old new : Known Event) (turns : List ℕ) (part : Part) (a : Answered) → IsLegal 13 new.seen → AskedAt old new part a
    → IsAsked (at_lock (old, turns)) (at_lock (new, turns ++ a.len ∷ [])) 13 part a
asked_there old new turns part a legal h = record {
  had = record {
    turn = had_turn old new turns (turns ++ a.len ∷ []) (made h.was.append 13 h.turn.seat (old.seen ++ h.turn.later) part) h.turn h.was.after_is legal;
    counted = ap (λ n. turns ++ n ∷ []) h.was.len;
    append = h.was.append;
    added_is = refl;
    fault = h.was.fault;
  };
  len = h.was.len;
  event = h.was.event;
  answer_is = h.was.answer_is;
}

pub seen_there : (old new : Known Event) (turns : List ℕ) (part : Part) → IsLegal 13 new.seen → SawAt old new → MayHaveAsked (at_lock (old, turns)) (at_lock (new, turns)) 13 part
seen_there old new turns part legal h =
    inr (inl (record { turn = had_turn old new turns turns [] h.turn (h.seen_is ∙ sym (append-nil (old.seen ++ h.turn.later))) legal; uncounted = refl; nothing = refl }))

pub asked_in : (old new : Known Event) (turns turns' : List ℕ) (lock : ℕ) (part : Part) (a : Answered) → lock ≡ 13 → turns' ≡ turns ++ a.len ∷ [] → IsLegal 13 new.seen → AskedAt old new part a
    → IsAsked (at_lock (old, turns)) (at_lock (new, turns')) lock part a
asked_in old new turns turns' lock part a at_it turns_are legal h =
    subst (λ n. IsAsked (at_lock (old, turns)) (at_lock (new, turns')) n part a) (sym at_it)
    (subst (λ l. IsAsked (at_lock (old, turns)) (at_lock (new, l)) 13 part a) (sym turns_are) (asked_there old new turns part a legal h))

pub seen_in : (old new : Known Event) (turns turns' : List ℕ) (lock : ℕ) (part : Part) → lock ≡ 13 → turns' ≡ turns → IsLegal 13 new.seen → SawAt old new
    → MayHaveAsked (at_lock (old, turns)) (at_lock (new, turns')) lock part
seen_in old new turns turns' lock part at_it turns_are legal h =
    subst (λ n. MayHaveAsked (at_lock (old, turns)) (at_lock (new, turns')) n part) (sym at_it)
    (subst (λ l. MayHaveAsked (at_lock (old, turns)) (at_lock (new, l)) 13 part) (sym turns_are) (seen_there old new turns part legal h))
