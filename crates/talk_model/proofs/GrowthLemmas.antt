-- What stays as it is while histories grow.
use Rattle.std.proofs.Common.{◌≡◌, ℕ, ◌+◌, ◌-◌, ◌≤◌, ◌==◌, Bool, true, false, List, [], ◌∷◌, ◌++◌, length, take, drop, map, refl, sym, ap, subst, ◌∙◌, arith, append_assoc, length-append}
use Rattle.std.specs.Prelude.{if◌then◌else◌}
use Rattle.std.specs.List.{AllByRecursion, flat_map}
use Rattle.std.proofs.lemmas.List.{take-append-le, append-nil}
use Rattle.zone_model.specs.declared.events.Event.{Event}
use Rattle.zone_model.specs.Histories.{Histories, IsFront, Grows}
use Rattle.zone_model.specs.Events.{own_of}
use Rattle.board_model.specs.declared.answers.Answer.{Answer}
use Rattle.board_model.specs.Asks.{sight, answer, made, makes, commits_by, told}
use Rattle.board_model.specs.Turns.{BoardState}
use Rattle.talk_model.specs.declared.marks.At.{At}
use Rattle.talk_model.specs.declared.marks.Mark.{Mark}
use Rattle.talk_model.specs.Requests.{Meaning}
use Rattle.talk_model.specs.Given.{given_of}
use Rattle.talk_model.specs.Calls.{Ask, Step, asks, replies, step_for, text_at}
use Rattle.talk_model.specs.Marks.{IsLater, base_of, event_at, answer_at, step_at, IsAtOf, AreAtsOf, step_behind, IsMarkOf, AreMarksOf, asks_at}
use Rattle.talk_model.specs.Talk.{talk}

pub front_on : {E : Type 0} (xs ys zs : List E) → IsFront xs ys → IsFront ys zs → IsFront xs zs
front_on xs ys zs p q = record { more = p.more ++ q.more; grown = rw (q.grown, p.grown) (append_assoc xs p.more q.more) }

pub grows_on : {E : Type 0} (a b c : Histories E) → Grows a b → Grows b c → Grows a c
grows_on a b c p q lock = front_on (a lock) (b lock) (c lock) (p lock) (q lock)

pub grows_same : {E : Type 0} (a : Histories E) → Grows a a
grows_same a lock = record { more = []; grown = simp append-nil }

pub front-length : {E : Type 0} (xs ys : List E) → IsFront xs ys → length xs ≤ length ys
front-length xs ys p = omega (arith, length-append xs p.more, ap length p.grown)

pub front-take : {E : Type 0} (n : ℕ) (xs ys : List E) → IsFront xs ys → n ≤ length xs → take n ys ≡ take n xs
front-take n xs ys p le = rw p.grown (take-append-le n xs p.more le)

pub later_same : (b : BoardState) → IsLater b b
later_same b = record { grown = grows_same b.histories; stays = λ lock n e. e; risen = λ lock. omega arith; still = refl }

pub later_on : (a b c : BoardState) → IsLater a b → IsLater b c → IsLater a c
later_on a b c p q = record {
  grown = grows_on a.histories b.histories c.histories p.grown q.grown;
  stays = λ lock n e. q.stays lock n (p.stays lock n e);
  risen = λ lock. omega (arith, p.risen lock, q.risen lock);
  still = q.still ∙ p.still;
}

-- the end of a front
front-drop : {E : Type 0} (n k : ℕ) (xs ys : List E) → IsFront xs ys → n ≤ length xs → drop k (take n ys) ≡ drop k (take n xs)
front-drop n k xs ys p le = ap (drop k) (front-take n xs ys p le)

-- ---- the asks of one lock

-- the events at a lock that the asks made
abbrev pub marked : ℕ → Histories Event → List At → List Event
marked lock h ats = flat_map (event_at h) (asks_at lock ats)

abbrev pub marked_by : ℕ → Histories Event → At → List Event
marked_by lock h at = if at.lock == lock then event_at h at else []

pub marked-cons : (lock : ℕ) (h : Histories Event) (at : At) (ats : List At) → marked lock h (at ∷ ats) ≡ marked_by lock h at ++ marked lock h ats
marked-cons lock h at ats = by_lock (at.lock == lock) (asks_at lock ats)
  where
    by_lock : (b : Bool) (here : List At) → flat_map (event_at h) (if b then at ∷ here else here) ≡ (if b then event_at h at else []) ++ flat_map (event_at h) here
    by_lock true here = refl
    by_lock false here = refl

-- the lengths of the asks of the lock
abbrev pub lengths_at : ℕ → List At → List ℕ
lengths_at lock ats = map (λ (at : At). at.len) (asks_at lock ats)

abbrev pub TurnsAreMarked : BoardState → BoardState → List At → Type 0
TurnsAreMarked entry now ats = (lock : ℕ) → now.turns lock ≡ entry.turns lock ++ lengths_at lock ats

abbrev pub OwnAreMarked : BoardState → BoardState → List At → Type 0
OwnAreMarked entry now ats = (lock : ℕ) → own_of (now.seats lock) (drop (length (entry.histories lock)) (now.histories lock)) ≡ marked lock now.histories ats

module _ (entry b now : BoardState) (later : IsLater b now) where
  abbrev h : Histories Event
  h = b.histories

  abbrev h2 : Histories Event
  h2 = now.histories

  base-grown : (at : At) → at.len ≤ length (h at.lock) → base_of h2 at ≡ base_of h at
  base-grown at le = front-take _ (h at.lock) (h2 at.lock) (later.grown at.lock) (omega arith)

  event-grown : (at : At) → at.len ≤ length (h at.lock) → event_at h2 at ≡ event_at h at
  event-grown at le = ap (λ (es : List Event). if at.event then es else []) (front-drop at.len (at.len - 1) (h at.lock) (h2 at.lock) (later.grown at.lock) le)

  pub at-grown : (at : At) (a : Ask) → IsAtOf entry b at a → IsAtOf entry now at a
  at-grown at a k =
      let same = base-grown at k.within in
      record {
        seat = k.seat;
        append = k.append;
        sits = later.stays at.lock k.seat k.sits;
        lock = k.lock;
        since_entry = k.since_entry;
        within = omega (arith, k.within, front-length (h at.lock) (h2 at.lock) (later.grown at.lock));
        event = k.event ∙ ap (λ (es : List Event). makes (commits_by a.lock es a.part)) (sym same);
        event_is = front-take at.len (h at.lock) (h2 at.lock) (later.grown at.lock) k.within
            ∙ (k.event_is ∙ ap (λ (es : List Event). es ++ made k.append a.lock k.seat es a.part) (sym same));
        fault = ((k.fault).0, (k.fault).1, (k.fault).2, omega (arith, (k.fault).3, later.risen at.lock), (k.fault).4);
      }

  pub answer-grown : (at : At) (a : Ask) → at.len ≤ length (h at.lock) → answer_at h2 at a ≡ answer_at h at a
  answer-grown at a le = λ i. told (event-grown at le i) (answer a.lock (sight a.lock (base-grown at le i) a.part) a.part)

  pub ats-grown : (ats : List At) (step : Step) → AreAtsOf entry b ats step → AreAtsOf entry now ats step
  ats-grown [] step k = tt
  ats-grown (at ∷ ats) (asks a next) k = (
    at-grown at a k.0,
    subst (λ (x : Answer). AreAtsOf entry now ats (next x)) (sym (answer-grown at a (k.0).within)) (ats-grown ats (next (answer_at h at a)) k.1),
  )
  ats-grown (at ∷ ats) (replies r) k = absurd k

  pub step-grown : (ats : List At) (step : Step) → AreAtsOf entry b ats step → step_at h2 ats step ≡ step_at h ats step
  step-grown [] step k = refl
  step-grown (at ∷ ats) (asks a next) k = ap (λ (x : Answer). step_at h2 ats (next x)) (answer-grown at a (k.0).within) ∙ step-grown ats (next (answer_at h at a)) k.1
  step-grown (at ∷ ats) (replies r) k = absurd k

  pub mark-grown : (number : ℕ) (m : Mark) (w : Meaning) → IsMarkOf number entry b m w → IsMarkOf number entry now m w
  mark-grown number m w k = record { request = k.request; words = k.words; asks = ats-grown m.asks.items (step_for w.want (given_of m)) k.asks }

  pub behind-grown : (number : ℕ) (m : Mark) (w : Meaning) → IsMarkOf number entry b m w → step_behind h2 m w ≡ step_behind h m w
  behind-grown number m w k = step-grown m.asks.items (step_for w.want (given_of m)) k.asks

  pub marks-grown : (number : ℕ) (marks : List Mark) (ws : List Meaning) → AreMarksOf number entry b marks ws → AreMarksOf number entry now marks ws
  marks-grown number [] [] k = tt
  marks-grown number [] (w ∷ ws) k = k
  marks-grown number (m ∷ marks) [] k = k
  marks-grown number (m ∷ marks) (w ∷ ws) k =
      let mark = k.0 in
      ((mark-grown number m w mark.0, mark.1, behind-grown number m w mark.0 ∙ mark.2), marks-grown (number + 1) marks ws k.1)

  pub talk-grown : (number : ℕ) (marks : List Mark) (ws : List Meaning) → AreMarksOf number entry b marks ws → talk ws marks h2 ≡ talk ws marks h
  talk-grown number [] [] k = refl
  talk-grown number [] (w ∷ ws) k = refl
  talk-grown number (m ∷ marks) [] k = refl
  talk-grown number (m ∷ marks) (w ∷ ws) k =
      let mark = k.0 in
      let same = behind-grown number m w mark.0 in
      λ i. text_at w.close (same i) ∷ talk-grown (number + 1) marks ws k.1 i

  pub marked-grown : (lock : ℕ) (ats : List At) → AllByRecursion (λ (at : At). at.len ≤ length (h at.lock)) ats → marked lock h2 ats ≡ marked lock h ats
  marked-grown lock [] k = refl
  marked-grown lock (at ∷ ats) k =
      marked-cons lock h2 at ats
      ∙ ((λ i. (if at.lock == lock then event-grown at k.0 i else []) ++ marked-grown lock ats k.1 i) ∙ sym (marked-cons lock h at ats))
