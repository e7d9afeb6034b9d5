-- One history of a list of histories after a write.
use Rattle.std.proofs.Common.{◌≡◌, ◌≢◌, ℕ, zero, suc, ◌<◌, ◌≤◌, ◌++◌, List, [], ◌∷◌, length, set, get_or, Bool, true, false, nat_eq, refl, sym, ap, ◌∙◌, subst, inl, inr, arith, append-nil, Result, Ok, Err, IfOk, IfErr, OnErr, Option, Some, None, unwrap_or}
use Rattle.std.specs.Prelude.{◌⊎◌, map}
use Rattle.std.specs.List.{AllByRecursion}
use Rattle.std.proofs.lemmas.Bool.{cases_lt}
use Rattle.std.proofs.lemmas.List.{length-set}
use Rattle.std.proofs.lemmas.Bool.{eqb-true, eqb-false}
use Rattle.zone_model.specs.declared.events.Event.{Event}
use Rattle.zone_laws.proofs.TestLaws.{history_so}
use Rattle.zone_model.specs.Legal.{IsLegal}
use Rattle.board_model.specs.declared.parts.Part.{Part}
use Rattle.board_model.specs.declared.answers.Answered.{Answered}
use Rattle.zone_model.specs.declared.commits.Commit.{Commit}
use Rattle.board_model.specs.Asks.{stored, sight, answer, event_of, made, makes, commits_by, told}
use Rattle.board_model.specs.declared.answers.Answer.{Answer}
use Rattle.board_model.specs.Turns.{BoardState, AreLegal, HadTurn, IsAsked, MayHaveAsked}
use Rattle.zone_board.specs.declared.board.AskFault.{AskFault}
use Rattle.zone_board.specs.declared.stripe.Stripe.{Stripe}
use Rattle.zone_board.specs.Stripes.{events_in, turns_in, list_at, solo}
use Rattle.zone_board.specs.Kept.{IsKept}

-- lists of a row of things, one after a write
module _ {S X : Type 0} (f : S → List X) where
  pub list_at-set_same : (vs : List S) (i : ℕ) (v : S) → i < length vs → list_at (map f (set vs i v)) i ≡ f v
  list_at-set_same [] i v lt = absurd (omega arith)
  list_at-set_same (x ∷ xs) zero v lt = refl
  list_at-set_same (x ∷ xs) (suc i) v lt = list_at-set_same xs i v (omega arith)

  pub list_at-set_other : (vs : List S) (i k : ℕ) (v : S) → k ≢ i → list_at (map f (set vs i v)) k ≡ list_at (map f vs) k
  list_at-set_other [] i k v ne = refl
  list_at-set_other (x ∷ xs) zero zero v ne = absurd (ne refl)
  list_at-set_other (x ∷ xs) zero (suc k) v ne = refl
  list_at-set_other (x ∷ xs) (suc i) zero v ne = refl
  list_at-set_other (x ∷ xs) (suc i) (suc k) v ne = list_at-set_other xs i k v (λ e. ne (ap suc e))

  pub list_at-get_or : (vs : List S) (i : ℕ) (d : S) → i < length vs → list_at (map f vs) i ≡ f (get_or vs i d)
  list_at-get_or [] i d lt = absurd (omega arith)
  list_at-get_or (x ∷ xs) zero d lt = refl
  list_at-get_or (x ∷ xs) (suc i) d lt = list_at-get_or xs i d (omega arith)

  -- past the row there is none
  pub list_at-past : (vs : List S) (i : ℕ) → length vs ≤ i → list_at (map f vs) i ≡ []
  list_at-past [] i le = refl
  list_at-past (x ∷ xs) zero le = absurd (omega arith)
  list_at-past (x ∷ xs) (suc i) le = list_at-past xs i (omega arith)

  -- the same list in place of that of a lock
  pub list_at-same : (vs : List S) (lock : ℕ) (d new : S) → lock < length vs → f new ≡ f (get_or vs lock d) → (k : ℕ) → list_at (map f (set vs lock new)) k ≡ list_at (map f vs) k
  list_at-same [] lock d new lt same k = absurd (omega arith)
  list_at-same (x ∷ xs) zero d new lt same zero = same
  list_at-same (x ∷ xs) zero d new lt same (suc k) = refl
  list_at-same (x ∷ xs) (suc i) d new lt same zero = refl
  list_at-same (x ∷ xs) (suc i) d new lt same (suc k) = list_at-same xs i d new (omega arith) same k

abbrev events_of : Stripe → List Event
events_of s = s.events.items

abbrev turns_of : Stripe → List ℕ
turns_of s = s.turns.items

some_zero : (n : ℕ) → Some zero ≡ Some n → n ≡ zero
some_zero n e = sym (ap (λ (o : Option ℕ). unwrap_or o 0) e)

not_none : Some zero ≡ None → ⊥
not_none e = cc

abbrev Stripes : Type 0
Stripes = List Stripe

nothing_at : (k : ℕ) → list_at {X = Event} [] k ≡ []
nothing_at zero = refl
nothing_at (suc k) = refl

-- where nothing has happened, all is as it is to be
pub none_kept : (histories : List (List Event)) → AllByRecursion (λ events. events ≡ []) histories → (lock k : ℕ) → IsKept lock (list_at histories k)
none_kept [] none lock k = subst (IsKept lock) (sym (nothing_at k)) (record { legal = history_so lock [] refl tt; puts = tt })
none_kept (events ∷ histories) none lock zero = subst (IsKept lock) (sym none.0) (record { legal = history_so lock [] refl tt; puts = tt })
none_kept (events ∷ histories) none lock (suc k) = none_kept histories none.1 lock k

-- the histories of a board are legal
pub all_legal : (vs : Stripes) → length vs ≡ 16 → ((k : ℕ) → k < 16 → IsKept k (list_at (events_in vs) k)) → AreLegal (list_at (events_in vs))
all_legal vs sixteen kept k = by_lock (cases_lt k 16)
  where
    by_lock : (k < 16) ⊎ (16 ≤ k) → IsLegal k (list_at (events_in vs) k)
    by_lock (inl low) = (kept k low).legal
    by_lock (inr high) = subst (IsLegal k) (sym (list_at-past events_of vs k (omega (arith, high, sixteen)))) (history_so k [] refl tt)

-- where commits are stored, the answer is told
told_stored : (seat : ℕ) (base : List Event) (cs : List Commit) (a : Answer) → told (event_of stored seat base cs) a ≡ a
told_stored seat base [] a = refl
told_stored seat base (c ∷ cs) a = refl

module _ (vs : Stripes) (lock : ℕ) (d new : Stripe) (lt : lock < length vs) where
  abbrev before : BoardState
  before = solo (events_in vs, turns_in vs)

  abbrev after : BoardState
  after = solo (events_in (set vs lock new), turns_in (set vs lock new))

  -- a turn of a board that is alone, and whose seat is 0
  abbrev lone_turn : (more : List Event) → new.events.items ≡ (get_or vs lock d).events.items ++ more → AreLegal after.histories → HadTurn before after lock
  lone_turn more made_is legal = record {
    seat = 0;
    base = (get_or vs lock d).events.items;
    later = [];
    added = more;
    faults = 0;
    found = sym (list_at-get_or events_of vs lock d lt) ∙ sym (append-nil (list_at (events_in vs) lock));
    whole = λ _. (refl, refl);
    strange = refl;
    sits = refl;
    stays = some_zero;
    fresh = λ e. absurd (not_none e);
    new_is = list_at-set_same events_of vs lock new lt ∙ made_is;
    since = omega arith;
    until = omega arith;
    legal = legal;
    still = refl;
    others = λ k ne. record { history = list_at-set_other events_of vs lock k new ne; seat = refl; turn = list_at-set_other turns_of vs lock k new ne; faults = refl };
  }

  -- what an ask of one history says of all of them
  pub asked : (part : Part) (r : Result Answered AskFault) → AreLegal after.histories → IfOk r (λ _. new.events.items ≡ (get_or vs lock d).events.items ++ made stored lock 0 (get_or vs lock d).events.items part)
      → IfOk r (λ a. a.len ≡ length new.events.items) → IfOk r (λ a. new.turns.items ≡ (get_or vs lock d).turns.items ++ a.len ∷ [])
      → IfOk r (λ a. a.event ≡ makes (commits_by lock (get_or vs lock d).events.items part)) → IfOk r (λ a. a.answer ≡ answer lock (sight lock (get_or vs lock d).events.items part) part)
      → IfOk r (IsAsked before after lock part)
  asked part (Err fault) legal made_is len_is counted event_is answer_is = tt
  asked part (Ok a) legal made_is len_is counted event_is answer_is =
      let base : List Event = (get_or vs lock d).events.items in
      let long : a.len ≡ length (after.histories lock) = len_is ∙ ap length (sym (list_at-set_same events_of vs lock new lt)) in
      let now_counted : after.turns lock ≡ before.turns lock ++ length (after.histories lock) ∷ [] =
      list_at-set_same turns_of vs lock new lt ∙ (counted ∙ (λ i. sym (list_at-get_or turns_of vs lock d lt) i ++ long i ∷ [])) in
      record {
        had = record { turn = lone_turn (made stored lock 0 base part) made_is legal; counted = now_counted; append = stored; added_is = refl; fault = tt };
        len = long;
        event = event_is;
        answer_is = answer_is ∙ sym (told_stored 0 base (commits_by lock base part) (answer lock (sight lock base part) part));
      }

  -- an ask that leaves the lists of its lock leaves the board
  same : new.events.items ≡ (get_or vs lock d).events.items → new.turns.items ≡ (get_or vs lock d).turns.items → after ≡ before
  same kept uncounted =
      λ i. record { histories = λ k. list_at-same events_of vs lock d new lt kept k i; seats = λ k. Some 0; turns = λ k. list_at-same turns_of vs lock d new lt uncounted k i; faults = λ k. 0; alone = true }

  pub unchanged : (r : Result Answered AskFault) → OnErr r (new.events.items ≡ (get_or vs lock d).events.items) → OnErr r (new.turns.items ≡ (get_or vs lock d).turns.items) → OnErr r (after ≡ before)
  unchanged (Ok a) kept uncounted = tt
  unchanged (Err fault) kept uncounted = same kept uncounted

  pub failed : (part : Part) (r : Result Answered AskFault) → OnErr r (after ≡ before) → IfErr r (λ _. MayHaveAsked before after lock part)
  failed part (Ok a) still = tt
  failed part (Err fault) still = inl (sym still)

-- the history of the lock is kept by a step that keeps it
pub stays_kept : (vs : List Stripe) (lock : ℕ) (d new : Stripe) → lock < length vs → IsKept lock (list_at (events_in vs) lock)
    → (IsKept lock (get_or vs lock d).events.items → IsKept lock new.events.items) → IsKept lock new.events.items
stays_kept vs lock d new lt kept stays = stays (subst (IsKept lock) (list_at-get_or events_of vs lock d lt) kept)

-- the histories of all locks are, where that of one is
pub all_kept : (vs : List Stripe) (lock : ℕ) (new : Stripe) → lock < length vs → ((k : ℕ) → k < 16 → IsKept k (list_at (events_in vs) k)) → IsKept lock new.events.items
    → (k : ℕ) → k < 16 → IsKept k (list_at (events_in (set vs lock new)) k)
all_kept vs lock new lt kept one k low = by (nat_eq k lock) refl
  where
    by : (b : Bool) → nat_eq k lock ≡ b → IsKept k (list_at (events_in (set vs lock new)) k)
    by true e = subst (λ n. IsKept n (list_at (events_in (set vs lock new)) n)) (sym (eqb-true k lock e)) (subst (IsKept lock) (sym (list_at-set_same events_of vs lock new lt)) one)
    by false e = subst (IsKept k) (sym (list_at-set_other events_of vs lock k new (eqb-false k lock e))) (kept k low)

-- the histories of all locks are legal behind an ask that keeps that of its lock
pub legal_on : (vs : List Stripe) (lock : ℕ) (new : Stripe) → length vs ≡ 16 → lock < length vs → ((k : ℕ) → k < 16 → IsKept k (list_at (events_in vs) k)) → IsKept lock new.events.items
    → AreLegal (list_at (events_in (set vs lock new)))
legal_on vs lock new sixteen lt kept one = all_legal (set vs lock new) (length-set vs lock new ∙ sixteen) (all_kept vs lock new lt kept one)
