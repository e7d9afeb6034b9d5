-- What the asks of a request change, one after another.
use Rattle.std.proofs.Common.{◌≡◌, ◌≢◌, ◌==◌, if◌then◌else◌, Bool, eq-eqb, ℕ, ◌≤◌, List, [], ◌∷◌, ◌++◌, length, refl, sym, ap, subst, ◌∙◌, arith, append_assoc, append-nil, inl, inr}
use Rattle.std.specs.List.{AllByRecursion}
use Rattle.std.proofs.lemmas.List.Elements.{filter-append}
use Rattle.board_model.specs.declared.answers.Answer.{Answer}
use Rattle.board_model.specs.declared.answers.Answered.{Answered}
use Rattle.board_model.specs.Turns.{BoardState, AreLegal, IsSameAt, HadTurn, IsAsked}
use Rattle.wire_calls.specs.declared.reply.Reply.{Reply}
use Rattle.talk_model.specs.declared.marks.At.{At}
use Rattle.talk_model.specs.Calls.{Ask, Step, asks, replies}
use Rattle.talk_model.specs.Marks.{IsLater, answer_at, step_at, IsAtOf, AreAtsOf, NotBefore, AreInOrder, asks_at}
use Rattle.talk_model.specs.Alone.{Storing, WentSo, answer_alone, after_ask, after_asks, run_step}
use Rattle.talk_model.proofs.GrowthLemmas.{OwnAreMarked, TurnsAreMarked, later_same, later_on, front-length, at-grown, answer-grown}
use Rattle.talk_model.proofs.MarkLemmas.{all-map, all-snoc, order-snoc}
use Rattle.talk_model.proofs.AloneLemmas.{ask_leaves}
use Rattle.talk_model.proofs.TurnLemmas.{turn_later, answer-asked, is_at, not_before, own_more, turns_more, lone_adds, lone_answers}
use Rattle.ck_server.specs.Conversations.{IsLone}
use Rattle.ck_server.specs.Outcomes.{MayBeAsking}
use Rattle.ck_server.specs.Answering.{at_of, AsksOn}

-- what a board that was perhaps asked leaves
pub record MayGrow (found now : BoardState) : Type 0 where
  pub later : IsLater found now
  pub legal : AreLegal found.histories → AreLegal now.histories

pub same_grows : (found now : BoardState) → found ≡ now → MayGrow found now
same_grows found now same = subst (MayGrow found) same (record { later = later_same found; legal = λ l. l })

turn_grows : (found now : BoardState) (lock : ℕ) → HadTurn found now lock → MayGrow found now
turn_grows found now lock t = record { later = turn_later found now lock t; legal = λ l. t.legal }

pub may_grow : (found now : BoardState) (todo : Step) → MayBeAsking found now todo → MayGrow found now
may_grow found now (replies r) same = same_grows found now same
may_grow found now (asks ask next) (inl same) = same_grows found now same
may_grow found now (asks ask next) (inr (inl seen)) = turn_grows found now ask.lock seen.turn
may_grow found now (asks ask next) (inr (inr had)) = turn_grows found now ask.lock (had.turn)

-- nothing of a lock changed, and then again nothing
same_on : (entry b b2 : BoardState) (lock : ℕ) → IsSameAt entry b lock → IsSameAt b b2 lock → IsSameAt entry b2 lock
same_on entry b b2 lock p q = record { history = q.history ∙ p.history; seat = q.seat ∙ p.seat; turn = q.turn ∙ p.turn; faults = q.faults ∙ p.faults }

pub same_at : (b : BoardState) (lock : ℕ) → IsSameAt b b lock
same_at b lock = record { history = refl; seat = refl; turn = refl; faults = refl }

first_nil : (xs ys : List At) → xs ++ ys ≡ [] → xs ≡ []
first_nil [] ys e = refl
first_nil (x ∷ xs) ys e = absurd (cc)

last_nil : (xs ys : List At) → xs ++ ys ≡ [] → ys ≡ []
last_nil [] ys e = e
last_nil (x ∷ xs) ys e = absurd (cc)

some_nil : (x : At) → x ∷ [] ≡ [] → ⊥
some_nil x e = cc

-- a lock that was not asked is as it was
abbrev pub UnaskedAreSame : BoardState → BoardState → List At → Type 0
UnaskedAreSame entry b ats = (lock : ℕ) → asks_at lock ats ≡ [] → IsSameAt entry b lock

unasked_on : (entry b b2 : BoardState) (a : Ask) (answered : Answered) (k : IsAsked b b2 a.lock a.part answered) (ats : List At) → UnaskedAreSame entry b ats → UnaskedAreSame entry b2 (ats ++ at_of a answered ∷ [])
unasked_on entry b b2 a answered k ats same lock none = same_on entry b b2 lock (same lock (first_nil (asks_at lock ats) (asks_at lock (at_of a answered ∷ [])) parts)) (((k.had).turn).others lock other)
  where
    parts : asks_at lock ats ++ asks_at lock (at_of a answered ∷ []) ≡ []
    parts = sym (filter-append (λ (at : At). at.lock == lock) ats (at_of a answered ∷ [])) ∙ none

    one : lock ≡ a.lock → asks_at lock (at_of a answered ∷ []) ≡ at_of a answered ∷ []
    one e = ap (λ (is : Bool). if is then at_of a answered ∷ [] else []) (eq-eqb a.lock lock (sym e))

    other : lock ≢ a.lock
    other e = some_nil (at_of a answered) (sym (one e) ∙ last_nil (asks_at lock ats) (asks_at lock (at_of a answered ∷ [])) parts)

module _ (entry : BoardState) where
  -- what is known of a board between two asks
  pub record Found (b : BoardState) (ats : List At) : Type 0 where
    pub later : IsLater entry b
    pub within : AllByRecursion (λ (at : At). at.len ≤ length (b.histories at.lock)) ats
    pub ordered : AreInOrder ats
    pub unasked : UnaskedAreSame entry b ats
    pub own : OwnAreMarked entry b ats
    pub turns : TurnsAreMarked entry b ats

  -- behind one ask more
  found_on : (b b2 : BoardState) (a : Ask) (answered : Answered) (k : IsAsked b b2 a.lock a.part answered) (ats : List At) → Found b ats → Found b2 (ats ++ at_of a answered ∷ [])
  found_on b b2 a answered k ats f =
      let on : IsLater b b2 = turn_later b b2 a.lock (k.had).turn in
      let still_within : AllByRecursion (λ (at : At). at.len ≤ length (b2.histories at.lock)) ats =
      all-map (λ (at : At). at.len ≤ length (b.histories at.lock)) (λ (at : At). at.len ≤ length (b2.histories at.lock))
      (λ (at : At) (le : at.len ≤ length (b.histories at.lock)). omega (arith, le, front-length (b.histories at.lock) (b2.histories at.lock) (on.grown at.lock))) ats f.within in
      record {
        later = later_on entry b b2 f.later on;
        within = all-snoc (λ (at : At). at.len ≤ length (b2.histories at.lock)) ats (at_of a answered) still_within (omega (arith, k.len));
        ordered = order-snoc ats (at_of a answered) f.ordered
            (all-map (λ (at : At). at.len ≤ length (b.histories at.lock)) (λ (at : At). NotBefore at (at_of a answered)) (not_before b b2 a.lock a.part answered k) ats f.within);
        unasked = unasked_on entry b b2 a answered k ats f.unasked;
        own = own_more b b2 a.lock a.part answered k entry ats f.later f.within f.own;
        turns = turns_more b b2 a.lock a.part answered k entry ats f.turns;
      }

  -- what asks of a step leave
  pub record Chained (b b2 : BoardState) (before ats : List At) (step todo : Step) : Type 0 where
    pub grows : MayGrow b b2
    pub found : Found b2 (before ++ ats)
    pub asks_are : AreAtsOf entry b2 ats step
    pub todo_is : step_at b2.histories ats step ≡ todo
    pub run : IsLone b → (storing : Storing) → WentSo storing b2.histories → (lock : ℕ) → b2.histories lock ≡ after_asks storing (length ats) b.histories step lock
    pub run_all : IsLone b → (storing : Storing) → WentSo storing b2.histories → (r : Reply) → todo ≡ replies r
        → ((run_step storing b.histories step).1 ≡ r) × ((lock : ℕ) → b2.histories lock ≡ (run_step storing b.histories step).0 lock)

  none_chained : (b : BoardState) (before : List At) (step : Step) → Found b before → Chained b b before [] step step
  none_chained b before step f = record {
    grows = same_grows b b refl;
    found = subst (Found b) (sym (append-nil before)) f;
    asks_are = tt;
    todo_is = refl;
    run = λ lone storing went lock. refl;
    run_all = λ lone storing went r is. (ap (λ s. (run_step storing b.histories s).1) is, λ lock. ap (λ s. (run_step storing b.histories s).0 lock) (sym is));
  }

  -- one ask, and then those behind it
  module _ (b mid b2 : BoardState) (before ats : List At) (a : Ask) (next : Answer → Step) (todo : Step) (answered : Answered) (k : IsAsked b mid a.lock a.part answered) (f : Found b before)
      (c : Chained mid b2 (before ++ at_of a answered ∷ []) ats (next answered.answer) todo) where
    abbrev at : At
    at = at_of a answered

    abbrev turn : HadTurn b mid a.lock
    turn = (k.had).turn

    abbrev on : IsLater mid b2
    on = (c.grows).later

    one_at : IsAtOf entry mid at a
    one_at = is_at b mid a.lock a.part answered k entry f.later

    answer_is : answer_at b2.histories at a ≡ answered.answer
    answer_is = answer-grown entry mid b2 on at a one_at.within ∙ answer-asked b mid a.lock a.part answered k

    lone_on : IsLone b → IsLone mid
    lone_on lone = (turn.still ∙ lone.0, λ lock. (turn_later b mid a.lock turn).stays lock 0 (lone.1 lock))

    module _ (lone : IsLone b) (storing : Storing) (went : WentSo storing b2.histories) where
      answered_alone : answered.answer ≡ answer_alone storing b.histories a
      answered_alone = lone_answers b mid a.lock a.part answered k lone.0 (lone.1 a.lock) b2.histories (on.grown a.lock) storing went

      mid_is : mid.histories ≡ after_ask storing b.histories a
      mid_is = λ i lock. ask_leaves storing b.histories mid.histories a (lone_adds b mid a.lock a.part answered k lone.0 (lone.1 a.lock) b2.histories (on.grown a.lock) storing went)
          (λ other ne. (turn.others other ne).history) lock i

    one_chained : Chained b b2 before (at ∷ ats) (asks a next) todo
    one_chained = record {
      grows = record { later = later_on b mid b2 (turn_later b mid a.lock turn) on; legal = λ l. (c.grows).legal turn.legal };
      found = subst (Found b2) (append_assoc before (at ∷ []) ats) c.found;
      asks_are = (at-grown entry mid b2 on at a one_at, subst (λ (x : Answer). AreAtsOf entry b2 ats (next x)) (sym answer_is) c.asks_are);
      todo_is = ap (λ (x : Answer). step_at b2.histories ats (next x)) answer_is ∙ c.todo_is;
      run = λ lone storing went lock.
          c.run (lone_on lone) storing went lock ∙ (λ i. after_asks storing (length ats) (mid_is lone storing went i) (next (answered_alone lone storing went i)) lock);
      run_all = λ lone storing went r is.
          let d = c.run_all (lone_on lone) storing went r is in
          let same = answered_alone lone storing went in
          let from = mid_is lone storing went in
          ((λ i. (run_step storing (sym from i) (next (sym same i))).1) ∙ d.0, λ lock. d.1 lock ∙ (λ i. (run_step storing (from i) (next (same i))).0 lock));
    }

  pub chain : (ats : List At) (step todo : Step) (b b2 : BoardState) (before : List At) → Found b before → AsksOn b b2 ats step todo → Chained b b2 before ats step todo
  chain [] step todo b b2 before f on =
      subst (λ (x : BoardState). Chained b x before [] step todo) on.0 (subst (λ (s : Step). Chained b b before [] step s) on.1 (none_chained b before step f))
  chain (at ∷ ats) (asks a next) todo b b2 before f on =
      subst (λ (x : At). Chained b b2 before (x ∷ ats) (asks a next) todo) (sym on.2)
      (one_chained b on.0 b2 before ats a next todo on.1 on.3 f
      (chain ats (next (on.1).answer) todo on.0 b2 (before ++ at_of a on.1 ∷ []) (found_on b on.0 a on.1 on.3 before f) on.4))
  chain (at ∷ ats) (replies r) todo b b2 before f on = absurd on
