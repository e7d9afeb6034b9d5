-- A conversation on a board of its own serves its requests.
use Rattle.std.proofs.Common.{◌≡◌, ℕ, List, [], ◌∷◌, ◌++◌, map, refl, ap, subst, ◌∙◌, true, Some, Result}
use Rattle.std.specs.List.{AllByRecursion}
use Rattle.ck_devices.specs.declared.faults.Failed.{Failed}
use Rattle.ck_devices.specs.Runs.{GivesInTurn}
use Rattle.ck_devices.specs.declared.clock.FixedClock.{FixedClock}
use Rattle.zone_model.specs.declared.events.Event.{Event}
use Rattle.zone_model.specs.Histories.{Histories}
use Rattle.board_model.specs.Turns.{BoardState}
use Rattle.zone_board.specs.Stripes.{solo}
use Rattle.http_front.specs.Users.{Table}
use Rattle.talk_model.specs.declared.ends.End.{End}
use Rattle.talk_model.specs.declared.ends.TalkFaultKind.{TalkFaultKind}
use Rattle.talk_model.specs.declared.marks.Mark.{Mark}
use Rattle.talk_model.specs.Given.{Given, given_of, GaveFor}
use Rattle.ck_server.specs.Conversations.{Standing}
use Rattle.ck_server.specs.Outcomes.{Converses}
use Rattle.ck_command.specs.declared.endings.Ending.{Ending}
use Rattle.ck_command.specs.Endings.{ending_by}
use Rattle.ck_command.specs.Serving.{Streams, standing, opened, ServesFrom, GivenAre, IsUntouched}

-- a new board has no history and has had no ask
pub opened_is : (b : List (List Event) × List (List ℕ)) → ((lock : ℕ) → (solo b).histories lock ≡ []) → ((lock : ℕ) → (solo b).turns lock ≡ []) → solo b ≡ opened (λ lock. [])
opened_is b empty none = λ i. record { histories = λ lock. empty lock i; seats = λ lock. Some 0; turns = λ lock. none lock i; faults = λ lock. 0; alone = true }

-- a conversation on a new board serves from there
pub served : (b : List (List Event) × List (List ℕ)) → ((lock : ℕ) → (solo b).histories lock ≡ []) → ((lock : ℕ) → (solo b).turns lock ≡ []) → (t : Table) (gave : List Given → Type 0) (before after : Streams) (last : List (List Event) × List (List ℕ)) (marks : List Mark)
    (outcome : Result End TalkFaultKind) (ending : Ending) → Converses t gave (standing before (solo b)) (standing after (solo last)) marks outcome → ending ≡ ending_by outcome → ServesFrom (λ lock. []) t gave before after ending
served b empty none t gave before after last marks outcome ending k ends = record {
  board = solo last;
  marks = marks;
  outcome = outcome;
  converses = subst (λ (x : BoardState). Converses t gave (standing before x) (standing after (solo last)) marks outcome) (opened_is b empty none) k;
  unfailed = λ lock. refl;
  ends = ends;
}

-- ---- other words for what was given

converses_given : (t : Table) (gave gave2 : List Given → Type 0) (entry now : Standing) (marks : List Mark) → ((gs : List Given) → gave gs → gave2 gs) → (outcome : Result End TalkFaultKind) → Converses t gave entry now marks outcome → Converses t gave2 entry now marks outcome
converses_given t gave gave2 entry now marks f outcome k = record {
  course = k.course;
  marks_are = k.marks_are;
  given = f (map given_of marks ++ (k.course).more) k.given;
  conversed = k.conversed;
  fits = k.fits;
  complete = k.complete;
  reads = k.reads;
  writes = k.writes;
}

pub serves_given : (opening : Histories Event) (t : Table) (gave gave2 : List Given → Type 0) (before after : Streams) (ending : Ending) → ((gs : List Given) → gave gs → gave2 gs) → ServesFrom opening t gave before after ending → ServesFrom opening t gave2 before after ending
serves_given opening t gave gave2 before after ending f s = record {
  board = s.board;
  marks = s.marks;
  outcome = s.outcome;
  converses = converses_given t gave gave2 (standing before (opened opening)) (standing after s.board) s.marks f s.outcome s.converses;
  unfailed = s.unfailed;
  ends = s.ends;
}

-- what a clock that stands gives
abbrev pub Stands : FixedClock → ℕ → FixedClock → Type 0
Stands before moment after = (moment ≡ before.0) × (after ≡ before)

-- it is its moment each time
fixed_moments : (n : ℕ) (before after : FixedClock) (gs : List Given) → before.0 ≡ n → GivesInTurn Stands before (map (λ (g : Given). g.moment) gs) after → AllByRecursion (λ (g : Given). g.moment ≡ n) gs
fixed_moments n before after [] is given = tt
fixed_moments n before after (g ∷ gs) is given = ((given.1).0 ∙ is, fixed_moments n given.0 after gs (ap (λ (c : FixedClock). c.0) (given.1).1 ∙ is) given.2)

pub serves_fixed : {C R : Type 0} (clock : C → ℕ → C → Type 0) (draws : R → Result (List ℕ) Failed → R → Type 0) (c : C) (words words2 : R) (n : ℕ) (before after : FixedClock) (opening : Histories Event) (t : Table) (streams later : Streams) (ending : Ending)
    → before.0 ≡ n → ServesFrom opening t (GaveFor Stands draws before after words words2) streams later ending → ServesFrom opening t (GivenAre clock draws c c words words2 (Some n)) streams later ending
serves_fixed clock draws c words words2 n before after opening t streams later ending is s =
    serves_given opening t (GaveFor Stands draws before after words words2) (GivenAre clock draws c c words words2 (Some n)) streams later ending
    (λ gs gave. (fixed_moments n before after gs is gave.moments, refl, gave.words)) s

-- ---- nothing was done

pub untouched : {C R : Type 0} (clock : C → ℕ → C → Type 0) (draws : R → Result (List ℕ) Failed → R → Type 0) (c : C) (words : R) (streams : Streams) → IsUntouched (GivenAre clock draws c c words words) streams streams
untouched clock draws c words streams = record { given = record { moments = refl; words = refl }; same = refl }
