-- Where a conversation stands after each of its steps.
use Rattle.std.proofs.Common.{◌≡◌, ◌≢◌, false, true, ℕ, ◌+◌, ◌<◌, ◌≤◌, List, [], ◌∷◌, ◌++◌, length, map, take, drop, refl, sym, ap, subst, ◌∙◌, arith, inl, inr, append-nil, length-append, Option, Some, None, Result, Ok, Err}
use Rattle.std.proofs.lemmas.List.{drop_all, take-append-drop, length-drop}
use Rattle.std.specs.Prelude.{⊤, ◌⊎◌, option_map}
use Rattle.std.specs.List.{AllByRecursion, concat}
use Rattle.std.specs.Io.KnownBytes.{Appends}
use Rattle.ck_devices.specs.Causes.{Failures}
use Rattle.zone_model.specs.Events.{own_of}
use Rattle.board_model.specs.Turns.{BoardState, AreLegal}
use Rattle.http_front.specs.declared.faults.FrontFault.{FrontFault}
use Rattle.http_front.specs.declared.faults.FrontFault.TheVariants as fault
use Rattle.http_front.specs.declared.request.Request.{Request}
use Rattle.http_front.specs.Reading.{most_piece, ReadsOn, TakesRequest, IsFault}
use Rattle.http_front.specs.Users.{Table}
use Rattle.talk_model.specs.declared.marks.Mark.{Mark}
use Rattle.talk_model.specs.declared.ends.End.{End}
use Rattle.talk_model.specs.declared.ends.End.TheVariants.{Closed, CloseAsked, Cut, BadHead, HeadTooLong, NoLength, BodyTooLong, Spent, NotBuilt}
use Rattle.talk_model.specs.declared.ends.TalkFaultKind.{TalkFaultKind}
use Rattle.talk_model.specs.declared.ends.TalkFaultKind.TheVariants.{ReadFault, WriteFault, NoMemory}
use Rattle.talk_model.specs.declared.wants.Want.{Want}
use Rattle.talk_model.specs.Requests.{Meaning, want_of, meaning_of, HasInFront}
use Rattle.talk_model.specs.Given.{Given, given_of}
use Rattle.talk_model.specs.Connections.{most_requests, GoOn, AreOpen, IsLastOf, LeavesAt, last_text}
use Rattle.talk_model.specs.Talk.{talk}
use Rattle.talk_model.proofs.MarkLemmas.{givens-snoc, marks-length, all-snoc}
use Rattle.ck_server.specs.Conversations.{Standing, Conversed, AreSettled}
use Rattle.ck_server.specs.Answering.{Place, IsWanted, IsGivenFor, IsServed, LeavesUnmarked, LeavesAsking, GivesUp, IsLeft, Serves}
use Rattle.ck_server.specs.Finishing.{end_at, BreaksLast, Finishes}
use Rattle.ck_server.specs.Outcomes.{Course, StopsReading, reply, end_text, HasInHand, nothing, unmarked, asking, Fits}
use Rattle.ck_devices.proofs.Streams.{appends-nil}
use Rattle.ck_server.proofs.AheadLemmas.{little_behind}
use Rattle.ck_server.proofs.AskingLemmas.{same_at, MayGrow, same_grows}
use Rattle.ck_server.proofs.ConversationLemmas.{conversed-start, with_source, course, OneMore, conversed_took, conversed_sent, conversed_grown, conversed_on, grows_since, was_asking}

-- what a conversation comes to, but for its completeness
pub record Comes (t : Table) (gave : List Given → Type 0) (entry now : Standing) (marks : List Mark) (outcome : Result End TalkFaultKind) : Type 0 where
  pub course : Course
  pub marks_are : marks ≡ course.done ++ course.begun
  pub given : gave (map given_of marks ++ course.more)
  pub conversed : Conversed t entry now course.wanted course.done course.rest course.last course.unsent
  pub fits : Fits t entry now course outcome

abbrev pub EndsWell : Table → (List Given → Type 0) → Standing → Standing → List Mark → End → Type 0
EndsWell t gave entry now marks end = Comes t gave entry now marks (Ok end)

abbrev pub BreaksOff : Table → (List Given → Type 0) → Standing → Standing → List Mark → TalkFaultKind → Type 0
BreaksOff t gave entry now marks at = Comes t gave entry now marks (Err at)

-- where no request is in hand
comes_done : (t : Table) (gave : List Given → Type 0) (entry now : Standing) (wanted : List Meaning) (marks : List Mark) (rest : List ℕ) (last : List (List ℕ)) (unsent : List ℕ) (outcome : Result End TalkFaultKind) → gave (map given_of marks)
    → Conversed t entry now wanted marks rest last unsent
    → Fits t entry now (record { wanted = wanted; done = marks; begun = []; more = []; rest = rest; last = last; unsent = unsent }) outcome → Comes t gave entry now marks outcome
comes_done t gave entry now wanted marks rest last unsent outcome given conversed fits = record {
  course = record { wanted = wanted; done = marks; begun = []; more = []; rest = rest; last = last; unsent = unsent };
  marks_are = sym (append-nil marks);
  given = subst gave (sym (append-nil (map given_of marks))) given;
  conversed = conversed;
  fits = fits;
}

-- between two requests
pub record Goes (t : Table) (entry now : Standing) (marks : List Mark) (buffer : List ℕ) : Type 0 where
  pub wanted : List Meaning
  pub conversed : Conversed t entry now wanted marks buffer [] []
  pub settled : AreSettled entry.board now.board wanted marks
  pub go_on : GoOn wanted
  pub little : length buffer < most_piece

no_own-nil : (s : Option ℕ) → own_of s [] ≡ []
no_own-nil (Some n) = refl
no_own-nil None = refl

pub goes-start : (t : Table) (entry : Standing) → AreLegal (entry.board).histories → Goes t entry entry [] []
goes-start t entry legal = record {
  wanted = [];
  conversed = conversed-start t entry legal;
  settled = record {
    ordered = tt;
    unasked = λ lock none. same_at (entry.board) lock;
    own = λ lock. ap (own_of ((entry.board).seats lock)) (drop_all (length ((entry.board).histories lock)) ((entry.board).histories lock) (omega arith)) ∙ no_own-nil ((entry.board).seats lock);
    turns = λ lock. sym (append-nil ((entry.board).turns lock));
    left_behind = λ lone storing went lock. refl;
  };
  go_on = tt;
  little = omega arith;
}

the_end : (a b : End) → Some a ≡ Some b → a ≡ b
the_end a b e = cc

-- the same with other bytes left and held
abbrev pub with_both : Standing → Option (List ℕ) → Failures → Option (List ℕ) → Failures → Standing
with_both s left reads held writes = record { left = left; source_failures = reads; held = held; sink_failures = writes; board = s.board }

module _ (t : Table) (gave : List Given → Type 0) (entry now : Standing) (marks : List Mark) (buffer : List ℕ) (goes : Goes t entry now marks buffer) (given : gave (map given_of marks)) where
  as_many : length marks ≡ length goes.wanted
  as_many = marks-length entry.board now.board 0 marks goes.wanted (goes.conversed).marked

  are_open : length marks < most_requests → AreOpen goes.wanted
  are_open few = record { few = omega (arith, few, as_many); go_on = goes.go_on }

  -- where as many requests were answered as a connection may have
  pub spent_well : length marks ≡ most_requests → EndsWell t gave entry now marks Spent
  spent_well all = comes_done t gave entry now goes.wanted marks buffer ([] ∷ []) [] (Ok Spent) given
      (conversed_sent t entry now now.held now.sink_failures goes.wanted marks buffer ([] ∷ []) [] [] goes.conversed refl (appends-nil now.held))
      ((refl, refl, goes.settled), refl, refl, (sym as_many ∙ all, goes.go_on), goes.little)

  -- where no further request was read
  module _ (few : length marks < most_requests) (left : Option (List ℕ)) (reads : Failures) (held : Option (List ℕ)) (writes : Failures) (new : List ℕ) (read : ReadsOn now.left left buffer new) where
    abbrev took : Conversed t entry (with_source now left reads) goes.wanted marks new [] []
    took = conversed_took t entry now left reads goes.wanted marks buffer new goes.conversed goes.little read

    abbrev later : Standing
    later = with_both now left reads held writes

    abbrev settled_later : AreSettled entry.board later.board goes.wanted marks
    settled_later = goes.settled

    -- what the fault says of the bytes
    abbrev LeavesSo : End → Type 0
    LeavesSo end = LeavesAt t end goes.wanted new × StopsReading end left new

    leaves : (f : FrontFault) (end : End) → IsFault f left new → end_at f ≡ Some end → LeavesSo end
    leaves fault.Ended end fault_is is = subst LeavesSo (the_end Closed end is) ((are_open few, fault_is.1), fault_is.0)
    leaves fault.Cut end fault_is is = subst LeavesSo (the_end Cut end is) ((are_open few, fault_is.1, fault_is.2), fault_is.0)
    leaves fault.BadHead end fault_is is = subst LeavesSo (the_end BadHead end is) ((are_open few, fault_is), tt)
    leaves fault.HeadTooLong end fault_is is = subst LeavesSo (the_end HeadTooLong end is) ((are_open few, fault_is), tt)
    leaves fault.NoLength end fault_is is = subst LeavesSo (the_end NoLength end is) ((are_open few, fault_is), tt)
    leaves fault.BodyTooLong end fault_is is = subst LeavesSo (the_end BodyTooLong end is) ((are_open few, fault_is), tt)
    leaves fault.ReadFault end fault_is is = absurd (cc)
    leaves fault.NoMemory end fault_is is = absurd (cc)

    abbrev said_last : (last : List (List ℕ)) (sent unsent : List ℕ) → concat last ≡ sent ++ unsent → Appends now.held held sent → Conversed t entry later goes.wanted marks new last unsent
    said_last last sent unsent parts appended = conversed_sent t entry (with_source now left reads) held writes goes.wanted marks new last sent unsent took parts appended

    -- the end was told
    pub finished : (f : FrontFault) (end : End) → IsFault f left new → Finishes now.held held f (Ok end) → EndsWell t gave entry later marks end
    finished f end fault_is finishes =
        let l = leaves f end fault_is finishes.0 in
        comes_done t gave entry later goes.wanted marks new (last_text end ∷ []) [] (Ok end) given (said_last (last_text end ∷ []) (last_text end) [] refl finishes.1)
        ((refl, refl, settled_later), refl, refl, l.0, l.1)

    -- or a front of what is written at the end
    broke_last : (f : FrontFault) → IsFault f left new → BreaksLast now.held held f → BreaksOff t gave entry later marks WriteFault
    broke_last f fault_is b =
        let text = last_text b.end in
        let n = (b.front).count in
        let said = talk goes.wanted marks (now.board).histories in
        let parts : text ≡ take n text ++ drop n text = sym (take-append-drop n text) in
        let some : 0 < length (drop n text) = omega (arith, (b.front).short, length-drop n text) in
        comes_done t gave entry later goes.wanted marks new (text ∷ []) (drop n text) (Err WriteFault) given
        (said_last (text ∷ []) (take n text) (drop n text) (append-nil text ∙ parts) (b.front).wrote)
        ((refl, refl, settled_later), (some, said, take n text, ap (λ (x : List ℕ). said ++ x ∷ []) parts), end_text b.end refl (leaves f b.end fault_is b.is).0)

    pub broke : (f : FrontFault) (at : TalkFaultKind) → IsFault f left new → Finishes now.held held f (Err at)
        → BreaksOff t gave entry later marks at
    broke f ReadFault fault_is finishes =
        comes_done t gave entry later goes.wanted marks new [] [] (Err ReadFault) given (said_last [] [] [] refl finishes.1)
        ((refl, refl, settled_later), refl, refl, are_open few, subst (λ (g : FrontFault). IsFault g left new) finishes.0 fault_is)
    broke f WriteFault fault_is b = broke_last f fault_is b
    broke f NoMemory fault_is finishes =
        comes_done t gave entry later goes.wanted marks new [] [] (Err NoMemory) given (said_last [] [] [] refl finishes.1)
        (nothing (refl, refl, settled_later), refl, refl, are_open few)

-- what is wanted of a request, as it was found
meaning_is : (t : Table) (r : Request) (w : Meaning) → IsWanted t r w → meaning_of t r ≡ Some w
meaning_is t r w is = ap (option_map (λ (want : Want). record { close = r.close; want = want })) is.want ∙ (λ i. Some (record { close = sym is.close i; want = w.want }))

-- after a request that was taken
module _ (t : Table) (entry now later : Standing) (old : List Mark) (buffer : List ℕ) (goes : Goes t entry now old buffer) (number : ℕ) (count : number ≡ length old) (few : number < most_requests)
    (gave_step gave : List Given → Type 0) (join : (more : List Given) → gave_step more → gave (map given_of old ++ more)) (new : List Mark) (buffer2 : List ℕ) (r : Request) (takes : TakesRequest now.left later.left buffer buffer2 r) where
  abbrev before : Place
  before = record { held = now.held; board = now.board }

  abbrev after : Place
  after = record { held = later.held; board = later.board }

  open_now : AreOpen goes.wanted
  open_now = record { few = omega (arith, few, count, as_many t (λ given. ⊤) entry now old buffer goes tt); go_on = goes.go_on }

  -- less is left over than one read takes
  little_now : length buffer2 < most_piece
  little_now = little_behind now.left later.left buffer buffer2 r goes.little takes

  last_of : (w : Meaning) → IsLastOf (goes.wanted ++ w ∷ []) w
  last_of w = record { before = goes.wanted; parts = refl; open_before = open_now }

  -- a request more
  one_more : (unsent : List ℕ) → (s : IsServed gave_step number before after old new t r unsent) → OneMore t entry later (goes.wanted ++ s.0 ∷ []) new buffer2 unsent
  one_more unsent s = conversed_on t entry now goes.wanted old buffer goes.conversed goes.settled number count later gave_step new buffer2 unsent takes.bytes takes.taken s.0 little_now
      takes.consumed takes.parts (r, takes.is, meaning_is t r s.0 s.1) s.2

  given_now : (unsent : List ℕ) → IsServed gave_step number before after old new t r unsent → gave (map given_of new)
  given_now unsent s =
      let rep = s.2 in
      subst gave (sym (ap (map given_of) rep.marks ∙ givens-snoc old rep.mark)) (join (given_of rep.mark ∷ []) rep.given)

  pub counted : (unsent : List ℕ) → IsServed gave_step number before after old new t r unsent → length new ≡ number + 1
  counted unsent s = let rep = s.2 in ap length rep.marks ∙ (length-append old (rep.mark ∷ []) ∙ omega (arith, count))

  -- it did not ask to close
  pub goes_on : r.close ≡ false → IsServed gave_step number before after old new t r [] → Goes t entry later new buffer2 × gave (map given_of new) × (length new ≡ number + 1)
  goes_on stays s =
      let m = one_more [] s in (
        record {
          wanted = goes.wanted ++ s.0 ∷ [];
          conversed = m.conversed;
          settled = m.settled;
          go_on = all-snoc (λ (w : Meaning). w.close ≡ false) goes.wanted s.0 goes.go_on ((s.1).close ∙ stays);
          little = little_now;
        },
        given_now [] s,
        counted [] s,
      )

  -- it asked to close
  pub closes : r.close ≡ true → IsServed gave_step number before after old new t r [] → EndsWell t gave entry later new CloseAsked
  closes closing s =
      let m = one_more [] s in
      comes_done t gave entry later (goes.wanted ++ s.0 ∷ []) new buffer2 ([] ∷ []) [] (Ok CloseAsked) (given_now [] s)
      (conversed_sent t entry later later.held later.sink_failures (goes.wanted ++ s.0 ∷ []) new buffer2 ([] ∷ []) [] [] m.conversed refl (appends-nil later.held))
      ((refl, refl, m.settled), refl, refl, (s.0, last_of s.0, (s.1).close ∙ closing), little_now)

  abbrev rest : List ℕ
  rest = takes.bytes ++ buffer2

  abbrev took_it : Conversed t entry (with_source now later.left later.source_failures) goes.wanted old rest [] []
  took_it = conversed_took t entry now later.left later.source_failures goes.wanted old buffer rest goes.conversed goes.little (record { taken = takes.taken; consumed = takes.consumed; grown = sym takes.parts; ahead = takes.ahead })

  abbrev kept_it : MayGrow now.board later.board → Appends now.held later.held [] → Conversed t entry later goes.wanted old rest [] []
  kept_it grows appended = conversed_grown t entry (with_source now later.left later.source_failures) later goes.wanted old rest took_it grows refl appended

  settled_same : now.board ≡ later.board → AreSettled entry.board later.board goes.wanted old
  settled_same same = subst (λ (b : BoardState). AreSettled entry.board b goes.wanted old) same goes.settled

  -- the request that was taken stands in front of the rest
  in_front : (w : Meaning) → IsWanted t r w → HasInFront t rest (Some w)
  in_front w is = (r, record { front = takes.bytes; rest = buffer2; parts = refl; is = takes.is }, meaning_is t r w is)

  -- its form is not built
  unbuilt_in_front : want_of t r ≡ None → HasInFront t rest None
  unbuilt_in_front none = (r, record { front = takes.bytes; rest = buffer2; parts = refl; is = takes.is }, ap (option_map (λ (want : Want). record { close = r.close; want = want })) none)

  pub left_unbuilt : IsLeft gave_step before after old new t r → EndsWell t gave entry later new NotBuilt
  left_unbuilt l =
      let kept = kept_it (same_grows now.board later.board l.same) l.appended in
      subst (λ (marks : List Mark). EndsWell t gave entry later marks NotBuilt) (sym l.marks)
      (comes_done t gave entry later goes.wanted old rest ([] ∷ []) [] (Ok NotBuilt) (subst gave (append-nil (map given_of old)) (join [] l.given))
      (conversed_sent t entry later later.held later.sink_failures goes.wanted old rest ([] ∷ []) [] [] kept refl (appends-nil later.held))
      ((refl, refl, settled_same l.same), refl, refl, (open_now, unbuilt_in_front l.want), tt))

  -- what was given for it, without a mark
  given_unmarked : (more : List Given) → length more ≤ 1 → AllByRecursion (IsGivenFor t r) more → AreSettled entry.board later.board goes.wanted old → HasInHand t entry.board later.board (course goes.wanted old [] more rest)
  given_unmarked [] one known settled = nothing (refl, refl, settled)
  given_unmarked (g ∷ []) one known settled = unmarked g refl refl ((known.0).wanted, in_front (known.0).wanted (known.0).is, (known.0).words) settled
  given_unmarked (g ∷ g2 ∷ gs) one known settled = absurd (omega (arith, one))

  -- memory ran out before there was a reply
  gave_up : GivesUp gave_step number before after old new t r → BreaksOff t gave entry later new NoMemory
  gave_up up = by_mark up.leaves
    where
      by_mark : LeavesUnmarked gave_step before after old new t r ⊎ LeavesAsking gave_step number before after old new t r → BreaksOff t gave entry later new NoMemory
      by_mark (inl l) = record {
        course = course goes.wanted old [] l.more rest;
        marks_are = l.marks ∙ sym (append-nil old);
        given = subst (λ (marks : List Mark). gave (map given_of marks ++ l.more)) (sym l.marks) (join l.more l.given);
        conversed = kept_it (same_grows now.board later.board l.same) up.appended;
        fits = (given_unmarked l.more l.one l.known (settled_same l.same), refl, refl, open_now);
      }
      by_mark (inr l) = record {
        course = course goes.wanted old (l.mark ∷ []) [] rest;
        marks_are = l.marks;
        given = subst gave (sym (append-nil (map given_of new) ∙ (ap (map given_of) l.marks ∙ givens-snoc old l.mark))) (join (given_of l.mark ∷ []) l.given);
        conversed = kept_it (grows_since t entry now goes.wanted old buffer goes.conversed goes.settled number count l.wanted l.mark l.request l.words later rest (in_front l.wanted l.is) l.found l.todo l.asked l.may) up.appended;
        fits = (
          asking l.mark refl refl (was_asking t entry now goes.wanted old buffer goes.conversed goes.settled number count l.wanted l.mark l.request l.words later rest (in_front l.wanted l.is) l.found l.todo l.asked l.may),
          refl,
          refl,
          open_now,
        );
      }

  -- no read failed there
  pub no_read : (at : TalkFaultKind) → Serves gave_step number before after old new t r (Err at) → at ≢ ReadFault
  no_read at serves is = subst (λ (a : TalkFaultKind). Serves gave_step number before after old new t r (Err a)) is serves

  -- after part of a reply was written, or where memory ran out
  pub breaks_serving : (at : TalkFaultKind) → Serves gave_step number before after old new t r (Err at) → BreaksOff t gave entry later new at
  breaks_serving ReadFault serves = absurd serves
  breaks_serving WriteFault serves =
      let m = one_more serves.0 serves.2 in
      let w = (serves.2).0 in
      comes_done t gave entry later (goes.wanted ++ w ∷ []) new buffer2 [] serves.0 (Err WriteFault) (given_now serves.0 serves.2) m.conversed
      ((refl, refl, m.settled), (serves.1, m.before, m.front, m.texts), reply refl little_now w (last_of w))
  breaks_serving NoMemory up = gave_up up
