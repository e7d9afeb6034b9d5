-- A conversation goes on by one request, or by what was read.
use Rattle.std.proofs.Common.{◌≡◌, ℕ, ◌<◌, List, [], ◌∷◌, ◌++◌, length, drop, refl, sym, ap, subst, ◌∙◌, arith, append_assoc, append-nil, Option, Some}
use Rattle.std.proofs.lemmas.List.{length-drop, drop-append-le}
use Rattle.std.proofs.lemmas.List.Folds.{concat-append}
use Rattle.std.specs.List.{concat}
use Rattle.std.specs.Io.KnownBytes.{Consumes, Appends}
use Rattle.ck_devices.specs.Causes.{Failures}
use Rattle.zone_model.specs.declared.events.Event.{Event}
use Rattle.zone_model.specs.declared.events.Event.TheVariants.{Made, StoreFailed}
use Rattle.board_model.specs.Asks.{append_in}
use Rattle.zone_model.specs.Histories.{Histories}
use Rattle.board_model.specs.Turns.{BoardState, AreLegal}
use Rattle.http_front.specs.Users.{Table}
use Rattle.http_front.specs.Reading.{most_piece, ReadsOn}
use Rattle.wire_calls.specs.declared.reply.Reply.{Reply}
use Rattle.talk_model.specs.declared.marks.Mark.{Mark}
use Rattle.talk_model.specs.Requests.{Meaning, Wants, HasInFront}
use Rattle.talk_model.specs.Given.{Given, given_of, AreWordsFor}
use Rattle.talk_model.specs.Calls.{Step, replies, step_for, text_of, text_at}
use Rattle.talk_model.specs.Marks.{IsLater, IsMarkOf, AreMarksOf, AreInOrder, asks_in}
use Rattle.talk_model.specs.Talk.{talk}
use Rattle.talk_model.specs.Alone.{Storing, WentSo, after_asks, run_step, after_all, replies_alone}
use Rattle.talk_model.proofs.GrowthLemmas.{front-length, OwnAreMarked, TurnsAreMarked, later_same, later_on, mark-grown, behind-grown, marks-grown, talk-grown}
use Rattle.talk_model.proofs.MarkLemmas.{reply_at, zip-snoc, concat-snoc, asks_in-snoc, asked-snoc, marks-snoc, talk-snoc, marks-length, marks-within}
use Rattle.talk_model.proofs.AloneLemmas.{after_all-snoc, replies-snoc}
use Rattle.ck_devices.proofs.Streams.{consumes-nil, appends-nil, consumes_on, appends_on}
use Rattle.ck_server.specs.Conversations.{Standing, IsLone, asked_for, Conversed, AreSettled}
use Rattle.ck_server.specs.Outcomes.{Course, MayBeAsking, WasAsking}
use Rattle.ck_server.specs.Answering.{AsksOn, Replies}
use Rattle.ck_server.proofs.AheadLemmas.{piece_of_little, piece_on}
use Rattle.ck_server.proofs.AskingLemmas.{UnaskedAreSame, MayGrow, may_grow, Found, Chained, chain}

-- nothing was said yet
abbrev pub conversed-start : (t : Table) (entry : Standing) → AreLegal entry.board.histories → Conversed t entry entry [] [] [] [] []
conversed-start t entry legal = record {
  requests = [];
  sent = [];
  each = tt;
  consumed = consumes-nil entry.left;
  ahead = piece_of_little [] (omega arith);
  board = later_same entry.board;
  legal = legal;
  marked = tt;
  text = refl;
  appended = appends-nil entry.held;
  said = λ lone storing went. refl;
}

-- the same with other bytes left
abbrev pub with_source : Standing → Option (List ℕ) → Failures → Standing
with_source s left failures = record { left = left; source_failures = failures; held = s.held; sink_failures = s.sink_failures; board = s.board }

-- what was read stands behind the requests
abbrev pub conversed_took : (t : Table) (entry now : Standing) (left : Option (List ℕ)) (failures : Failures) (wanted : List Meaning) (marks : List Mark) (old new : List ℕ) → (c : Conversed t entry now wanted marks old [] []) → length old < most_piece → ReadsOn now.left left old new
    → Conversed t entry (with_source now left failures) wanted marks new [] []
conversed_took t entry now left failures wanted marks old new c little read = record {
  requests = c.requests;
  sent = c.sent;
  each = c.each;
  consumed =
      subst (λ (bytes : List ℕ). Consumes entry.left left bytes) (append_assoc (concat c.requests) old read.taken ∙ ap (λ bytes. concat c.requests ++ bytes) (sym read.grown))
      (consumes_on entry.left now.left left (concat c.requests ++ old) read.taken c.consumed read.consumed);
  ahead = piece_on now.left left old new little read;
  board = c.board;
  legal = c.legal;
  marked = c.marked;
  text = c.text;
  appended = c.appended;
  said = c.said;
}

-- what is written last was written, or a part of it
abbrev pub with_sink : Standing → Option (List ℕ) → Failures → Standing
with_sink s held failures = record { left = s.left; source_failures = s.source_failures; held = held; sink_failures = failures; board = s.board }

-- all replies were written
pub all_sent : (t : Table) (entry now : Standing) (wanted : List Meaning) (marks : List Mark) (rest : List ℕ) (c : Conversed t entry now wanted marks rest [] []) → concat (talk wanted marks now.board.histories) ≡ c.sent
all_sent t entry now wanted marks rest c = ap concat (sym (append-nil (talk wanted marks now.board.histories))) ∙ (c.text ∙ append-nil c.sent)

-- texts were written last, but for unsent
abbrev pub conversed_sent : (t : Table) (entry now : Standing) (held : Option (List ℕ)) (failures : Failures) (wanted : List Meaning) (marks : List Mark) (rest : List ℕ) (last : List (List ℕ)) (sent unsent : List ℕ) → (c : Conversed t entry now wanted marks rest [] []) → concat last ≡ sent ++ unsent → Appends now.held held sent
    → Conversed t entry (with_sink now held failures) wanted marks rest last unsent
conversed_sent t entry now held failures wanted marks rest last sent unsent c parts appended = record {
  requests = c.requests;
  sent = c.sent ++ sent;
  each = c.each;
  consumed = c.consumed;
  ahead = c.ahead;
  board = c.board;
  legal = c.legal;
  marked = c.marked;
  text =
      let before : concat (talk wanted marks (now.board).histories) ≡ c.sent = all_sent t entry now wanted marks rest c in
      concat-append (talk wanted marks (now.board).histories) last ∙ ((λ i. before i ++ parts i) ∙ sym (append_assoc c.sent sent unsent));
  appended = appends_on entry.held now.held held c.sent sent c.appended appended;
  said = c.said;
}

-- the appends went so before too
pub went_before : (storing : Storing) (b b2 : BoardState) → IsLater b b2 → WentSo storing b2.histories → WentSo storing b.histories
went_before storing b b2 later went lock number within =
    let on = later.grown lock in
    went lock number (omega (arith, within, front-length (b.histories lock) (b2.histories lock) on))
    ∙ ap append_in (ap (drop number) on.grown ∙ drop-append-le number (b.histories lock) on.more (omega (arith, within)))
    ∙ first_of (drop number (b.histories lock)) on.more (omega (arith, within, length-drop number (b.histories lock)))
  where
    first_of : (xs more : List Event) → 0 < length xs → append_in (xs ++ more) ≡ append_in xs
    first_of [] more some = absurd (omega (arith, some))
    first_of (Made origin commits ∷ xs) more some = refl
    first_of (StoreFailed origin from to ∷ xs) more some = refl

-- the board may have been asked, and nothing was written
abbrev pub conversed_grown : (t : Table) (entry now later : Standing) (wanted : List Meaning) (marks : List Mark) (rest : List ℕ) → (c : Conversed t entry now wanted marks rest [] []) → MayGrow now.board later.board → later.left ≡ now.left → Appends now.held later.held []
    → Conversed t entry later wanted marks rest [] []
conversed_grown t entry now later wanted marks rest c g same_left kept =
    let same = talk-grown entry.board now.board later.board g.later 0 marks wanted c.marked in
    record {
      requests = c.requests;
      sent = c.sent;
      each = c.each;
      consumed = subst (λ (l : Option (List ℕ)). Consumes entry.left l (concat c.requests ++ rest)) (sym same_left) c.consumed;
      ahead = c.ahead;
      board = later_on entry.board now.board later.board c.board g.later;
      legal = g.legal c.legal;
      marked = marks-grown entry.board now.board later.board g.later 0 marks wanted c.marked;
      text = ap (λ (texts : List (List ℕ)). concat (texts ++ [])) same ∙ c.text;
      appended = subst (λ (bytes : List ℕ). Appends entry.held later.held bytes) (append-nil c.sent) (appends_on entry.held now.held later.held c.sent [] c.appended kept);
      said = λ lone storing went. same ∙ c.said lone storing (went_before storing now.board later.board g.later went);
    }

-- how far a conversation went that wrote all that it had to
abbrev pub course : List Meaning → List Mark → List Mark → List Given → List ℕ → Course
course wanted done begun more rest = record { wanted = wanted; done = done; begun = begun; more = more; rest = rest; last = []; unsent = [] }

-- where a request more was answered, but for unsent
pub record OneMore (t : Table) (entry later : Standing) (wanted : List Meaning) (marks : List Mark) (rest unsent : List ℕ) : Type 0 where
  pub conversed : Conversed t entry later wanted marks rest [] unsent
  pub settled : AreSettled entry.board later.board wanted marks
  pub before : List (List ℕ)
  pub front : List ℕ
  pub texts : talk wanted marks later.board.histories ++ [] ≡ before ++ (front ++ unsent) ∷ []

module _ (t : Table) (entry now : Standing) (wanted : List Meaning) (old : List Mark) (buffer : List ℕ) (c : Conversed t entry now wanted old buffer [] []) (settled : AreSettled entry.board now.board wanted old) (number : ℕ) (count : number ≡ length old) where
  abbrev eh : Histories Event
  eh = (entry.board).histories

  abbrev nh : Histories Event
  nh = (now.board).histories

  found : Found entry.board now.board (asks_in old)
  found = record { later = c.board; within = marks-within entry.board now.board 0 old wanted c.marked; ordered = settled.ordered; unasked = settled.unasked; own = settled.own; turns = settled.turns }

  abbrev run : Storing → Histories Event
  run storing = after_all storing eh (asked_for wanted old)

  lone_now : IsLone entry.board → IsLone now.board
  lone_now lone = ((c.board).still ∙ lone.0, λ lock. (c.board).stays lock 0 (lone.1 lock))

  histories_are : (b : BoardState) → IsLater now.board b → IsLone entry.board → (storing : Storing) → WentSo storing b.histories → nh ≡ run storing
  histories_are b later lone storing went = λ i lock. settled.left_behind lone storing (went_before storing now.board b later went) lock i

  module _ (w : Meaning) (m : Mark) (request : m.request ≡ number) (words : AreWordsFor w.want (given_of m)) where
    abbrev step : Step
    step = step_for w.want (given_of m)

    -- a request whose asks were whole up to the next one
    module _ (later : Standing) (rest : List ℕ) (front : HasInFront t rest (Some w)) (reached : BoardState) (todo : Step)
        (on : AsksOn now.board reached m.asks.items step todo) (may : MayBeAsking reached later.board todo) where
      abbrev reaching : Chained entry.board now.board reached (asks_in old) m.asks.items step todo
      reaching = chain entry.board m.asks.items step todo now.board reached (asks_in old) found on

      since : MayGrow reached later.board
      since = may_grow reached later.board todo may

      mark_there : IsMarkOf number entry.board reached m w
      mark_there = record { request = request; words = words; asks = reaching.asks_are }

      pub grows_since : MayGrow now.board later.board
      grows_since = record { later = later_on now.board reached later.board (reaching.grows).later since.later; legal = λ l. since.legal ((reaching.grows).legal l) }

      pub was_asking : WasAsking t entry.board later.board (course wanted old (m ∷ []) [] rest) m
      was_asking = record {
        wanted = w;
        front = front;
        marked = subst (λ (n : ℕ). IsMarkOf n entry.board later.board m w) count (mark-grown entry.board reached later.board since.later number m w mark_there);
        found = reached;
        later = later_on entry.board now.board reached c.board (reaching.grows).later;
        settled = record {
          ordered = subst AreInOrder (sym (asks_in-snoc old m)) (reaching.found).ordered;
          unasked = subst (UnaskedAreSame entry.board reached) (sym (asks_in-snoc old m)) (reaching.found).unasked;
          own = subst (OwnAreMarked entry.board reached) (sym (asks_in-snoc old m)) (reaching.found).own;
          turns = subst (TurnsAreMarked entry.board reached) (sym (asks_in-snoc old m)) (reaching.found).turns;
          left_behind = λ lone storing went lock.
              reaching.run (lone_now lone) storing went lock ∙ (λ i. after_asks storing (length m.asks.items) (histories_are reached (reaching.grows).later lone storing went i) step lock);
        };
        may = subst (MayBeAsking reached later.board) (sym (behind-grown entry.board reached later.board since.later number m w mark_there ∙ reaching.todo_is)) may;
      }

    -- a request whose asks were whole
    module _ (later : Standing) (reply : Reply) (on : AsksOn now.board later.board m.asks.items step (replies reply)) where
      abbrev lh : Histories Event
      lh = (later.board).histories

      abbrev chained : Chained entry.board now.board later.board (asks_in old) m.asks.items step (replies reply)
      chained = chain entry.board m.asks.items step (replies reply) now.board later.board (asks_in old) found on

      abbrev since_now : IsLater now.board later.board
      since_now = (chained.grows).later

      mark_is : IsMarkOf number entry.board later.board m w
      mark_is = record { request = request; words = words; asks = chained.asks_are }

      marked_before : AreMarksOf 0 entry.board later.board old wanted
      marked_before = marks-grown entry.board now.board later.board since_now 0 old wanted c.marked

      talk_before : talk wanted old lh ≡ talk wanted old nh
      talk_before = talk-grown entry.board now.board later.board since_now 0 old wanted c.marked

      abbrev text : List ℕ
      text = text_of w.close reply

      reply_is : reply_at lh m w ≡ text
      reply_is = ap (text_at w.close) chained.todo_is

      talk_now : talk (wanted ++ w ∷ []) (old ++ m ∷ []) lh ≡ talk wanted old nh ++ text ∷ []
      talk_now = talk-snoc entry.board later.board 0 old wanted m w marked_before ∙ (λ i. talk_before i ++ reply_is i ∷ [])

      as_many : length old ≡ length wanted
      as_many = marks-length entry.board now.board 0 old wanted c.marked

      module _ (lone : IsLone entry.board) (storing : Storing) (went : WentSo storing lh) where
        from_run : nh ≡ run storing
        from_run = histories_are later.board since_now lone storing went

        run_text : text_of w.close (run_step storing (run storing) step).1 ≡ text
        run_text = (λ i. text_of w.close (run_step storing (sym from_run i) step).1) ∙ ap (text_of w.close) (chained.run_all (lone_now lone) storing went reply refl).0

        said_now : talk (wanted ++ w ∷ []) (old ++ m ∷ []) lh ≡ replies_alone storing eh (asked_for (wanted ++ w ∷ []) (old ++ m ∷ []))
        said_now =
            let run_all : replies_alone storing eh (asked_for (wanted ++ w ∷ []) (old ++ m ∷ [])) ≡ talk wanted old nh ++ text ∷ [] =
            ap (replies_alone storing eh) (asked-snoc wanted old w m as_many)
            ∙ (replies-snoc storing eh (asked_for wanted old) w (given_of m) ∙ (λ i. sym (c.said lone storing (went_before storing now.board later.board since_now went)) i ++ run_text i ∷ [])) in
            talk_now ∙ sym run_all

        left_behind_now : (lock : ℕ) → lh lock ≡ after_all storing eh (asked_for (wanted ++ w ∷ []) (old ++ m ∷ [])) lock
        left_behind_now lock =
            let run_now : after_all storing eh (asked_for (wanted ++ w ∷ []) (old ++ m ∷ [])) ≡ (run_step storing (run storing) step).0 =
            ap (after_all storing eh) (asked-snoc wanted old w m as_many) ∙ after_all-snoc storing eh (asked_for wanted old) w (given_of m) in
            (chained.run_all (lone_now lone) storing went reply refl).1 lock ∙ ((λ i. (run_step storing (from_run i) step).0 lock) ∙ ap (λ (g : Histories Event). g lock) (sym run_now))

      -- the request was marked, and its reply was written but for unsent
      conversed_marked : (buffer2 : List ℕ) → length buffer2 < most_piece → (bytes taken : List ℕ) → Consumes now.left later.left taken → buffer ++ taken ≡ bytes ++ buffer2 → Wants t bytes w
          → (sent unsent : List ℕ) → text ≡ sent ++ unsent → Appends now.held later.held sent → OneMore t entry later (wanted ++ w ∷ []) (old ++ m ∷ []) buffer2 unsent
      conversed_marked buffer2 little bytes taken consumed parts is sent unsent text_is appended = record {
        conversed = record {
          requests = c.requests ++ bytes ∷ [];
          sent = c.sent ++ sent;
          each = zip-snoc (Wants t) c.requests wanted bytes w c.each is;
          consumed =
              let bytes_are : (concat c.requests ++ buffer) ++ taken ≡ concat (c.requests ++ bytes ∷ []) ++ buffer2 =
              append_assoc (concat c.requests) buffer taken ∙ (ap (λ b. concat c.requests ++ b) parts
              ∙ (sym (append_assoc (concat c.requests) bytes buffer2) ∙ ap (λ b. b ++ buffer2) (sym (concat-snoc c.requests bytes)))) in
              subst (λ b. Consumes entry.left later.left b) bytes_are (consumes_on entry.left now.left later.left _ _ c.consumed consumed);
          ahead = piece_of_little buffer2 little;
          board = later_on entry.board now.board later.board c.board since_now;
          legal = (chained.grows).legal c.legal;
          marked = marks-snoc entry.board later.board 0 number old wanted m w (omega (arith, count)) marked_before (mark_is, reply, chained.todo_is);
          text =
              let all : concat (talk wanted old nh) ≡ c.sent = all_sent t entry now wanted old buffer c in
              ap concat (append-nil (talk (wanted ++ w ∷ []) (old ++ m ∷ []) lh) ∙ talk_now)
              ∙ (concat-snoc (talk wanted old nh) text ∙ ((λ i. all i ++ text_is i) ∙ sym (append_assoc c.sent sent unsent)));
          appended = appends_on entry.held now.held later.held c.sent sent c.appended appended;
          said = said_now;
        };
        settled = record {
          ordered = subst AreInOrder (sym (asks_in-snoc old m)) (chained.found).ordered;
          unasked = subst (UnaskedAreSame entry.board later.board) (sym (asks_in-snoc old m)) (chained.found).unasked;
          own = subst (OwnAreMarked entry.board later.board) (sym (asks_in-snoc old m)) (chained.found).own;
          turns = subst (TurnsAreMarked entry.board later.board) (sym (asks_in-snoc old m)) (chained.found).turns;
          left_behind = left_behind_now;
        };
        before = talk wanted old nh;
        front = sent;
        texts = append-nil (talk (wanted ++ w ∷ []) (old ++ m ∷ []) lh) ∙ (talk_now ∙ ap (λ (x : List ℕ). talk wanted old nh ++ x ∷ []) text_is);
      }

  -- a whole request was taken and answered, and of the reply all but unsent was written
  pub conversed_on : (later : Standing) → (gave : List Given → Type 0) (new : List Mark) (buffer2 unsent bytes taken : List ℕ) (w : Meaning) → length buffer2 < most_piece
      → Consumes now.left later.left taken → buffer ++ taken ≡ bytes ++ buffer2 → Wants t bytes w
      → Replies gave number (record { held = now.held; board = now.board }) (record { held = later.held; board = later.board }) old new w unsent → OneMore t entry later (wanted ++ w ∷ []) new buffer2 unsent
  conversed_on later gave new buffer2 unsent bytes taken w little consumed parts is rep =
      subst (λ (marks : List Mark). OneMore t entry later (wanted ++ w ∷ []) marks buffer2 unsent) (sym rep.marks)
      (conversed_marked w rep.mark rep.request rep.words later rep.reply rep.asked buffer2 little bytes taken consumed parts is rep.sent unsent rep.text rep.appended)
