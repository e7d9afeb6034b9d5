-- The single-client run: the replies of a board that nobody else asks, and the histories that it leaves, by the histories at
-- first, the requests, what the clock and the words gave, and which appends to its store fail, alone. Each ask is taken at the whole history as it
-- stands. Such a board writes as seat 0.
use Rattle.std.specs.Prelude.{◌≡◌, ℕ, zero, suc, ◌<◌, ◌==◌, List, [], ◌∷◌, ◌++◌, length, drop, if◌then◌else◌}
use Rattle.zone_model.specs.declared.events.Event.{Event}
use Rattle.zone_model.specs.Histories.{Histories}
use Rattle.board_model.specs.declared.answers.Answer.{Answer}
use Rattle.board_model.specs.Asks.{Append, sight, answer, made, append_in, told}
use Rattle.wire_calls.specs.declared.reply.Reply.{Reply}
use Rattle.talk_model.specs.Requests.{Meaning}
use Rattle.talk_model.specs.Given.{Given}
use Rattle.talk_model.specs.Calls.{Ask, Step, asks, replies, step_for, text_of}

-- what becomes of the appends of each lock, each by its number: how many events are there before it
abbrev pub Storing : Type 0
Storing = ℕ → ℕ → Append

-- the appends went so, as their events tell
abbrev pub WentSo : Storing → Histories Event → Type 0
WentSo storing h = (lock number : ℕ) → number < length (h lock) → storing lock number ≡ append_in (drop number (h lock))

module _ (storing : Storing) where
  -- what an ask makes, the answer to it, and the histories after it
  abbrev pub made_alone : Histories Event → Ask → List Event
  made_alone h a = made (storing a.lock (length (h a.lock))) a.lock 0 (h a.lock) a.part

  abbrev pub answer_alone : Histories Event → Ask → Answer
  answer_alone h a = told (made_alone h a) (answer a.lock (sight a.lock (h a.lock) a.part) a.part)

  abbrev pub after_ask : Histories Event → Ask → Histories Event
  after_ask h a lock = if lock == a.lock then h lock ++ made_alone h a else h lock

  -- the histories after so many asks of a step
  abbrev pub after_asks : ℕ → Histories Event → Step → Histories Event
  after_asks zero h step = h
  after_asks (suc n) h (asks a next) = after_asks n (after_ask h a) (next (answer_alone h a))
  after_asks (suc n) h (replies r) = h

  -- the histories after all of them, and the reply
  abbrev pub run_step : Histories Event → Step → Histories Event × Reply
  run_step h (asks a next) = run_step (after_ask h a) (next (answer_alone h a))
  run_step h (replies r) = (h, r)

  -- the histories after requests, each with what was given for it
  abbrev pub after_all : Histories Event → List (Meaning × Given) → Histories Event
  after_all h [] = h
  after_all h ((w, g) ∷ asked) = after_all (run_step h (step_for w.want g)).0 asked

  -- the replies to them
  abbrev pub replies_alone : Histories Event → List (Meaning × Given) → List (List ℕ)
  replies_alone h [] = []
  replies_alone h ((w, g) ∷ asked) = let end = run_step h (step_for w.want g) in text_of w.close end.1 ∷ replies_alone end.0 asked
