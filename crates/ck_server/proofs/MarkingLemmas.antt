-- How asks are marked.
use Rattle.std.proofs.Common.{◌≡◌, ℕ, List, [], ◌∷◌, refl, sym, ap, subst, inl, inr, Result, Ok, Err, IfOk}
use Rattle.std.specs.Prelude.{◌⊎◌}
use Rattle.std.specs.Result.{IsErrAnd}
use Rattle.board_model.specs.declared.answers.Answer.{Answer}
use Rattle.board_model.specs.declared.answers.Answered.{Answered}
use Rattle.board_model.specs.Turns.{BoardState, IsAsked, MayHaveAsked}
use Rattle.wire_calls.specs.declared.reply.Reply.{Reply}
use Rattle.talk_model.specs.declared.marks.At.{At}
use Rattle.talk_model.specs.declared.marks.Mark.{Mark}
use Rattle.talk_model.specs.Given.{Given}
use Rattle.talk_model.specs.Calls.{Ask, Step, asks, replies}
use Rattle.ck_server.specs.declared.asking.Asking.{Asking}
use Rattle.ck_server.specs.ReplyOptions.{reply_from}
use Rattle.ck_server.specs.Answering.{at_of, AsksOn}
use Rattle.ck_server.specs.Marking.{IsMarked, step_from, StopsAsking, AsksAll, WasMarked, MarksAsks}

pub by_error : {T E : Type 0} (P : E → Type 0) (X : Result T E → Type 0) (res : Result T E) → IsErrAnd res P → ((e : E) → X (Err e)) → X res
by_error P X (Ok x) err k = absurd err
by_error P X (Err e) err k = k e

abbrev ask_of : Asking → Ask
ask_of asking = record { lock = asking.lock; part = asking.part }

abbrev next_of : Asking → Answer → Step
next_of asking a = replies (reply_from asking.part asking.options a)

-- the ask was in hand
pub was_asking : (before after : BoardState) (asking : Asking) (ats : List At) → ats ≡ [] → MayHaveAsked before after asking.lock asking.part → StopsAsking before after ats (step_from asking)
was_asking before after asking ats none may =
    subst (λ (l : List At). StopsAsking before after l (step_from asking)) (sym none) (record { found = before; todo = step_from asking; asked = (refl, refl); may = may })

module _ {E : Type 0} (before after : BoardState) (asking : Asking) where
  -- nothing was asked yet
  pub none_asked : (e : E) (ats : List At) → ats ≡ [] → before ≡ after → AsksAll before after ats (step_from asking) (Err e)
  none_asked e ats none same =
      subst (λ (l : List At). AsksAll before after l (step_from asking) (Err e)) (sym none) (record { found = before; todo = step_from asking; asked = (refl, refl); may = inl same })

  -- it was answered
  pub was_asked : (answered : Answered) (ats : List At) (res : Result Reply E) → IsAsked before after asking.lock asking.part answered → ats ≡ at_of (ask_of asking) answered ∷ []
      → IfOk res (λ reply. reply ≡ reply_from asking.part asking.options answered.answer) → AsksAll before after ats (step_from asking) res
  was_asked answered ats (Ok reply) k one is =
      subst (λ (l : List At). AsksOn before after l (step_from asking) (replies reply)) (sym one) (after, answered, refl, k, (refl, ap replies (sym is)))
  was_asked answered ats (Err e) k one is =
      subst (λ (l : List At). AsksAll before after l (step_from asking) (Err e)) (sym one)
      (record { found = after; todo = next_of asking answered.answer; asked = (after, answered, refl, k, (refl, refl)); may = refl })

-- the mark tells what was asked
pub marks_told : {E : Type 0} (number : ℕ) (g : Given) (before after : BoardState) (old new : List Mark) (step : Step) (res : Result Reply E) (ats : List At) → IsMarked number g ats old new → AsksAll before after ats step res
    → MarksAsks number g before after old new step res
marks_told number g before after old new step (Ok reply) ats marked asked = record { ats = ats; marked = marked; asked = asked }
marks_told number g before after old new step (Err e) ats marked asked = inr (record { ats = ats; marked = marked; asked = asked })
