-- How a request is marked and answered, step by step.
use Rattle.std.specs.Prelude.{◌≡◌, ◌⊎◌, ◌<◌, ℕ, Bool, List, [], ◌∷◌, ◌++◌, Option, None, Some, Result, Ok, Err}
use Rattle.std.specs.Io.KnownBytes.{Appends}
use Rattle.ck_devices.specs.Fronts.{WritesFront}
use Rattle.board_model.specs.Parts.{MayBeAsked}
use Rattle.board_model.specs.Turns.{BoardState}
use Rattle.ck_devices.specs.declared.faults.Failed.{Failed}
use Rattle.ck_devices.specs.Runs.{GivesInTurn}
use Rattle.board_model.specs.declared.parts.Part.TheVariants as part
use Rattle.wire_calls.specs.declared.call.Call.{Call}
use Rattle.wire_calls.specs.declared.call.Call.TheVariants.{Modify, Lookup}
use Rattle.wire_calls.specs.declared.reply.Reply.{Reply}
use Rattle.http_front.specs.declared.request.Request.{Request}
use Rattle.http_front.specs.Users.{Table}
use Rattle.talk_model.specs.declared.marks.At.{At}
use Rattle.talk_model.specs.declared.marks.Mark.{Mark}
use Rattle.talk_model.specs.declared.wants.Want.{Want}
use Rattle.talk_model.specs.declared.ends.TalkFaultKind.{TalkFaultKind}
use Rattle.talk_model.specs.declared.ends.TalkFaultKind.TheVariants.{ReadFault, WriteFault, NoMemory}
use Rattle.talk_model.specs.Requests.{want_of}
use Rattle.talk_model.specs.Given.{Given, given_of, draws_by}
use Rattle.talk_model.specs.Calls.{Step, asks, replies, lock_of_zone, scope_of}
use Rattle.ck_server.specs.declared.serving.Served.{Served}
use Rattle.ck_server.specs.declared.serving.Served.TheVariants.{Answered, NotBuilt}
use Rattle.ck_server.specs.declared.asking.Asking.{Asking}
use Rattle.ck_server.specs.ReplyOptions.{HasMeantOps, reply_from}
use Rattle.ck_server.specs.Outcomes.{MayBeAsking}
use Rattle.ck_server.specs.Answering.{Place, AsksOn, Serves}

abbrev pub given_with : ℕ → List (List ℕ) → Bool → Given
given_with moment words drawn = record { moment = moment; words = words; drawn = drawn }

-- A mark of that number, which tells this, stands behind the others.
pub record IsMarked (number : ℕ) (g : Given) (ats : List At) (old new : List Mark) : Type 0 where
  pub mark : Mark
  pub marks : new ≡ old ++ mark ∷ []
  pub request : mark.request ≡ number
  pub given : given_of mark ≡ g
  pub asks : mark.asks.items ≡ ats

-- what a call asks first
abbrev pub asking_of : Call → Given → Asking
asking_of (Modify c) g = record {
  lock = lock_of_zone c.zone;
  part = part.Modify c.caller (scope_of c.database) c.zone c.atomic c.ops g.moment g.words;
  options = record { numbers_as_strings = c.numbers_as_strings; desired_keys = None };
}
asking_of (Lookup c) g = record {
  lock = lock_of_zone c.zone;
  part = part.Lookup c.caller (scope_of c.database) c.zone c.names;
  options = record { numbers_as_strings = c.numbers_as_strings; desired_keys = c.desired_keys };
}

-- what is to be done where this is asked
abbrev pub step_from : Asking → Step
step_from a = asks (record { lock = a.lock; part = a.part }) (λ answer. replies (reply_from a.part a.options answer))

-- it may be asked
pub record IsAskable (a : Asking) : Type 0 where
  pub lock : a.lock < 16
  pub part : MayBeAsked a.lock a.part
  pub ops : HasMeantOps a.part

-- An ask of the step, or the building of its reply, found no memory behind the asks that were whole.
pub record StopsAsking (before after : BoardState) (ats : List At) (step : Step) : Type 0 where
  pub found : BoardState
  pub todo : Step
  pub asked : AsksOn before found ats step todo
  pub may : MayBeAsking found after todo

-- what the step asks was asked, up to its reply, or memory ran out
abbrev pub AsksAll : {E : Type 0} → BoardState → BoardState → List At → Step → Result Reply E → Type 0
AsksAll before after ats step (Ok reply) = AsksOn before after ats step (replies reply)
AsksAll before after ats step (Err e) = StopsAsking before after ats step

-- The request is marked with the asks of its step that were whole.
pub record WasMarked {E : Type 0} (number : ℕ) (g : Given) (before after : BoardState) (old new : List Mark) (step : Step) (result : Result Reply E) : Type 0 where
  pub ats : List At
  pub marked : IsMarked number g ats old new
  pub asked : AsksAll before after ats step result

-- so it is, or memory ran out before anything was asked or marked
abbrev pub MarksAsks : {E : Type 0} → ℕ → Given → BoardState → BoardState → List Mark → List Mark → Step → Result Reply E → Type 0
MarksAsks {E} number g before after old new step (Ok reply) = WasMarked {E = E} number g before after old new step (Ok reply)
MarksAsks {E} number g before after old new step (Err e) = ((new ≡ old) × (before ≡ after)) ⊎ WasMarked {E = E} number g before after old new step (Err e)

-- a request of which this is wanted is served, by whatever table
abbrev pub ServesWant : (List Given → Type 0) → ℕ → Place → Place → List Mark → List Mark → Bool → Want → Result Served TalkFaultKind → Type 0
ServesWant gave number before after old new close want result =
    (t : Table) (r : Request) → r.close ≡ close → want_of t r ≡ Some want → Serves gave number before after old new t r result

-- A mark without asks was made, and a front of the text was written, and not all.
pub record BreaksRefusing (number : ℕ) (g : Given) (held now : Option (List ℕ)) (old new : List Mark) (text : List ℕ) : Type 0 where
  pub marked : IsMarked number g [] old new
  pub front : WritesFront held now text

-- a request was marked without asks and answered with the text, or a front of it, or memory ran out before or behind the mark
abbrev pub Refuses : ℕ → Given → Option (List ℕ) → Option (List ℕ) → List Mark → List Mark → List ℕ → Result Served TalkFaultKind → Type 0
Refuses number g held now old new text (Ok Answered) = IsMarked number g [] old new × Appends held now text
Refuses number g held now old new text (Ok NotBuilt) = ⊥
Refuses number g held now old new text (Err ReadFault) = ⊥
Refuses number g held now old new text (Err WriteFault) = BreaksRefusing number g held now old new text
Refuses number g held now old new text (Err NoMemory) = Appends held now [] × ((new ≡ old) ⊎ IsMarked number g [] old new)

-- one request was given this moment, and its words in turn
abbrev pub GaveOne : {R : Type 0} → ℕ → (R → Result (List ℕ) Failed → R → Type 0) → R → R → List Given → Type 0
GaveOne moment draws r r2 given = (g : Given) × (given ≡ g ∷ []) × (g.moment ≡ moment) × GivesInTurn draws r (draws_by g.words g.drawn) r2
