-- How a request is served.
use Rattle.std.proofs.Common.{◌≡◌, ℕ, ◌<◌, ◌≤◌, ◌^◌, Bool, true, false, List, [], ◌∷◌, ◌++◌, length, take, drop, refl, sym, ap, subst, ◌∙◌, arith, inl, inr, append-nil, Option, Some, Result, Ok, Err}
use Rattle.std.specs.Prelude.{◌⊎◌, MatchBool}
use Rattle.std.proofs.lemmas.List.{take-append-drop, length-drop}
use Rattle.std.proofs.lemmas.Bool.{and_parts}
use Rattle.std.specs.Result.{IsErrAnd}
use Rattle.std.specs.Io.KnownBytes.{Appends}
use Rattle.std.specs.List.{AllByRecursion}
use Rattle.ck_base.specs.declared.key.ZoneKey.{ZoneKey}
use Rattle.ck_base.specs.declared.route.Database.{Database}
use Rattle.ck_base.specs.declared.route.Database.TheVariants.{Private, Shared, Public}
use Rattle.ck_base.specs.KnownNames.{is_own_default}
use Rattle.zone_laws.proofs.NameLaws.{same-true}
use Rattle.board_model.specs.Parts.{IsOwnDefault, MayBeAsked}
use Rattle.board_model.specs.Turns.{BoardState}
use Rattle.board_model.specs.declared.answers.Answer.{Answer}
use Rattle.board_model.specs.declared.answers.Answer.TheVariants as answer
use Rattle.ck_devices.specs.Runs.{GivesInTurn}
use Rattle.ck_devices.specs.declared.faults.Failed.{Failed}
use Rattle.ck_devices.specs.Fronts.{WritesFront}
use Rattle.error_replies.specs.declared.errors.ServerError.{ServerError}
use Rattle.error_replies.specs.declared.errors.ServerError.TheVariants.{TryAgainLater}
use Rattle.wire_calls.specs.declared.call.ModifyCall.{ModifyCall}
use Rattle.wire_calls.specs.declared.call.LookupCall.{LookupCall}
use Rattle.wire_calls.specs.declared.call.Call.{Call}
use Rattle.wire_calls.specs.declared.call.Call.TheVariants.{Modify, Lookup}
use Rattle.wire_calls.specs.declared.reply.Reply.{Reply}
use Rattle.wire_calls.specs.declared.reply.Reply.TheVariants.{Refused}
use Rattle.http_front.specs.declared.request.Request.{Request}
use Rattle.http_front.specs.Users.{Table}
use Rattle.talk_model.specs.declared.marks.At.{At}
use Rattle.talk_model.specs.declared.marks.Mark.{Mark}
use Rattle.talk_model.specs.declared.wants.Want.{Want}
use Rattle.talk_model.specs.declared.wants.Want.TheVariants.{Called}
use Rattle.talk_model.specs.declared.ends.TalkFaultKind.{TalkFaultKind}
use Rattle.talk_model.specs.declared.ends.TalkFaultKind.TheVariants.{ReadFault, WriteFault, NoMemory}
use Rattle.field_values.specs.ZoneIds.{IsMeantZone}
use Rattle.talk_model.specs.Requests.{Meaning, is_private, want_of}
use Rattle.talk_model.specs.Given.{Given, given_of, words_of, AreWordsFor, draws_by, GaveFor}
use Rattle.talk_model.specs.Calls.{Step, asks, replies, scope_of, lock_of_zone, modify_reply, lookup_reply, step_of, step_for, text_of}
use Rattle.ck_server.specs.declared.serving.Served.{Served}
use Rattle.ck_server.specs.declared.serving.Served.TheVariants as served
use Rattle.ck_server.specs.declared.asking.Asking.{Asking}
use Rattle.ck_server.specs.Askable.{IsServable}
use Rattle.ck_server.specs.ReplyOptions.{HasMeantOps, reply_from}
use Rattle.ck_server.specs.Outcomes.{MayBeAsking}
use Rattle.ck_server.specs.Answering.{Place, AsksOn, IsWanted, IsGivenFor, IsServed, LeavesUnmarked, LeavesAsking, Serves, Sends}
use Rattle.ck_server.specs.Marking.{given_with, IsMarked, asking_of, step_from, IsAskable, StopsAsking, WasMarked, MarksAsks, ServesWant, Refuses, GaveOne}

-- ---- a request that was marked

module _ (gave : List Given → Type 0) (number : ℕ) (before after : Place) (old new : List Mark) (t : Table) (r : Request) (w : Meaning) (is : IsWanted t r w)
    (g : Given) (given : gave (g ∷ [])) (ats : List At) (marked : IsMarked number g ats old new) (words : AreWordsFor w.want g) where
  module _ (reply : Reply) (asked : AsksOn before.board after.board ats (step_for w.want g) (replies reply)) where
    abbrev text : List ℕ
    text = text_of w.close reply

    all_served : (sent unsent : List ℕ) → text ≡ sent ++ unsent → Appends before.held after.held sent → IsServed gave number before after old new t r unsent
    all_served sent unsent parts appended =
        let k = marked in (
          w,
          is,
          record {
            mark = k.mark;
            given = subst (λ (x : Given). gave (x ∷ [])) (sym k.given) given;
            marks = k.marks;
            request = k.request;
            words = subst (λ (x : Given). AreWordsFor w.want x) (sym k.given) words;
            reply = reply;
            asked = subst (λ (x : Given). AsksOn before.board after.board (k.mark).asks.items (step_for w.want x) (replies reply)) (sym k.given)
                (subst (λ (l : List At). AsksOn before.board after.board l (step_for w.want g) (replies reply)) (sym k.asks) asked);
            sent = sent;
            text = parts;
            appended = appended;
          },
        )

    -- by what came of its reply
    pub sent_serves : Appends before.held after.held text → Serves gave number before after old new t r (Ok served.Answered)
    sent_serves sends = all_served text [] (sym (append-nil text)) sends

    pub front_serves : WritesFront before.held after.held text → Serves gave number before after old new t r (Err WriteFault)
    front_serves front =
        let n = front.count in
        (drop n text, omega (arith, front.short, length-drop n text), all_served (take n text) (drop n text) (sym (take-append-drop n text)) front.wrote)

  -- memory ran out at an ask, or behind the last one
  stops : (found : BoardState) (todo : Step) → AsksOn before.board found ats (step_for w.want g) todo → MayBeAsking found after.board todo → Appends before.held after.held [] → Serves gave number before after old new t r (Err NoMemory)
  stops found todo asked may appended =
      let k = marked in
      record {
        appended = appended;
        leaves = inr (record {
          wanted = w;
          is = is;
          mark = k.mark;
          given = subst (λ (x : Given). gave (x ∷ [])) (sym k.given) given;
          marks = k.marks;
          request = k.request;
          words = subst (λ (x : Given). AreWordsFor w.want x) (sym k.given) words;
          found = found;
          todo = todo;
          asked = subst (λ (x : Given). AsksOn before.board found (k.mark).asks.items (step_for w.want x) todo) (sym k.given)
              (subst (λ (l : List At). AsksOn before.board found l (step_for w.want g) todo) (sym k.asks) asked);
          may = may;
        });
      }

  pub stopped_serves : StopsAsking before.board after.board ats (step_for w.want g) → Appends before.held after.held [] → Serves gave number before after old new t r (Err NoMemory)
  stopped_serves k appended = stops k.found k.todo k.asked k.may appended

  pub broken_serves : (reply : Reply) → AsksOn before.board after.board ats (step_for w.want g) (replies reply) → (T : Type 0) (at : TalkFaultKind) → Sends {T = T} before.held after.held (text_of w.close reply) (Err at)
      → Serves gave number before after old new t r (Err at)
  broken_serves reply asked T ReadFault sends = absurd sends
  broken_serves reply asked T WriteFault sends = front_serves reply asked sends
  broken_serves reply asked T NoMemory sends = stops after.board (replies reply) asked refl sends

-- ---- what was given

-- a request is served under whatever follows from what was given
pub serves_by : (gave gave2 : List Given → Type 0) (number : ℕ) (before after : Place) (old new : List Mark) (t : Table) (r : Request) → ((given : List Given) → gave given → gave2 given)
    → (res : Result Served TalkFaultKind) → Serves gave number before after old new t r res → Serves gave2 number before after old new t r res
serves_by gave gave2 number before after old new t r on res serves = by_result res serves
  where
    again : (unsent : List ℕ) → IsServed gave number before after old new t r unsent → IsServed gave2 number before after old new t r unsent
    again unsent s =
        let p = s.2 in (
          s.0,
          s.1,
          record {
            mark = p.mark;
            given = on (given_of p.mark ∷ []) p.given;
            marks = p.marks;
            request = p.request;
            words = p.words;
            reply = p.reply;
            asked = p.asked;
            sent = p.sent;
            text = p.text;
            appended = p.appended;
          },
        )

    leaving : LeavesUnmarked gave before after old new t r ⊎ LeavesAsking gave number before after old new t r → LeavesUnmarked gave2 before after old new t r ⊎ LeavesAsking gave2 number before after old new t r
    leaving (inl l) = inl (record { marks = l.marks; same = l.same; more = l.more; one = l.one; known = l.known; given = on l.more l.given })
    leaving (inr l) = inr (record {
      wanted = l.wanted;
      is = l.is;
      mark = l.mark;
      given = on (given_of l.mark ∷ []) l.given;
      marks = l.marks;
      request = l.request;
      words = l.words;
      found = l.found;
      todo = l.todo;
      asked = l.asked;
      may = l.may;
    })

    by_result : (res : Result Served TalkFaultKind) → Serves gave number before after old new t r res → Serves gave2 number before after old new t r res
    by_result (Ok served.Answered) s = again [] s
    by_result (Ok served.NotBuilt) l = record { want = l.want; given = on [] l.given; marks = l.marks; same = l.same; appended = l.appended }
    by_result (Err ReadFault) s = absurd s
    by_result (Err WriteFault) s = (s.0, s.1, again s.0 s.2)
    by_result (Err NoMemory) up = record { appended = up.appended; leaves = leaving up.leaves }

-- a moment and the words of one request
pub gave_for : {C R : Type 0} (clock : C → ℕ → C → Type 0) (draws : R → Result (List ℕ) Failed → R → Type 0) (c c2 : C) (r r2 : R) (moment : ℕ) → clock c moment c2 → (given : List Given) → GaveOne moment draws r r2 given
    → GaveFor clock draws c c2 r r2 given
gave_for clock draws c c2 r r2 moment read given one = subst (λ (gs : List Given). GaveFor clock draws c c2 r r2 gs) (sym one.1) (record {
  moments = (c2, subst (λ (n : ℕ). clock c n c2) (sym one.2) read, refl);
  words = subst (λ (l : List (Result (List ℕ) Failed)). GivesInTurn draws r l r2) (sym (append-nil (draws_by (one.0).words (one.0).drawn))) one.3;
})

pub gave_none : {C R : Type 0} (clock : C → ℕ → C → Type 0) (draws : R → Result (List ℕ) Failed → R → Type 0) (c : C) (r : R) → GaveFor clock draws c c r r []
gave_none clock draws c r = record { moments = refl; words = refl }

-- ---- where memory runs out

pub by_memory : (X : Result Served TalkFaultKind → Type 0) (res : Result Served TalkFaultKind) → IsErrAnd res (λ e. e ≡ NoMemory) → X (Err NoMemory) → X res
by_memory X (Ok x) err k = absurd err
by_memory X (Err e) err k = subst (λ (at : TalkFaultKind). X (Err at)) (sym err) k

-- nothing was asked and nothing marked
pub given_up : (gave : List Given → Type 0) (number : ℕ) (before after : Place) (old new : List Mark) (t : Table) (r : Request) (more : List Given) → length more ≤ 1 → AllByRecursion (IsGivenFor t r) more → gave more
    → new ≡ old → before.board ≡ after.board → Appends before.held after.held [] → Serves gave number before after old new t r (Err NoMemory)
given_up gave number before after old new t r more one known given marks same appended =
    record { appended = appended; leaves = inl (record { marks = marks; same = same; more = more; one = one; known = known; given = given }) }

-- ---- a request that is refused

-- where a draw failed nothing is asked
pub undrawn_step : (call : Call) (g : Given) → g.drawn ≡ false → step_for (Called call) g ≡ replies (Refused TryAgainLater)
undrawn_step call g undrawn = rw undrawn refl

module _ (gave : List Given → Type 0) (number : ℕ) (held now : Option (List ℕ)) (b : BoardState) (old new : List Mark) (close : Bool) (error : ServerError) (want : Want) (g : Given)
    (given : gave (g ∷ [])) (step : step_for want g ≡ replies (Refused error)) (words : AreWordsFor want g) where
  abbrev unheld : Place
  unheld = record { held = held; board = b }

  abbrev refused : Place
  refused = record { held = now; board = b }

  abbrev refused_meaning : Meaning
  refused_meaning = record { close = close; want = want }

  module _ (t : Table) (r : Request) (is : IsWanted t r refused_meaning) where
    refusal_broken : (at : TalkFaultKind) → IsMarked number g [] old new → Sends {T = Served} held now (text_of close (Refused error)) (Err at) → Serves gave number unheld refused old new t r (Err at)
    refusal_broken at marked sends = broken_serves gave number unheld refused old new t r refused_meaning is g given [] marked words (Refused error) (refl, step) Served at sends

    refusal_by : (res : Result Served TalkFaultKind) → Refuses number g held now old new (text_of close (Refused error)) res → Serves gave number unheld refused old new t r res
    refusal_by (Ok served.Answered) k = sent_serves gave number unheld refused old new t r refused_meaning is g given [] k.0 words (Refused error) (refl, step) k.1
    refusal_by (Ok served.NotBuilt) k = absurd k
    refusal_by (Err ReadFault) k = absurd k
    refusal_by (Err WriteFault) k = refusal_broken WriteFault k.marked k.front
    refusal_by (Err NoMemory) (nothing, inl same) = given_up gave number unheld refused old new t r (g ∷ []) (omega arith) (record { wanted = refused_meaning; is = is; words = inr words }, tt) given same refl nothing
    refusal_by (Err NoMemory) (nothing, inr marked) = refusal_broken NoMemory marked nothing

  -- it asks nothing, and has the reply that was written, so it is served on whatever board
  pub refusal_serves : (res : Result Served TalkFaultKind) → Refuses number g held now old new (text_of close (Refused error)) res → ServesWant gave number unheld refused old new close want res
  refusal_serves res refuses t r closes wants = refusal_by t r (record { close = sym closes; want = wants }) res refuses

-- ---- a call

-- its reply by its part and its options
modify_next : (c : ModifyCall) (g : Given) (a : Answer) → reply_from (asking_of (Modify c) g).part (asking_of (Modify c) g).options a ≡ modify_reply c g a
modify_next c g (answer.Modify outcomes) = refl
modify_next c g (answer.Lookup records) = refl
modify_next c g answer.NoZone = refl
modify_next c g answer.StoreFailed = refl

lookup_next : (c : LookupCall) (g : Given) (a : Answer) → reply_from (asking_of (Lookup c) g).part (asking_of (Lookup c) g).options a ≡ lookup_reply c a
lookup_next c g (answer.Modify outcomes) = refl
lookup_next c g (answer.Lookup records) = refl
lookup_next c g answer.NoZone = refl
lookup_next c g answer.StoreFailed = refl

-- what a call asks first tells its step
pub step_is : (call : Call) (g : Given) → step_from (asking_of call g) ≡ step_of call g
step_is (Modify c) g = λ i. asks (record { lock = (asking_of (Modify c) g).lock; part = (asking_of (Modify c) g).part }) (λ a. replies (modify_next c g a i))
step_is (Lookup c) g = λ i. asks (record { lock = (asking_of (Lookup c) g).lock; part = (asking_of (Lookup c) g).part }) (λ a. replies (lookup_next c g a i))

-- what is built may be asked
own_default : (caller : List ℕ) (database : Database) (key : ZoneKey) (lock : ℕ) → is_private database ≡ true → is_own_default caller key ≡ true → IsMeantZone caller key → lock ≡ lock_of_zone key → IsOwnDefault lock caller (scope_of database) key
own_default caller Private key lock private own zone lock_is = record {
  of_lock = sym lock_is;
  in_private = refl;
  by_owner = sym (same-true key.owner caller (and_parts _ _ own).0);
  in_default = (and_parts _ _ own).1;
  named = (zone.owner.0, zone.zone);
}
own_default caller Shared key lock private own zone lock_is = absurd (cc)
own_default caller Public key lock private own zone lock_is = absurd (cc)

may_be_asked : (call : Call) (g : Given) → IsServable call → length g.words ≡ words_of (Called call) → g.moment < 2 ^ 64 → MayBeAsked (asking_of call g).lock (asking_of call g).part
may_be_asked (Modify c) g able words moment =
    let built = and_parts _ _ able.built in
    let own = and_parts _ _ built.1 in
    let meant = able.meant in (
      own_default c.caller c.database c.zone (lock_of_zone c.zone) built.0 own.0 meant.zone refl,
      record { plain = own.1; meant = meant.ops; in_time = moment; enough = words },
    )
may_be_asked (Lookup c) g able words moment =
    let built = and_parts _ _ able.built in
    let meant = able.meant in
    own_default c.caller c.database c.zone (lock_of_zone c.zone) built.0 built.1 meant.zone refl

has_ops : (call : Call) (g : Given) → IsServable call → length g.words ≡ words_of (Called call) → HasMeantOps (asking_of call g).part
has_ops (Modify c) g able words = let meant = able.meant in (meant.ops, words)
has_ops (Lookup c) g able words = tt

low_lock : (call : Call) (g : Given) → (asking_of call g).lock < 16
low_lock (Modify c) g = omega arith
low_lock (Lookup c) g = omega arith

pub is_askable : (call : Call) (g : Given) (asking : Asking) → IsServable call → length g.words ≡ words_of (Called call) → g.moment < 2 ^ 64 → asking ≡ asking_of call g → IsAskable asking
is_askable call g asking able words moment is = subst IsAskable (sym is) (record { lock = low_lock call g; part = may_be_asked call g able words moment; ops = has_ops call g able words })

-- no word was drawn, since memory ran out before
pub gave_undrawn : {R : Type 0} (moment : ℕ) (draws : R → Result (List ℕ) Failed → R → Type 0) (r r2 : R) → r2 ≡ r → GaveOne moment draws r r2 (given_with moment [] true ∷ [])
gave_undrawn moment draws r r2 same = (given_with moment [] true, refl, refl, same)

-- nothing was drawn for a call, since memory ran out before
pub known_undrawn : (t : Table) (r : Request) (close : Bool) (call : Call) (moment : ℕ) → r.close ≡ close → want_of t r ≡ Some (Called call) → AllByRecursion (IsGivenFor t r) (given_with moment [] true ∷ [])
known_undrawn t r close call moment closes wants =
    (record { wanted = record { close = close; want = Called call }; is = record { close = sym closes; want = wants }; words = inl (refl, refl) }, tt)

module _ (gave : List Given → Type 0) (number : ℕ) (before after : Place) (old new : List Mark) (close : Bool) (call : Call) (g : Given) (given : gave (g ∷ [])) (drawn : g.drawn ≡ true) (words : length g.words ≡ words_of (Called call))
    (asking : Asking) (asking_is : asking ≡ asking_of call g) where
  all_drawn : AreWordsFor (Called call) g
  all_drawn = subst (λ (b : Bool). MatchBool b (length g.words ≡ words_of (Called call)) (length g.words < words_of (Called call))) (sym drawn) words

  its_step : step_from asking ≡ step_for (Called call) g
  its_step = ap step_from asking_is ∙ (step_is call g ∙ rw drawn refl)

  abbrev meaning : Meaning
  meaning = record { close = close; want = Called call }

  module _ (t : Table) (r : Request) (closes : r.close ≡ close) (wants : want_of t r ≡ Some (Called call)) where
    is_meant : IsWanted t r meaning
    is_meant = record { close = sym closes; want = wants }

    -- memory ran out before anything was asked
    pub unasked : new ≡ old → before.board ≡ after.board → Appends before.held after.held [] → Serves gave number before after old new t r (Err NoMemory)
    unasked marks same appended = given_up gave number before after old new t r (g ∷ []) (omega arith) (record { wanted = meaning; is = is_meant; words = inr all_drawn }, tt) given marks same appended

    -- the asks were marked, and then memory ran out, or before
    pub unanswered : {E : Type 0} (e : E) → MarksAsks {E = E} number g before.board after.board old new (step_from asking) (Err e) → Appends before.held after.held [] → Serves gave number before after old new t r (Err NoMemory)
    unanswered e (inl k) appended = unasked k.0 k.1 appended
    unanswered e (inr k) appended = stopped_serves gave number before after old new t r meaning is_meant g given k.ats k.marked all_drawn (subst (λ (s : Step). StopsAsking before.board after.board k.ats s) its_step k.asked) appended

    module _ {E : Type 0} (reply : Reply) (k : WasMarked {E = E} number g before.board after.board old new (step_from asking) (Ok reply)) where
      asked_all : AsksOn before.board after.board k.ats (step_for (Called call) g) (replies reply)
      asked_all = subst (λ (s : Step). AsksOn before.board after.board k.ats s (replies reply)) its_step k.asked

      pub told_sent : Appends before.held after.held (text_of close reply) → Serves gave number before after old new t r (Ok served.Answered)
      told_sent sends = sent_serves gave number before after old new t r meaning is_meant g given k.ats k.marked all_drawn reply asked_all sends

      pub told_broken : (T : Type 0) (at : TalkFaultKind) → Sends {T = T} before.held after.held (text_of close reply) (Err at) → Serves gave number before after old new t r (Err at)
      told_broken T at sends = broken_serves gave number before after old new t r meaning is_meant g given k.ats k.marked all_drawn reply asked_all T at sends
