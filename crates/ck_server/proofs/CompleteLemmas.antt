-- A conversation that ends well over whole requests answers all of them.
use Rattle.std.proofs.Common.{◌≡◌, ℕ, List, [], ◌++◌, refl, sym, ap, subst, ◌∙◌, append-nil, None, Some, Option, Result, Ok, Err}
use Rattle.std.specs.List.{concat}
use Rattle.std.specs.Io.KnownBytes.{Consumes}
use Rattle.ck_devices.specs.Causes.{StopsAt}
use Rattle.http_front.specs.declared.request.Request.{Request}
use Rattle.http_front.specs.Users.{Table}
use Rattle.talk_model.specs.declared.ends.End.{End}
use Rattle.talk_model.specs.declared.ends.End.TheVariants.{Closed, CloseAsked, Cut, BadHead, HeadTooLong, NoLength, BodyTooLong, Spent, NotBuilt}
use Rattle.talk_model.specs.declared.ends.TalkFaultKind.{TalkFaultKind}
use Rattle.talk_model.specs.declared.ends.TalkFaultKind.TheVariants.{ReadFault, WriteFault}
use Rattle.talk_model.specs.declared.marks.Mark.{Mark}
use Rattle.talk_model.specs.Requests.{Meaning}
use Rattle.talk_model.specs.Given.{Given}
use Rattle.talk_model.specs.Connections.{most_requests, AreRequests, last_text}
use Rattle.talk_model.specs.WholeConnections.{AreWhole, answered, end_behind}
use Rattle.talk_model.proofs.ConnectionLemmas.{one_reading, close_asked_more, bad_head_more, long_head_more, no_length_more, long_body_more, spent_more, not_built_more}
use Rattle.talk_model.proofs.WholeLemmas.{whole_ones_end}
use Rattle.ck_server.specs.Conversations.{Standing}
use Rattle.ck_server.specs.Outcomes.{StopsReading, Converses}
use Rattle.ck_server.specs.Completeness.{AnswersAll, IsComplete}
use Rattle.ck_server.proofs.CauseLemmas.{cause_ok}
use Rattle.ck_server.proofs.OutcomeLemmas.{Comes, EndsWell, BreaksOff}

-- at the ends at which the source has not ended, what it has left doesn't change the reading
more_left : (t : Table) (end : End) (bytes taken left rest : List ℕ) (ws : List Meaning) → AreRequests t taken ws end → bytes ≡ taken ++ left → StopsReading end (Some left) rest → AreRequests t bytes ws end
more_left t end bytes taken left rest ws reads parts ended = subst (λ (b : List ℕ). AreRequests t b ws end) (sym parts) (by_end end reads ended)
  where
    at_end : (e : End) → left ≡ [] → AreRequests t taken ws e → AreRequests t (taken ++ left) ws e
    at_end e none a = subst (λ (b : List ℕ). AreRequests t b ws e) (sym (ap (λ (l : List ℕ). taken ++ l) none ∙ append-nil taken)) a

    by_end : (e : End) → AreRequests t taken ws e → StopsReading e (Some left) rest → AreRequests t (taken ++ left) ws e
    by_end Closed a none = at_end Closed none a
    by_end Cut a none = at_end Cut none a
    by_end CloseAsked a none = close_asked_more t taken left ws a
    by_end BadHead a none = bad_head_more t taken left ws a
    by_end HeadTooLong a none = long_head_more t taken left ws a
    by_end NoLength a none = no_length_more t taken left ws a
    by_end BodyTooLong a none = long_body_more t taken left ws a
    by_end Spent a none = spent_more t taken left ws a
    by_end NotBuilt a none = not_built_more t taken left ws a

-- so what was taken is read as all that the source had
all_read : (t : Table) (end : End) (bytes taken rest : List ℕ) (before now : Option (List ℕ)) (ws : List Meaning) → before ≡ Some bytes → Consumes before now taken → AreRequests t taken ws end → StopsReading end now rest
    → AreRequests t bytes ws end
all_read t end bytes taken rest None now ws is consumed reads ended = absurd (cc)
all_read t end bytes taken rest (Some all) None ws is consumed reads ended = absurd consumed
all_read t end bytes taken rest (Some all) (Some left) ws is consumed reads ended =
    let same : all ≡ bytes = cc in
    more_left t end bytes taken left rest ws reads (sym same ∙ consumed) ended

answers_all : (t : Table) (gave : List Given → Type 0) (entry now : Standing) (marks : List Mark) (end : End) → (k : EndsWell t gave entry now marks end) → (bytes : List ℕ) (rs : List Request) → entry.left ≡ Some bytes → AreWhole bytes rs → AnswersAll t rs (k.course).wanted end
answers_all t gave entry now marks end k bytes rs left whole =
    let c = k.conversed in
    let course = k.course in
    let fits = k.fits in
    let ws = course.wanted in
    let taken = concat c.requests ++ course.rest in
    let reads : AreRequests t taken ws end = record { requests = c.requests; rest = course.rest; bytes_are = refl; each = c.each; leaves = fits.3 } in
    let read : AreRequests t bytes ws end = all_read t end bytes taken course.rest entry.left now.left ws left c.consumed reads fits.4 in
    let one = one_reading t bytes ws (answered t most_requests rs) end (end_behind t most_requests rs) read (whole_ones_end.reading t bytes rs whole) in
    (one.0, ap last_text one.1 ∙ whole_ones_end.nothing_last t rs, one.1)

module _ (t : Table) (gave : List Given → Type 0) (entry now : Standing) (marks : List Mark) where
  complete : (outcome : Result End TalkFaultKind) → (k : Comes t gave entry now marks outcome) → IsComplete t entry (k.course).wanted outcome
      → StopsAt ReadFault entry.source_failures now.source_failures outcome → StopsAt WriteFault entry.sink_failures now.sink_failures outcome → Converses t gave entry now marks outcome
  complete outcome k all reads writes =
      record { course = k.course; marks_are = k.marks_are; given = k.given; conversed = k.conversed; fits = k.fits; complete = all; reads = reads; writes = writes }

  -- a conversation that ended well comes to that, and is complete
  pub ended_well : (end : End) → EndsWell t gave entry now marks end → now.source_failures.count ≡ entry.source_failures.count → now.sink_failures.count ≡ entry.sink_failures.count → Converses t gave entry now marks (Ok end)
  ended_well end k read written =
      complete (Ok end) k (λ bytes requests left whole. answers_all t gave entry now marks end k bytes requests left whole)
      (cause_ok ReadFault entry.source_failures now.source_failures end read) (cause_ok WriteFault entry.sink_failures now.sink_failures end written)

  -- one that broke off comes to that
  pub broke_off : (at : TalkFaultKind) → BreaksOff t gave entry now marks at → StopsAt {T = End} ReadFault entry.source_failures now.source_failures (Err at)
      → StopsAt {T = End} WriteFault entry.sink_failures now.sink_failures (Err at) → Converses t gave entry now marks (Err at)
  broke_off at k reads writes = complete (Err at) k (λ bytes requests left whole. tt) reads writes
