-- The requests at the front of bytes, and the end behind them, are determined by the bytes.
use Rattle.std.proofs.Common.{◌≡◌, ℕ, ◌<◌, true, false, List, [], ◌∷◌, ◌++◌, length, refl, sym, ap, subst, ◌∙◌, arith, append_assoc, append-nil, length-append, None, Some, Result, Ok, Err}
use Rattle.std.specs.List.{AllZip, concat}
use Rattle.std.proofs.lemmas.List.{append_cancel_left}
use Rattle.http_front.specs.declared.faults.FrontFault.{FrontFault}
use Rattle.http_front.specs.declared.faults.FrontFault.TheVariants as fault
use Rattle.http_front.specs.declared.request.Request.{Request}
use Rattle.http_front.specs.Requests.{IsUnfinished}
use Rattle.http_front.specs.Laws.{HasRequest, IsRefused, bad, long, unsized}
use Rattle.http_front.proofs.LawLemmas.{say_one, cut_one, wait_unsaid, stay_said, nothing-waits, heads_stay}
use Rattle.http_front.specs.Users.{Table}
use Rattle.talk_model.specs.declared.ends.End.{End}
use Rattle.talk_model.specs.declared.ends.End.TheVariants.{Closed, CloseAsked, Cut, BadHead, HeadTooLong, NoLength, BodyTooLong, Spent, NotBuilt}
use Rattle.talk_model.specs.Requests.{Meaning, meaning_of, Wants, HasInFront}
use Rattle.talk_model.specs.Connections.{most_requests, GoOn, AreOpen, IsLastOf, LeavesAt, AreRequests}

-- the end of a connection whose bytes are refused with this fault
abbrev end_of : FrontFault → End
end_of fault.BadHead = BadHead
end_of fault.HeadTooLong = HeadTooLong
end_of fault.NoLength = NoLength
end_of fault.BodyTooLong = BodyTooLong
end_of _ = Closed

-- the last one asked to close
abbrev AreClosing : List Meaning → Type 0
AreClosing ws = (last : Meaning) × IsLastOf ws last × (last.close ≡ true)

-- what stands behind requests at an end at which a further one might have come
data Behind (t : Table) (rest : List ℕ) (end : End) : Type 0 where
  nothing : end ≡ Closed → rest ≡ [] → Behind t rest end
  cut : end ≡ Cut → 0 < length rest → IsUnfinished rest → Behind t rest end
  refused : (f : FrontFault) → end ≡ end_of f → IsRefused rest f → Behind t rest end
  unbuilt : end ≡ NotBuilt → HasInFront t rest None → Behind t rest end

data Leaves (t : Table) (ws : List Meaning) (rest : List ℕ) (end : End) : Type 0 where
  are_open : AreOpen ws → Behind t rest end → Leaves t ws rest end
  closing : end ≡ CloseAsked → AreClosing ws → Leaves t ws rest end
  spent : end ≡ Spent → length ws ≡ most_requests → GoOn ws → Leaves t ws rest end

err_is : (e f : FrontFault) → ◌≡◌ {A = Result Request FrontFault} (Err e) (Err f) → e ≡ f
err_is e f p = cc

ok_is : (q r : Request) → ◌≡◌ {A = Result Request FrontFault} (Ok q) (Ok r) → q ≡ r
ok_is q r p = cc

not_both : (q : Request) (f : FrontFault) → ◌≡◌ {A = Result Request FrontFault} (Ok q) (Err f) → ⊥
not_both q f p = cc

-- ---- those that go on

go_on-front : (before after : List Meaning) → GoOn (before ++ after) → GoOn before
go_on-front [] after all = tt
go_on-front (w ∷ before) after all = (all.0, go_on-front before after all.1)

go_on-last : (before : List Meaning) (last : Meaning) → GoOn (before ++ last ∷ []) → last.close ≡ false
go_on-last [] last all = all.0
go_on-last (w ∷ before) last all = go_on-last before last all.1

not_going : (ws : List Meaning) → GoOn ws → AreClosing ws → ⊥
not_going ws all c =
    let e : (c.0).close ≡ false = go_on-last (c.1).before c.0 (subst GoOn (c.1).parts all) in
    let k = c.2 in absurd (cc)

-- a front of closing ones goes on
closing-front : (before : List Meaning) (w : Meaning) (after last_before : List Meaning) (last : Meaning) → before ++ w ∷ after ≡ last_before ++ last ∷ [] → AreOpen last_before
    → AreOpen before
closing-front before w after last_before last parts o = record { few = few; go_on = shorter before w after last_before last parts o.go_on }
  where
    few : length before < most_requests
    few = omega (arith, o.few, ap length parts, length-append before (w ∷ after), length-append last_before (last ∷ []))

    shorter : (before : List Meaning) (w : Meaning) (after last_before : List Meaning) (last : Meaning) → before ++ w ∷ after ≡ last_before ++ last ∷ [] → GoOn last_before → GoOn before
    shorter [] w after last_before last parts all = tt
    shorter (v ∷ before) w after [] last parts all = absurd (omega (arith, ap length parts, length-append before (w ∷ after)))
    shorter (v ∷ before) w after (u ∷ us) last parts all =
        let same : v ≡ u = cc in
        (ap (λ (x : Meaning). x.close) same ∙ all.0, shorter before w after us last (cc) all.1)

module _ (t : Table) where
  leaves : (end : End) (ws : List Meaning) (rest : List ℕ) → LeavesAt t end ws rest → Leaves t ws rest end
  leaves Closed ws rest l = are_open l.0 (nothing refl l.1)
  leaves CloseAsked ws rest l = closing refl l
  leaves Cut ws rest l = are_open l.0 (cut refl l.1 l.2)
  leaves BadHead ws rest l = are_open l.0 (refused fault.BadHead refl (bad refl l.1))
  leaves HeadTooLong ws rest l = are_open l.0 (refused fault.HeadTooLong refl (long refl l.1))
  leaves NoLength ws rest l = are_open l.0 (refused fault.NoLength refl (unsized l.1))
  leaves BodyTooLong ws rest l = are_open l.0 (refused fault.BodyTooLong refl (unsized l.1))
  leaves Spent ws rest l = spent refl l.0 l.1
  leaves NotBuilt ws rest l = are_open l.0 (unbuilt refl l.1)

  nothing_waits : (rest : List ℕ) → rest ≡ [] → IsUnfinished rest
  nothing_waits rest none = subst IsUnfinished (sym none) nothing-waits

  nothing_not_cut : (rest : List ℕ) → rest ≡ [] → 0 < length rest → ⊥
  nothing_not_cut rest none some = omega (arith, ap length none, some)

  -- one end behind requests that may go on
  same_behind : (rest : List ℕ) (e f : End) → Behind t rest e → Behind t rest f → e ≡ f
  same_behind rest e f (nothing p r) (nothing q s) = p ∙ sym q
  same_behind rest e f (nothing p r) (cut q some s) = absurd (nothing_not_cut rest r some)
  same_behind rest e f (nothing p r) (refused g q s) = absurd (wait_unsaid rest (Err g) s (nothing_waits rest r))
  same_behind rest e f (nothing p r) (unbuilt q s) = absurd (wait_unsaid rest (Ok s.0) s.1 (nothing_waits rest r))
  same_behind rest e f (cut p some r) (nothing q s) = absurd (nothing_not_cut rest s some)
  same_behind rest e f (cut p some r) (cut q more s) = p ∙ sym q
  same_behind rest e f (cut p some r) (refused g q s) = absurd (wait_unsaid rest (Err g) s r)
  same_behind rest e f (cut p some r) (unbuilt q s) = absurd (wait_unsaid rest (Ok s.0) s.1 r)
  same_behind rest e f (refused g p r) (nothing q s) = absurd (wait_unsaid rest (Err g) r (nothing_waits rest s))
  same_behind rest e f (refused g p r) (cut q some s) = absurd (wait_unsaid rest (Err g) r s)
  same_behind rest e f (refused g p r) (refused h q s) = p ∙ (ap end_of (err_is g h (say_one rest (Err g) (Err h) r s)) ∙ sym q)
  same_behind rest e f (refused g p r) (unbuilt q s) = absurd (not_both s.0 g (say_one rest (Ok s.0) (Err g) s.1 r))
  same_behind rest e f (unbuilt p r) (nothing q s) = absurd (wait_unsaid rest (Ok r.0) r.1 (nothing_waits rest s))
  same_behind rest e f (unbuilt p r) (cut q some s) = absurd (wait_unsaid rest (Ok r.0) r.1 s)
  same_behind rest e f (unbuilt p r) (refused g q s) = absurd (not_both r.0 g (say_one rest (Ok r.0) (Err g) r.1 s))
  same_behind rest e f (unbuilt p r) (unbuilt q s) = p ∙ sym q

  same_end : (ws : List Meaning) (rest : List ℕ) (e f : End) → Leaves t ws rest e → Leaves t ws rest f → e ≡ f
  same_end ws rest e f (are_open a r) (are_open b s) = same_behind rest e f r s
  same_end ws rest e f (are_open a r) (closing q c) = absurd (not_going ws a.go_on c)
  same_end ws rest e f (are_open a r) (spent q n all) = absurd (omega (arith, a.few, n))
  same_end ws rest e f (closing p c) (are_open b s) = absurd (not_going ws b.go_on c)
  same_end ws rest e f (closing p c) (closing q d) = p ∙ sym q
  same_end ws rest e f (closing p c) (spent q n all) = absurd (not_going ws all c)
  same_end ws rest e f (spent p n all) (are_open b s) = absurd (omega (arith, b.few, n))
  same_end ws rest e f (spent p n all) (closing q d) = absurd (not_going ws all d)
  same_end ws rest e f (spent p n all) (spent q m both) = p ∙ sym q

  -- before a further request there may be one
  open_before : (before : List Meaning) (w : Meaning) (after : List Meaning) (rest : List ℕ) (e : End) → Leaves t (before ++ w ∷ after) rest e → AreOpen before
  open_before before w after rest e (are_open a r) = record {
    few = omega (arith, a.few, length-append before (w ∷ after));
    go_on = go_on-front before (w ∷ after) a.go_on;
  }
  open_before before w after rest e (closing p c) = closing-front before w after (c.1).before c.0 (c.1).parts (c.1).open_before
  open_before before w after rest e (spent p n all) = record {
    few = omega (arith, n, length-append before (w ∷ after));
    go_on = go_on-front before (w ∷ after) all;
  }

  -- a request that stands at the front of bytes
  abbrev has_front : (bytes after rest : List ℕ) (w : Meaning) → (k : Wants t bytes w) → rest ≡ bytes ++ after → HasRequest rest k.0
  has_front bytes after rest w k is = record { front = bytes; rest = after; parts = is; is = k.1 }

  some_is_none : (w : Meaning) → None ≡ Some w → ⊥
  some_is_none w e = cc

  -- where a further request stands, the bytes did not end there
  none_left : (before : List Meaning) (e : End) (bytes after rest : List ℕ) (w : Meaning) → AreOpen before → Wants t bytes w → rest ≡ bytes ++ after → Leaves t before rest e → ⊥
  none_left before e bytes after rest w o k is (are_open a (nothing p r)) = wait_unsaid rest (Ok k.0) (has_front bytes after rest w k is) (nothing_waits rest r)
  none_left before e bytes after rest w o k is (are_open a (cut p some r)) = wait_unsaid rest (Ok k.0) (has_front bytes after rest w k is) r
  none_left before e bytes after rest w o k is (are_open a (refused g p r)) = not_both k.0 g (say_one rest (Ok k.0) (Err g) (has_front bytes after rest w k is) r)
  none_left before e bytes after rest w o k is (are_open a (unbuilt p r)) =
      let same : r.0 ≡ k.0 = ok_is r.0 k.0 (say_one rest (Ok r.0) (Ok k.0) r.1 (has_front bytes after rest w k is)) in
      some_is_none w (sym r.2 ∙ (ap (meaning_of t) same ∙ k.2))
  none_left before e bytes after rest w o k is (closing p c) = not_going before o.go_on c
  none_left before e bytes after rest w o k is (spent p n all) = omega (arith, o.few, n)

  some_is : (v w : Meaning) → Some v ≡ Some w → v ≡ w
  some_is v w e = cc

  -- at the front of bytes stands one request, of which one thing is wanted
  one_request : (r s after others all : List ℕ) (v w : Meaning) → Wants t r v → Wants t s w → all ≡ r ++ after → all ≡ s ++ others → (v ≡ w) × (r ≡ s)
  one_request r s after others all v w k l left right =
      let x = has_front r after all v k left in
      let y = has_front s others all w l right in
      let same : k.0 ≡ l.0 = ok_is k.0 l.0 (say_one all (Ok k.0) (Ok l.0) x y) in
      (some_is v w (sym k.2 ∙ (ap (meaning_of t) same ∙ l.2)), cut_one all k.0 l.0 x y)

  module _ (e f : End) where
    same : (before : List Meaning) (rs ss : List (List ℕ)) (vs ws : List Meaning) (p q : List ℕ) → AllZip (Wants t) rs vs → AllZip (Wants t) ss ws
        → Leaves t (before ++ vs) p e → Leaves t (before ++ ws) q f → concat rs ++ p ≡ concat ss ++ q → (vs ≡ ws) × (e ≡ f)
    same before [] [] [] [] p q k l a b is = (refl, same_end (before ++ []) p e f a (subst (λ r. Leaves t (before ++ []) r f) (sym is) b))
    same before [] (s ∷ ss) [] (w ∷ ws) p q k l a b is =
        absurd (none_left before e s (concat ss ++ q) p w (open_before before w ws q f b) l.0 (is ∙ append_assoc s (concat ss) q) (subst (λ us. Leaves t us p e) (append-nil before) a))
    same before (r ∷ rs) [] (v ∷ vs) [] p q k l a b is =
        absurd (none_left before f r (concat rs ++ p) q v (open_before before v vs p e a) k.0 (sym is ∙ append_assoc r (concat rs) p) (subst (λ us. Leaves t us q f) (append-nil before) b))
    same before (r ∷ rs) (s ∷ ss) (v ∷ vs) (w ∷ ws) p q k l a b is =
        let whole : r ++ (concat rs ++ p) ≡ s ++ (concat ss ++ q) = sym (append_assoc r (concat rs) p) ∙ (is ∙ append_assoc s (concat ss) q) in
        let one = one_request r s (concat rs ++ p) (concat ss ++ q) (r ++ (concat rs ++ p)) v w k.0 l.0 refl whole in
        let behind : concat rs ++ p ≡ concat ss ++ q = append_cancel_left r (concat rs ++ p) (concat ss ++ q) (whole ∙ ap (λ x. x ++ (concat ss ++ q)) (sym one.1)) in
        let here = subst (λ us. Leaves t us p e) (sym (append_assoc before (v ∷ []) vs)) a in
        let there = subst (λ us. Leaves t us q f) (sym (append_assoc before (v ∷ []) ws)) (subst (λ x. Leaves t (before ++ x ∷ ws) q f) (sym one.0) b) in
        let more = same (before ++ v ∷ []) rs ss vs ws p q k.1 l.1 here there behind in
        ((λ i. one.0 i ∷ more.0 i), more.1)
    same before [] [] [] (w ∷ ws) p q k l a b is = absurd l
    same before [] [] (v ∷ vs) ws p q k l a b is = absurd k
    same before [] (s ∷ ss) vs [] p q k l a b is = absurd l
    same before [] (s ∷ ss) (v ∷ vs) (w ∷ ws) p q k l a b is = absurd k
    same before (r ∷ rs) ss [] ws p q k l a b is = absurd k
    same before (r ∷ rs) [] (v ∷ vs) (w ∷ ws) p q k l a b is = absurd l
    same before (r ∷ rs) (s ∷ ss) (v ∷ vs) [] p q k l a b is = absurd l

  -- the bytes determine what is wanted, and the end
  pub one_reading : (bytes : List ℕ) (vs ws : List Meaning) (e f : End) → AreRequests t bytes vs e → AreRequests t bytes ws f → (vs ≡ ws) × (e ≡ f)
  one_reading bytes vs ws e f a b =
      same e f [] a.requests b.requests vs ws a.rest b.rest a.each b.each (leaves e vs a.rest a.leaves) (leaves f ws b.rest b.leaves) (sym a.bytes_are ∙ b.bytes_are)

  -- more bytes behind
  more : (end : End) (bytes after : List ℕ) (ws : List Meaning) → ((rest : List ℕ) → LeavesAt t end ws rest → LeavesAt t end ws (rest ++ after)) → AreRequests t bytes ws end → AreRequests t (bytes ++ after) ws end
  more end bytes after ws stays a = record {
    requests = a.requests;
    rest = a.rest ++ after;
    bytes_are = ap (λ b. b ++ after) a.bytes_are ∙ append_assoc (concat a.requests) a.rest after;
    each = a.each;
    leaves = stays a.rest a.leaves;
  }

  pub unbuilt_more : (bytes after : List ℕ) → HasInFront t bytes None → HasInFront t (bytes ++ after) None
  unbuilt_more bytes after u = (u.0, stay_said bytes after (Ok u.0) u.1, u.2)

  pub close_asked_more : (bytes after : List ℕ) (ws : List Meaning) → AreRequests t bytes ws CloseAsked → AreRequests t (bytes ++ after) ws CloseAsked
  close_asked_more bytes after ws a = more CloseAsked bytes after ws (λ rest l. l) a

  pub bad_head_more : (bytes after : List ℕ) (ws : List Meaning) → AreRequests t bytes ws BadHead → AreRequests t (bytes ++ after) ws BadHead
  bad_head_more bytes after ws a = more BadHead bytes after ws (λ rest l. (l.0, heads_stay.bad_head rest after l.1)) a

  pub long_head_more : (bytes after : List ℕ) (ws : List Meaning) → AreRequests t bytes ws HeadTooLong → AreRequests t (bytes ++ after) ws HeadTooLong
  long_head_more bytes after ws a = more HeadTooLong bytes after ws (λ rest l. (l.0, heads_stay.long_head rest after l.1)) a

  pub no_length_more : (bytes after : List ℕ) (ws : List Meaning) → AreRequests t bytes ws NoLength → AreRequests t (bytes ++ after) ws NoLength
  no_length_more bytes after ws a = more NoLength bytes after ws (λ rest l. (l.0, heads_stay.head rest after (Err fault.NoLength) l.1)) a

  pub long_body_more : (bytes after : List ℕ) (ws : List Meaning) → AreRequests t bytes ws BodyTooLong → AreRequests t (bytes ++ after) ws BodyTooLong
  long_body_more bytes after ws a = more BodyTooLong bytes after ws (λ rest l. (l.0, heads_stay.head rest after (Err fault.BodyTooLong) l.1)) a

  pub spent_more : (bytes after : List ℕ) (ws : List Meaning) → AreRequests t bytes ws Spent → AreRequests t (bytes ++ after) ws Spent
  spent_more bytes after ws a = more Spent bytes after ws (λ rest l. l) a

  pub not_built_more : (bytes after : List ℕ) (ws : List Meaning) → AreRequests t bytes ws NotBuilt → AreRequests t (bytes ++ after) ws NotBuilt
  not_built_more bytes after ws a = more NotBuilt bytes after ws (λ rest l. (l.0, unbuilt_more rest after l.1)) a
