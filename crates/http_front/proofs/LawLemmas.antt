-- Bytes say what is read of them.
use Rattle.std.proofs.Common.{◌≡◌, ℕ, ◌-◌, ◌<◌, ◌≤◌, ◌⊎◌, List, [], ◌++◌, length, take, refl, sym, ap, subst, ◌∙◌, arith, append_assoc, Option, Result, Ok, Err, inl, inr}
use Rattle.std.proofs.lemmas.List.{length-append}
use Rattle.std.proofs.lemmas.Bool.{cases_lt}
use Rattle.std.proofs.Math.Seq.{take-append_seam}
use Rattle.httparse.specs.Grammar.{RequestHead, print_request, ReadsRequest}
use Rattle.httparse.proofs.GrammarLemmas.{request_unique, ReadsRequest-append}
use Rattle.http_front.specs.declared.faults.FrontFault.{FrontFault}
use Rattle.http_front.specs.declared.faults.FrontFault.TheVariants.{Ended, Cut, BadHead, HeadTooLong, NoLength, BodyTooLong, ReadFault, NoMemory}
use Rattle.http_front.specs.declared.request.Request.{Request}
use Rattle.http_front.specs.Lines.{most_head, most_lines, line_feeds, AreLines}
use Rattle.http_front.specs.Fields.{body_length, asks_to_close}
use Rattle.http_front.specs.Requests.{ReadsHead, HasNoHead, HasBadHead, HasLongHead, HasHead, IsUnfinished, in_head, in_body}
use Rattle.http_front.specs.Reading.{IsFault}
use Rattle.http_front.specs.Laws.{HasRequest, IsRefused, bad, long, unsized, Says, HeadsStay}
use Rattle.http_front.proofs.LineLemmas.{feeds-append, feeds_of_head, head_ends}
use Rattle.http_front.proofs.LookLemmas.{more-feeds, take-behind, length_some}

-- ---- a head at the front

reads-more : (bytes more : List ℕ) (h : RequestHead) (rest : List ℕ) → ReadsHead bytes h rest → ReadsHead (bytes ++ more) h (rest ++ more)
reads-more bytes more h rest r = record { reads = ReadsRequest-append bytes h rest more r.reads; short = r.short; few = r.few }

-- a request is a head, and its body and more behind it
head-of : (bytes : List ℕ) (q : Request) (x : HasRequest bytes q) → HasHead bytes (Ok (length q.body))
head-of bytes q x = record {
  head = x.is.head;
  rest = q.body ++ x.rest;
  reads = subst (λ l. ReadsHead l x.is.head (q.body ++ x.rest)) (sym x.parts) (reads-more x.front x.rest x.is.head q.body x.is.reads);
  says = x.is.stated;
}

-- where a head stands, the lines are not bad, nor is it too long, and it says one thing
head-not-bad : (bytes : List ℕ) (stated : Result ℕ FrontFault) → HasHead bytes stated → HasBadHead bytes → ⊥
head-not-bad bytes stated h b = b.never b.rest h.head h.rest (subst (λ l. ReadsRequest l h.head h.rest) b.parts h.reads.reads)

head-not-long : (bytes : List ℕ) (stated : Result ℕ FrontFault) → HasHead bytes stated → HasLongHead bytes → ⊥
head-not-long bytes stated h l = l.none h.head h.rest h.reads

heads-same : (bytes : List ℕ) (a b : Result ℕ FrontFault) (h : HasHead bytes a) (k : HasHead bytes b) → (h.head ≡ k.head) × (h.rest ≡ k.rest)
heads-same bytes a b h k = request_unique bytes h.head k.head h.rest k.rest h.reads.reads k.reads.reads

one-stated : (bytes : List ℕ) (a b : Result ℕ FrontFault) → HasHead bytes a → HasHead bytes b → a ≡ b
one-stated bytes a b h k = sym h.says ∙ (ap body_length (heads-same bytes a b h k).0 ∙ k.says)

-- ---- one request

length-of-ok : (m n : ℕ) → ◌≡◌ {A = Result ℕ FrontFault} (Ok m) (Ok n) → m ≡ n
length-of-ok m n e = cc

module _ (bytes : List ℕ) (q p : Request) (x : HasRequest bytes q) (y : HasRequest bytes p) where
  same : (x.is.head ≡ y.is.head) × (q.body ++ x.rest ≡ p.body ++ y.rest)
  unfolding head-of
  same = heads-same bytes _ _ (head-of bytes q x) (head-of bytes p y)

  lengths : length q.body ≡ length p.body
  lengths = length-of-ok (length q.body) (length p.body) (one-stated bytes _ _ (head-of bytes q x) (head-of bytes p y))

  bodies : q.body ≡ p.body
  bodies = sym (take-append_seam q.body x.rest) ∙ (ap (take (length q.body)) same.1 ∙ (ap (λ n. take n (p.body ++ y.rest)) lengths ∙ take-append_seam p.body y.rest))

  one-request : q ≡ p
  one-request = λ i. record {
    method = (x.is.method ∙ (ap (λ h. h.method) same.0 ∙ sym y.is.method)) i;
    target = (x.is.target ∙ (ap (λ h. h.target) same.0 ∙ sym y.is.target)) i;
    close = (x.is.close ∙ (ap asks_to_close same.0 ∙ sym y.is.close)) i;
    body = bodies i;
  }

  one-front : x.front ≡ y.front
  one-front = x.is.reads.reads.1 ∙ ((λ i. print_request (same.0 i) ++ bodies i) ∙ sym y.is.reads.reads.1)

pub cut_one : (bytes : List ℕ) (r s : Request) (x : HasRequest bytes r) (y : HasRequest bytes s) → x.front ≡ y.front
cut_one bytes r s x y = one-front bytes r s x y

-- ---- one reading

request-not-refused : (bytes : List ℕ) (q : Request) (fault : FrontFault) → HasRequest bytes q → IsRefused bytes fault → ⊥
request-not-refused bytes q fault x (bad e b) = head-not-bad bytes _ (head-of bytes q x) b
request-not-refused bytes q fault x (long e l) = head-not-long bytes _ (head-of bytes q x) l
request-not-refused bytes q fault x (unsized h) = absurd-of (one-stated bytes _ _ (head-of bytes q x) h)
  where
    absurd-of : ◌≡◌ {A = Result ℕ FrontFault} (Ok (length q.body)) (Err fault) → ⊥
    absurd-of e = cc

one-fault : (bytes : List ℕ) (e f : FrontFault) → IsRefused bytes e → IsRefused bytes f → e ≡ f
one-fault bytes e f (bad p b) (bad q c) = p ∙ sym q
one-fault bytes e f (bad p b) (long q l) = absurd (l.fine b)
one-fault bytes e f (bad p b) (unsized h) = absurd (head-not-bad bytes _ h b)
one-fault bytes e f (long p l) (bad q b) = absurd (l.fine b)
one-fault bytes e f (long p l) (long q m) = p ∙ sym q
one-fault bytes e f (long p l) (unsized h) = absurd (head-not-long bytes _ h l)
one-fault bytes e f (unsized h) (bad q b) = absurd (head-not-bad bytes _ h b)
one-fault bytes e f (unsized h) (long q l) = absurd (head-not-long bytes _ h l)
one-fault bytes e f (unsized h) (unsized k) = same_fault (one-stated bytes _ _ h k)
  where
    same_fault : ◌≡◌ {A = Result ℕ FrontFault} (Err e) (Err f) → e ≡ f
    same_fault p = cc

pub say_one : (bytes : List ℕ) (r s : Result Request FrontFault) → Says bytes r → Says bytes s → r ≡ s
say_one bytes (Ok q) (Ok p) x y = ap (λ z. Ok z) (one-request bytes q p x y)
say_one bytes (Ok q) (Err f) x y = absurd (request-not-refused bytes q f x y)
say_one bytes (Err e) (Ok p) x y = absurd (request-not-refused bytes p e y x)
say_one bytes (Err e) (Err f) x y = ap (λ z. Err z) (one-fault bytes e f x y)

-- ---- more bytes

-- where a limit is reached, whole lines within the limits do not reach behind it
inside : (bytes more front rest : List ℕ) → (most_head ≤ length bytes) ⊎ (most_lines ≤ line_feeds bytes) → AreLines front → bytes ++ more ≡ front ++ rest → length front ≤ length bytes
inside bytes more front rest reached lines parts = by_order (cases_lt (length bytes) (length front))
  where
    over : (most_head ≤ length bytes) ⊎ (most_lines ≤ line_feeds bytes) → length bytes < length front → ⊥
    over (inl le) less = omega (arith, le, less, lines.short)
    over (inr le) less =
        let here : take (length bytes) (front ++ rest) ≡ bytes = ap (take (length bytes)) (sym parts) ∙ take-append_seam bytes more in
        omega (arith, le, lines.few, more-feeds front rest (length bytes) (line_feeds bytes) lines.whole (ap line_feeds here) less)

    by_order : (length bytes < length front) ⊎ (length front ≤ length bytes) → length front ≤ length bytes
    by_order (inl less) = absurd (over reached less)
    by_order (inr le) = le

-- so they stand at the front of the bytes alone
pub front-parts : (bytes more front rest : List ℕ) → bytes ++ more ≡ front ++ rest → length front ≤ length bytes → bytes ≡ front ++ take (length bytes - length front) rest
front-parts bytes more front rest parts le =
    sym (take-append_seam bytes more) ∙ (ap (take (length bytes)) parts ∙ take-behind front rest (length bytes) le)

long-more : (bytes more : List ℕ) → HasLongHead bytes → HasLongHead (bytes ++ more)
long-more bytes more l = record { reached = reached l.reached; none = none; fine = fine }
  where
    reached : (most_head ≤ length bytes) ⊎ (most_lines ≤ line_feeds bytes) → (most_head ≤ length (bytes ++ more)) ⊎ (most_lines ≤ line_feeds (bytes ++ more))
    reached (inl le) = inl (omega (arith, le, length-append bytes more))
    reached (inr le) = inr (omega (arith, le, feeds-append bytes more))

    none : HasNoHead (bytes ++ more)
    none h rest r =
        let front = print_request h in
        let lines : AreLines (print_request h) = record { whole = head_ends h; short = r.short; few = r.few } in
        let le = inside bytes more (print_request h) rest l.reached lines r.reads.1 in
        let parts = front-parts bytes more (print_request h) rest r.reads.1 le in
        l.none h (take (length bytes - length (print_request h)) rest) (record { reads = (r.reads.0, parts); short = r.short; few = r.few })

    fine : HasBadHead (bytes ++ more) → ⊥
    fine b =
        let le = inside bytes more b.front b.rest l.reached b.lines b.parts in
        l.fine (record { front = b.front; rest = take (length bytes - length b.front) b.rest; parts = front-parts bytes more b.front b.rest b.parts le; lines = b.lines; never = b.never })

bad-more : (bytes more : List ℕ) → HasBadHead bytes → HasBadHead (bytes ++ more)
bad-more bytes more b = record {
  front = b.front;
  rest = b.rest ++ more;
  parts = ap (λ l. l ++ more) b.parts ∙ append_assoc b.front b.rest more;
  lines = b.lines;
  never = b.never;
}

head-more : (bytes more : List ℕ) (stated : Result ℕ FrontFault) → HasHead bytes stated → HasHead (bytes ++ more) stated
head-more bytes more stated h = record { head = h.head; rest = h.rest ++ more; reads = reads-more bytes more h.head h.rest h.reads; says = h.says }

refused-more : (bytes more : List ℕ) (fault : FrontFault) → IsRefused bytes fault → IsRefused (bytes ++ more) fault
refused-more bytes more fault (bad e b) = bad e (bad-more bytes more b)
refused-more bytes more fault (long e l) = long e (long-more bytes more l)
refused-more bytes more fault (unsized h) = unsized (head-more bytes more (Err fault) h)

pub heads_stay : HeadsStay
heads_stay = record { bad_head = bad-more; long_head = long-more; head = head-more }

pub stay_said : (bytes more : List ℕ) (r : Result Request FrontFault) → Says bytes r → Says (bytes ++ more) r
stay_said bytes more (Ok q) x = record { front = x.front; rest = x.rest ++ more; parts = ap (λ l. l ++ more) x.parts ∙ append_assoc x.front x.rest more; is = x.is }
stay_said bytes more (Err fault) x = refused-more bytes more fault x

-- ---- nothing is said too early

refused-not-waiting : (bytes : List ℕ) (fault : FrontFault) → IsRefused bytes fault → IsUnfinished bytes → ⊥
refused-not-waiting bytes fault (bad e b) (in_head short few none fine) = fine b
refused-not-waiting bytes fault (bad e b) (in_body size h less) = head-not-bad bytes _ h b
refused-not-waiting bytes fault (long e l) (in_head short few none fine) = not_reached l.reached
  where
    not_reached : (most_head ≤ length bytes) ⊎ (most_lines ≤ line_feeds bytes) → ⊥
    not_reached (inl le) = omega (arith, le, short)
    not_reached (inr le) = omega (arith, le, few)
refused-not-waiting bytes fault (long e l) (in_body size h less) = head-not-long bytes _ h l
refused-not-waiting bytes fault (unsized k) (in_head short few none fine) = none k.head k.rest k.reads
refused-not-waiting bytes fault (unsized k) (in_body size h less) = absurd-of (one-stated bytes _ _ h k)
  where
    absurd-of : ◌≡◌ {A = Result ℕ FrontFault} (Ok size) (Err fault) → ⊥
    absurd-of e = cc

request-not-waiting : (bytes : List ℕ) (q : Request) → HasRequest bytes q → IsUnfinished bytes → ⊥
unfolding head-of
request-not-waiting bytes q x (in_head short few none fine) = let h = head-of bytes q x in none h.head h.rest h.reads
request-not-waiting bytes q x (in_body size h less) =
    let size_is = length-of-ok size (length q.body) (one-stated bytes _ _ h (head-of bytes q x)) in
    let rest_is : h.rest ≡ q.body ++ x.rest = (heads-same bytes _ _ h (head-of bytes q x)).1 in
    omega (arith, less, size_is, ap length rest_is, length-append q.body x.rest)

pub wait_unsaid : (bytes : List ℕ) (r : Result Request FrontFault) → Says bytes r → IsUnfinished bytes → ⊥
wait_unsaid bytes (Ok q) x u = request-not-waiting bytes q x u
wait_unsaid bytes (Err fault) x u = refused-not-waiting bytes fault x u

-- ---- what a fault says

none-in-nothing : (front rest : List ℕ) → 0 < length front → [] ≡ front ++ rest → ⊥
none-in-nothing front rest some parts = omega (arith, some, ap length parts, length-append front rest)

pub nothing-waits : IsUnfinished []
nothing-waits = in_head (omega arith) (omega arith) none fine
  where
    none : HasNoHead []
    none h rest r = none-in-nothing (print_request h) rest (length_some (print_request h) (head_ends h)) r.reads.1

    fine : HasBadHead [] → ⊥
    fine b = none-in-nothing b.front b.rest (length_some b.front b.lines.whole) b.parts

pub faults_say : (fault : FrontFault) (left : Option (List ℕ)) (bytes : List ℕ) → IsFault fault left bytes → (fault ≡ NoMemory) ⊎ (IsUnfinished bytes ⊎ IsRefused bytes fault)
faults_say Ended left bytes f = inr (inl (subst IsUnfinished (sym f.1) nothing-waits))
faults_say Cut left bytes f = inr (inl f.2)
faults_say BadHead left bytes f = inr (inr (bad refl f))
faults_say HeadTooLong left bytes f = inr (inr (long refl f))
faults_say NoLength left bytes f = inr (inr (unsized f))
faults_say BodyTooLong left bytes f = inr (inr (unsized f))
faults_say ReadFault left bytes f = inr (inl f)
faults_say NoMemory left bytes f = inl refl

pub fields_fit : (bytes : List ℕ) (head : RequestHead) (rest : List ℕ) → ReadsHead bytes head rest → length head.fields ≤ 126
fields_fit bytes head rest r = omega (arith, r.few, feeds_of_head head)
