-- What was read is a request, or a fault.
use Rattle.std.proofs.Common.{◌≡◌, ℕ, ◌+◌, ◌-◌, ◌<◌, ◌≤◌, List, [], ◌∷◌, ◌++◌, length, take, drop, refl, sym, ap, subst, ◌∙◌, arith, append_assoc, map, Option, Bool, true, false, Result, Ok, Err, inl, inr}
use Rattle.std.specs.Str.{bytes_eq}
use Rattle.std.specs.Str.Parse.{digits_value}
use Rattle.std.proofs.lemmas.List.{append-nil, take-append-drop, take-append-le, length-take-le, length-drop, length-append}
use Rattle.std.proofs.Math.Seq.{take-add, take-append_seam}
use Rattle.std.proofs.Math.ListN.{get_or-append}
use Rattle.std.specs.Prelude.{IfErr, ◌⊎◌, ⊤, nat_le, codes, if◌then◌else◌}
use Rattle.std.specs.Result.{IsErrAnd}
use Rattle.std.specs.Io.KnownBytes.{Consumes, IsAtEnd}
use Rattle.httparse.specs.Grammar.{RequestHead, print_request, HasNoRequest}
use Rattle.httparse.specs.Spans.{name_and_value}
use Rattle.ck_devices.proofs.Streams.{consumes-nil, consumes_on}
use Rattle.http_front.specs.declared.faults.FrontFault.{FrontFault}
use Rattle.http_front.specs.declared.faults.FrontFault.TheVariants.{Ended, Cut, BadHead, HeadTooLong, NoLength, BodyTooLong, ReadFault, NoMemory}
use Rattle.http_front.specs.declared.scan.Scan.{Scan}
use Rattle.http_front.specs.declared.head.HeadRead.{HeadRead}
use Rattle.http_front.specs.declared.request.Request.{Request}
use Rattle.http_front.specs.Lines.{most_lines, line_feeds}
use Rattle.http_front.specs.Fields.{most_body, is_length, stated_length, length_of, uncoded, values_of, body_length}
use Rattle.http_front.specs.Requests.{ReadsHead, HasHead, IsUnfinished, in_head, in_body}
use Rattle.http_front.specs.Reading.{most_piece, Extends, ReadsNoFurther, ReadsOn, TakesRequest, IsFault, IsReadError}
use Rattle.http_front.specs.Scans.{IsFound, IsScanned, IsDone, IsOpen, IsWaiting, MayBecomeHead}
use Rattle.http_front.specs.Taking.{StopsHead, TakesFront}
use Rattle.http_front.proofs.LineLemmas.{head_ends}
use Rattle.http_front.proofs.LookLemmas.{no_head, not_bad, head_more, head_kept, length_some}

-- what holds of a fault holds where it is told
pub told_err : {T E : Type 0} (P : E → Type 0) (r : Result T E) (fault : E) → IsErrAnd r (λ e. e ≡ fault) → P fault → IfErr r P
told_err P (Ok t) fault is p = tt
told_err P (Err e) fault is p = subst P (sym is) p

pub extends-nil : (left : Option (List ℕ)) (old : List ℕ) → Extends left left old old
extends-nil left old = record { taken = []; consumed = consumes-nil left; grown = sym (append-nil old) }

pub extends_on : (a b c : Option (List ℕ)) (x y z : List ℕ) → Extends a b x y → Extends b c y z → Extends a c x z
extends_on a b c x y z p q = record {
  taken = p.taken ++ q.taken;
  consumed = consumes_on a b c p.taken q.taken p.consumed q.consumed;
  grown = q.grown ∙ (ap (λ l. l ++ q.taken) p.grown ∙ append_assoc x p.taken q.taken);
}

-- ---- how far the source is read

none_of : (l : List ℕ) → length l ≡ 0 → l ≡ []
none_of [] is = refl
none_of (x ∷ l) is = absurd (omega (arith, is))

pub reads-nil : (left : Option (List ℕ)) (old : List ℕ) → ReadsOn left left old old
reads-nil left old = record { taken = []; consumed = consumes-nil left; grown = sym (append-nil old); ahead = inl refl }

-- and then nothing was read
pub reads_none : (a b c : Option (List ℕ)) (x y z : List ℕ) → ReadsOn a b x y → Extends b c y z → z ≡ y → ReadsOn a c x z
reads_none a b c x y z p e same =
    let nil : e.taken ≡ [] = none_of e.taken (omega (arith, ap length e.grown, length-append y e.taken, ap length same)) in
    record {
      taken = p.taken;
      consumed = subst (λ t. Consumes a c t) (append-nil p.taken) (consumes_on a b c p.taken [] p.consumed (subst (λ t. Consumes b c t) nil e.consumed));
      grown = same ∙ p.grown;
      ahead = p.ahead;
    }

pub reads_on : (a b c : Option (List ℕ)) (x y z : List ℕ) → ReadsOn a b x y → ReadsOn b c y z → ReadsOn a c x z
reads_on a b c x y z p q = record {
  taken = p.taken ++ q.taken;
  consumed = consumes_on a b c p.taken q.taken p.consumed q.consumed;
  grown = q.grown ∙ (ap (λ l. l ++ q.taken) p.grown ∙ append_assoc x p.taken q.taken);
  ahead = further p.ahead q.ahead;
}
  where
    behind : q.taken ≡ [] → p.taken ++ q.taken ≡ p.taken
    behind nil = ap (λ l. p.taken ++ l) nil ∙ append-nil p.taken

    further : ReadsNoFurther x p.taken → ReadsNoFurther y q.taken → ReadsNoFurther x (p.taken ++ q.taken)
    further first (inl nil) = subst (λ t. ReadsNoFurther x t) (sym (behind nil)) first
    further first (inr k) = inr (record {
      earlier = p.taken ++ k.earlier;
      piece = k.piece;
      parts = ap (λ l. p.taken ++ l) k.parts ∙ sym (append_assoc p.taken k.earlier k.piece);
      small = k.small;
      unfinished = subst IsUnfinished (ap (λ l. l ++ k.earlier) p.grown ∙ append_assoc x p.taken k.earlier) k.unfinished;
    })

-- ---- in a head

is-done : (bytes : List ℕ) (s : Scan) → s.seen ≡ length bytes → IsDone bytes s
is-done bytes s all less = absurd (omega (arith, all, less))

-- where a look waits for more, nothing is decided yet
pub waiting : (bytes : List ℕ) (s : Scan) → IsWaiting bytes s → IsUnfinished bytes
waiting bytes s w =
    let done = is-done bytes s w.all in
    let whole : take s.seen bytes ≡ bytes = ap (λ n. take n bytes) w.all ∙ take-all bytes in
    let few : line_feeds bytes < most_lines = omega (arith, ap line_feeds whole, w.scanned.counted, w.few) in
    in_head w.short few (no_head bytes s w.scanned done w.unended) (not_bad bytes s w.scanned done w.unended)
  where
    take-all : (l : List ℕ) → take (length l) l ≡ l
    take-all l = sym (append-nil (take (length l) l)) ∙ (ap (λ r. take (length l) l ++ r) (sym (drop-all l)) ∙ take-append-drop (length l) l)
      where
        drop-all : (l : List ℕ) → drop (length l) l ≡ []
        drop-all [] = refl
        drop-all (x ∷ l) = drop-all l

stops : (left : Option (List ℕ)) (bytes : List ℕ) (s : Scan) (fault : FrontFault) → IsWaiting bytes s → StopsHead fault left bytes → IsFault fault left bytes
stops left bytes s Ended w stop = stop
stops left bytes s Cut w stop = (stop.0, stop.1, waiting bytes s w)
stops left bytes s BadHead w stop = absurd stop
stops left bytes s HeadTooLong w stop = absurd stop
stops left bytes s NoLength w stop = absurd stop
stops left bytes s BodyTooLong w stop = absurd stop
stops left bytes s ReadFault w stop = waiting bytes s w
stops left bytes s NoMemory w stop = tt

-- so where there is no further piece, it is this fault
pub stopped : (now : Option (List ℕ)) (old new : List ℕ) (s : Scan) (fault : FrontFault) → IsWaiting old s → new ≡ old → StopsHead fault now new → IsFault fault now new
stopped now old new s fault w same stop = stops now new s fault (subst (λ l. IsWaiting l s) (sym same) w) stop

-- a piece more behind bytes that are unfinished
pub one_piece : (left now : Option (List ℕ)) (old new : List ℕ) → IsUnfinished old → Extends left now old new → length new ≤ length old + most_piece → ReadsOn left now old new
one_piece left now old new unfinished e le = record {
  taken = e.taken;
  consumed = e.consumed;
  grown = e.grown;
  ahead = inr (record {
    earlier = [];
    piece = e.taken;
    parts = refl;
    small = omega (arith, le, ap length e.grown, length-append old e.taken);
    unfinished = subst IsUnfinished (sym (append-nil old)) unfinished;
  });
}

-- the same lines stand in front of more bytes
pub scanned_more : (xs ys : List ℕ) (s : Scan) → IsScanned xs s → IsScanned (xs ++ ys) s
scanned_more xs ys s is = record {
  within = omega (arith, is.within, length-append xs ys);
  short = is.short;
  few = is.few;
  behind = is.behind;
  counted = ap line_feeds (take-append-le s.seen xs ys is.within) ∙ is.counted;
  last = ap line_feeds (take-append-le s.lines xs ys (omega (arith, is.within, is.behind))) ∙ is.last;
  ends = λ some. get_or-append xs ys 0 (s.lines - 1) (omega (arith, some, is.within, is.behind)) ∙ is.ends some;
}

pub open_more : (xs ys : List ℕ) (lines : ℕ) → lines ≤ length xs → IsOpen xs lines → IsOpen (xs ++ ys) lines
open_more xs ys lines within unended = subst (λ l. 0 < lines → HasNoRequest l × MayBecomeHead l) (sym (take-append-le lines xs ys within)) unended

-- ---- behind a head

module _ (bytes : List ℕ) (r : HeadRead) (found : IsFound bytes r) where
  reads : ReadsHead bytes found.is.head (drop r.len bytes)
  reads = record { reads = found.is.reads; short = omega (arith, found.is.len, found.short); few = found.few }

  pub has_head : (stated : Result ℕ FrontFault) → r.length ≡ stated → HasHead bytes stated
  has_head stated says = record { head = found.is.head; rest = drop r.len bytes; reads = reads; says = sym found.is.stated ∙ says }

  pub unfinished_body : (size : ℕ) → r.length ≡ Ok size → length bytes < r.len + size → IsUnfinished bytes
  unfolding has_head
  unfinished_body size says less =
      let short : length (drop r.len bytes) < size = omega (arith, length-drop r.len bytes, found.is.within, less) in
      in_body size (has_head (Ok size) says) short

  front_is : take r.len bytes ≡ print_request found.is.head
  front_is =
      ap (take r.len) found.is.reads.1
      ∙ (ap (λ n. take n (print_request found.is.head ++ drop r.len bytes)) found.is.len ∙ take-append_seam (print_request found.is.head) (drop r.len bytes))

  pub takes_front : (size : ℕ) (new : List ℕ) (q : Request) → r.length ≡ Ok size → r.len + size ≤ length bytes
      → q.method ≡ found.is.head.method → q.target ≡ found.is.head.target → q.close ≡ r.close → q.body ≡ take size (drop r.len bytes)
      → new ≡ drop (r.len + size) bytes → TakesFront bytes new q
  takes_front size new q says le method target close body new_is =
      let front = take r.len bytes in
      let rest = take size (drop r.len bytes) in
      let body_len : length rest ≡ size = length-take-le size (drop r.len bytes) (omega (arith, le, length-drop r.len bytes)) in
      let whole : take (r.len + size) bytes ≡ front ++ rest = take-add r.len size bytes in
      record {
        bytes = take (r.len + size) bytes;
        parts = sym (take-append-drop (r.len + size) bytes) ∙ ap (λ l. take (r.len + size) bytes ++ l) (sym new_is);
        is = record {
          head = found.is.head;
          reads = record { reads = (found.is.reads.0, whole ∙ (ap (λ l. l ++ rest) front_is ∙ ap (λ l. print_request found.is.head ++ l) (sym body))); short = reads.short; few = reads.few };
          method = method;
          target = target;
          close = close ∙ found.is.close;
          stated = sym found.is.stated ∙ (says ∙ ap (λ n. Ok n) (sym body_len ∙ ap length (sym body)));
        };
      }

-- ---- what a head says of the body where it says no length

abbrev IsSized : Result ℕ FrontFault → Type 0
IsSized (Ok size) = ⊤
IsSized (Err fault) = (fault ≡ NoLength) ⊎ (fault ≡ BodyTooLong)

sized-text : (text : List ℕ) → IsSized (stated_length text)
sized-text text = by_tests (is_length text) (nat_le (digits_value 10 text) most_body)
  where
    by_tests : (a b : Bool) → IsSized (if a then (if b then Ok (digits_value 10 text) else Err BodyTooLong) else Err NoLength)
    by_tests true true = tt
    by_tests true false = inr refl
    by_tests false b = inl refl

sized-texts : (method : List ℕ) (texts : List (List ℕ)) → IsSized (length_of method texts)
sized-texts method [] = by_test (bytes_eq method (codes "POST"))
  where
    by_test : (b : Bool) → IsSized (if b then Err NoLength else Ok 0)
    by_test true = inl refl
    by_test false = tt
sized-texts method (text ∷ []) = sized-text text
sized-texts method (text ∷ other ∷ texts) = inl refl

sized-codings : (codings : List (List ℕ)) (stated : Result ℕ FrontFault) → IsSized stated → IsSized (uncoded codings stated)
sized-codings [] stated is = is
sized-codings (coding ∷ codings) stated is = inl refl

sized-head : (head : RequestHead) → IsSized (body_length head)
sized-head head =
    let fields : List (List ℕ × List ℕ) = map name_and_value head.fields in
    let lengths = values_of (codes "content-length") fields in
    sized-codings (values_of (codes "transfer-encoding") fields) (length_of head.method lengths) (sized-texts head.method lengths)

pub sized_fault : (now : Option (List ℕ)) (bytes : List ℕ) (r : HeadRead) (fault : FrontFault) → IsFound bytes r → r.length ≡ Err fault → IsFault fault now bytes
sized_fault now bytes r fault found says = by_fault (subst IsSized (sym found.is.stated ∙ says) (sized-head found.is.head))
  where
    by_fault : (fault ≡ NoLength) ⊎ (fault ≡ BodyTooLong) → IsFault fault now bytes
    by_fault (inl is) = subst (λ f. IsFault f now bytes) (sym is) (has_head bytes r found (Err NoLength) (says ∙ ap (λ f. Err f) is))
    by_fault (inr is) = subst (λ f. IsFault f now bytes) (sym is) (has_head bytes r found (Err BodyTooLong) (says ∙ ap (λ f. Err f) is))

pub found_more : (xs ys : List ℕ) (r : HeadRead) → IsFound xs r → IsFound (xs ++ ys) r
found_more xs ys r f = record { is = head_more xs ys r f.is; short = f.short; few = subst (λ h. line_feeds (print_request h) ≤ most_lines) (sym (head_kept xs ys r f.is)) f.few }

pub found_on : (left now : Option (List ℕ)) (old new : List ℕ) (r : HeadRead) → IsFound old r → Extends left now old new → IsFound new r
found_on left now old new r f e = subst (λ l. IsFound l r) (sym e.grown) (found_more old e.taken r f)

-- a body that does not come to its end is cut, or unfinished
pub body_cut : (now : Option (List ℕ)) (bytes : List ℕ) (r : HeadRead) (size : ℕ) → IsFound bytes r → r.length ≡ Ok size → length bytes < r.len + size → IsAtEnd now → IsFault Cut now bytes
body_cut now bytes r size found says less ended = (ended, omega (arith, head-some, found.is.within), unfinished_body bytes r found size says less)
  where
    head-some : 0 < r.len
    head-some = omega (arith, found.is.len, length_some (print_request found.is.head) (head_ends found.is.head))

pub body_fails : (now : Option (List ℕ)) (bytes : List ℕ) (r : HeadRead) (size : ℕ) (fault : FrontFault) → IsFound bytes r → r.length ≡ Ok size → length bytes < r.len + size → IsReadError fault → IsFault fault now bytes
body_fails now bytes r size fault found says less (inl is) = subst (λ x. IsFault x now bytes) (sym is) (unfinished_body bytes r found size says less)
body_fails now bytes r size fault found says less (inr is) = subst (λ x. IsFault x now bytes) (sym is) tt

-- the same behind what was read before
pub takes_behind : (left now : Option (List ℕ)) (old mid new : List ℕ) (q : Request) → ReadsOn left now old mid → TakesFront mid new q → TakesRequest left now old new q
takes_behind left now old mid new q e t = record { bytes = t.bytes; taken = e.taken; consumed = e.consumed; parts = sym e.grown ∙ t.parts; is = t.is; ahead = e.ahead }
