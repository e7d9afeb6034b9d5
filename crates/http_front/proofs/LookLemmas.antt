-- What a look at the bytes finds.
use Rattle.std.proofs.Common.{◌≡◌, ℕ, ◌+◌, ◌-◌, ◌<◌, ◌≤◌, ◌⊎◌, List, [], ◌∷◌, ◌++◌, length, take, drop, cond, refl, sym, ap, subst, ◌∙◌, arith, inl, inr, append_assoc}
use Rattle.std.specs.Prelude.{◌==◌}
use Rattle.std.proofs.lemmas.List.{take-append-drop, take-append-le, drop-append-le, length-take-le, length-drop, length-append, take_more}
use Rattle.std.proofs.lemmas.Bool.{cases_lt}
use Rattle.std.proofs.lemmas.List.Sums.{sum_by-take-le}
use Rattle.std.proofs.Math.Seq.{take-append-add}
use Rattle.httparse.specs.Grammar.{print_request, ReadsRequest, NeverHasRequest}
use Rattle.httparse.specs.Spans.{IsWithin, span_bytes}
use Rattle.httparse.specs.declared.spans.Span.{Span}
use Rattle.httparse.proofs.GrammarLemmas.{ReadsRequest-append}
use Rattle.http_front.specs.declared.scan.Scan.{Scan}
use Rattle.http_front.specs.declared.head.HeadRead.{HeadRead}
use Rattle.http_front.specs.Lines.{most_head, most_lines, line_feeds, EndsInFeed, AreLines}
use Rattle.http_front.specs.Requests.{HasNoHead, HasBadHead, HasLongHead}
use Rattle.http_front.specs.Scans.{IsHeadRead, IsScanned, IsDone, IsOpen, IsFound}
use Rattle.http_front.proofs.LineLemmas.{feeds-append, head_ends}

-- no more line feeds stand in the front
feeds-take : (n : ℕ) (xs : List ℕ) → line_feeds (take n xs) ≤ line_feeds xs
feeds-take n xs = sum_by-take-le (λ b. cond (b == 10) 1 0) xs n

-- so many bytes of a front and what goes on, where they are no fewer than the front
pub take-behind : (front rest : List ℕ) (n : ℕ) → length front ≤ n → take n (front ++ rest) ≡ front ++ take (n - length front) rest
take-behind front rest n le =
    let parts : length front + (n - length front) ≡ n = omega (arith, le) in
    ap (λ m. take m (front ++ rest)) (sym parts) ∙ take-append-add front rest (n - length front)

-- whole lines that reach behind the last line feed that was found have one more
pub more-feeds : (front rest : List ℕ) (lines feeds : ℕ) → EndsInFeed front → line_feeds (take lines (front ++ rest)) ≡ feeds → lines < length front → feeds < line_feeds front
more-feeds front rest lines feeds e last less =
    let lengths : length front ≡ length e.before + 1 = ap length e.ends ∙ length-append e.before (10 ∷ []) in
    let within : lines ≤ length e.before = omega arith in
    let same : take lines (front ++ rest) ≡ take lines e.before =
    ap (λ (l : List ℕ). take lines (l ++ rest)) e.ends ∙ (ap (take lines) (append_assoc e.before (10 ∷ []) rest) ∙ take-append-le lines e.before (10 ∷ rest) within) in
    let counted : line_feeds (take lines (front ++ rest)) ≡ line_feeds (take lines e.before) = ap line_feeds same in
    let fewer = feeds-take lines e.before in
    let whole : line_feeds front ≡ line_feeds e.before + 1 = ap line_feeds e.ends ∙ feeds-append e.before (10 ∷ []) in
    omega arith

-- and where they were looked at, so many were found
seen-feeds : (front rest : List ℕ) (seen : ℕ) → length front ≤ seen → line_feeds front ≤ line_feeds (take seen (front ++ rest))
seen-feeds front rest seen le =
    let all : line_feeds (take seen (front ++ rest)) ≡ line_feeds front + line_feeds (take (seen - length front) rest) =
    ap line_feeds (take-behind front rest seen le) ∙ feeds-append front (take (seen - length front) rest) in
    omega arith

module _ (front rest : List ℕ) (s : Scan) (is : IsScanned (front ++ rest) s) (done : IsDone (front ++ rest) s) where
  not-behind : AreLines front → s.lines < length front → ⊥
  not-behind lines less = by_seen (cases_lt s.seen (length front))
    where
      many : s.feeds < line_feeds front
      many = more-feeds front rest s.lines s.feeds lines.whole is.last less

      stopped : s.seen < length front → (s.seen ≡ most_head) ⊎ (s.feeds ≡ most_lines) → ⊥
      stopped under (inl e) = omega (arith, lines.short, e, under)
      stopped under (inr e) = omega (arith, lines.few, e, many)

      by_seen : (s.seen < length front) ⊎ (length front ≤ s.seen) → ⊥
      by_seen (inr le) = omega (arith, seen-feeds front rest s.seen le, is.counted, many)
      by_seen (inl under) = stopped under (done (omega (arith, under, length-append front rest)))

  -- whole lines at the front do not reach behind the last line feed that was found
  lines_within : AreLines front → length front ≤ s.lines
  lines_within lines = by_order (cases_lt s.lines (length front))
    where
      by_order : (s.lines < length front) ⊎ (length front ≤ s.lines) → length front ≤ s.lines
      by_order (inl less) = absurd (not-behind lines less)
      by_order (inr le) = le

pub length_some : (bytes : List ℕ) → EndsInFeed bytes → 0 < length bytes
length_some bytes e = omega (arith, ap length e.ends, length-append e.before (10 ∷ []))

module _ (bytes : List ℕ) (s : Scan) (is : IsScanned bytes s) (done : IsDone bytes s) (unended : IsOpen bytes s.lines) where
  pub no_head : HasNoHead bytes
  no_head h rest r =
      let front : AreLines (print_request h) = record { whole = head_ends h; short = r.short; few = r.few } in
      let parts = r.reads.1 in
      let within : length (print_request h) ≤ s.lines =
      lines_within (print_request h) rest s (subst (λ b. IsScanned b s) parts is) (subst (λ b. IsDone b s) parts done) front in
      let some = length_some (print_request h) (head_ends h) in
      let here : take s.lines bytes ≡ print_request h ++ take (s.lines - length (print_request h)) rest =
      ap (take s.lines) parts ∙ take-behind (print_request h) rest s.lines within in
      (unended (omega (arith, some, within))).0 h (take (s.lines - length (print_request h)) rest) (r.reads.0, here)

  pub not_bad : HasBadHead bytes → ⊥
  not_bad b =
      let within : length b.front ≤ s.lines =
      lines_within b.front b.rest s (subst (λ l. IsScanned l s) b.parts is) (subst (λ l. IsDone l s) b.parts done) b.lines in
      let some = length_some b.front b.lines.whole in
      let k = s.lines - length b.front in
      let here : take s.lines bytes ≡ b.front ++ take k b.rest = ap (take s.lines) b.parts ∙ take-behind b.front b.rest s.lines within in
      let may = (unended (omega (arith, some, within))).1 in
      let whole : take s.lines bytes ++ may.more ≡ b.front ++ (take k b.rest ++ may.more) =
      ap (λ l. l ++ may.more) here ∙ append_assoc b.front (take k b.rest) may.more in
      b.never (take k b.rest ++ may.more) may.head [] (subst (λ l. ReadsRequest l may.head []) whole may.reads)

  -- where a limit is reached, the head is too long
  pub long_head : (s.seen ≡ most_head) ⊎ ((s.seen ≡ most_head → ⊥) × (s.feeds ≡ most_lines)) → HasLongHead bytes
  long_head at = record { reached = reached at; none = no_head; fine = not_bad }
    where
      reached : (s.seen ≡ most_head) ⊎ ((s.seen ≡ most_head → ⊥) × (s.feeds ≡ most_lines)) → (most_head ≤ length bytes) ⊎ (most_lines ≤ line_feeds bytes)
      reached (inl e) = inl (omega (arith, e, is.within))
      reached (inr e) = inr (omega (arith, e.1, is.counted, feeds-take s.seen bytes))

-- the lines that were found end in a line feed
pub lines_end : (bytes : List ℕ) (s : Scan) → IsScanned bytes s → 0 < s.lines → EndsInFeed (take s.lines bytes)
lines_end bytes s is some =
    let n = s.lines - 1 in
    let lines : n + 1 ≡ s.lines = omega (arith, some) in
    let inside : n < length bytes = omega (arith, some, is.behind, is.within) in
    record {
      before = take n bytes;
      ends = ap (λ m. take m bytes) (sym lines) ∙ (take_more bytes n 0 inside ∙ ap (λ b. take n bytes ++ b ∷ []) (is.ends some));
    }

pub are_lines : (bytes : List ℕ) (s : Scan) → IsScanned bytes s → 0 < s.lines → AreLines (take s.lines bytes)
are_lines bytes s is some = record {
  whole = lines_end bytes s is some;
  short = omega (arith, length-take-le s.lines bytes (omega (arith, is.behind, is.within)), is.behind, is.short);
  few = omega (arith, is.last, is.few);
}

-- lines that never are a head are a bad one
pub bad_head : (bytes : List ℕ) (s : Scan) → IsScanned bytes s → 0 < s.lines → NeverHasRequest (take s.lines bytes) → HasBadHead bytes
bad_head bytes s is some never = record {
  front = take s.lines bytes;
  rest = drop s.lines bytes;
  parts = sym (take-append-drop s.lines bytes);
  lines = are_lines bytes s is some;
  never = never;
}

span-more : (xs ys : List ℕ) (s : Span) → IsWithin (length xs) s → span_bytes (xs ++ ys) s ≡ span_bytes xs s
span-more xs ys s w =
    let within : s.end - s.start ≤ length (drop s.start xs) = omega (arith, w.0, w.1, length-drop s.start xs) in
    ap (take (s.end - s.start)) (drop-append-le s.start xs ys (omega (arith, w.0, w.1))) ∙ take-append-le (s.end - s.start) (drop s.start xs) ys within

-- what follows leaves a head as it was read
pub head_more : (xs ys : List ℕ) (r : HeadRead) → IsHeadRead xs r → IsHeadRead (xs ++ ys) r
head_more xs ys r is = record {
  head = is.head;
  reads = subst (λ l. ReadsRequest (xs ++ ys) is.head l) (sym (drop-append-le r.len xs ys is.within)) (ReadsRequest-append xs is.head (drop r.len xs) ys is.reads);
  len = is.len;
  within = omega (arith, is.within, length-append xs ys);
  method_within = is.method_within;
  target_within = is.target_within;
  method = span-more xs ys r.method (is.method_within.0, omega (arith, is.method_within.1, is.within)) ∙ is.method;
  target = span-more xs ys r.target (is.target_within.0, omega (arith, is.target_within.1, is.within)) ∙ is.target;
  close = is.close;
  stated = is.stated;
}

pub head_kept : (xs ys : List ℕ) (r : HeadRead) (is : IsHeadRead xs r) → (head_more xs ys r is).head ≡ is.head
unfolding head_more
head_kept xs ys r is = refl

-- a head that the lines begin with lies within its limits
pub found_head : (bytes : List ℕ) (s : Scan) (r : HeadRead) → IsScanned bytes s → IsHeadRead (take s.lines bytes) r → IsFound bytes r
unfolding head_more
found_head bytes s r is read =
    let here = head_more (take s.lines bytes) (drop s.lines bytes) r read in
    let lines : length (take s.lines bytes) ≡ s.lines = length-take-le s.lines bytes (omega (arith, is.behind, is.within)) in
    let all : line_feeds (take s.lines bytes) ≡ line_feeds (print_request read.head) + line_feeds (drop r.len (take s.lines bytes)) =
    ap line_feeds read.reads.1 ∙ feeds-append (print_request read.head) (drop r.len (take s.lines bytes)) in
    let few : line_feeds (print_request read.head) ≤ most_lines = omega (arith, all, is.last, is.few) in
    moved (take-append-drop s.lines bytes) (record { is = here; short = omega (arith, read.within, lines, is.behind, is.short); few = few })
  where
    moved : take s.lines bytes ++ drop s.lines bytes ≡ bytes → IsFound (take s.lines bytes ++ drop s.lines bytes) r → IsFound bytes r
    moved e f = subst (λ l. IsFound l r) e f
