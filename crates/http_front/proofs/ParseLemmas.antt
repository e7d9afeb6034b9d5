-- What the parser says of whole lines.
use Rattle.std.proofs.Common.{◌≡◌, ℕ, suc, ◌+◌, ◌<◌, ◌≤◌, List, [], ◌∷◌, ◌++◌, length, get_or, take, refl, sym, ap, subst, ◌∙◌, arith, inl, inr}
use Rattle.std.specs.Prelude.{IsTrue}
use Rattle.std.proofs.lemmas.List.{append-nil, get_or-append-add, length-append}
use Rattle.std.proofs.Math.Seq.{get_or-append_seam}
use Rattle.httparse.specs.Grammar.{lf, print_end, print_blank, is_uri_byte, AllPass, print_request, EndsInTarget, MayBecomeRequest}
use Rattle.httparse.specs.Spans.{IsRequestWithin, IsRequestOf, RequestExceeds}
use Rattle.httparse.specs.declared.spans.HeaderSpan.{HeaderSpan}
use Rattle.httparse.specs.declared.spans.RequestSpans.{RequestSpans}
use Rattle.http_front.specs.Lines.{line_feeds, EndsInFeed}
use Rattle.http_front.specs.Scans.{HasSpans, MayBecomeHead}
use Rattle.http_front.proofs.HeaderLemmas.{all_within}
use Rattle.http_front.proofs.LineLemmas.{feeds-append, feeds_of_head}

-- so few lines have no more fields than there is room for
pub not_too_many : (bytes : List ℕ) → line_feeds bytes ≤ 128 → RequestExceeds 128 bytes → ⊥
not_too_many bytes few x =
    let front = x.0 in
    let rest = x.1 in
    let h = x.3 in
    let whole : line_feeds bytes ≡ line_feeds front + line_feeds rest = ap line_feeds x.2 ∙ feeds-append front rest in
    let printed : line_feeds (front ++ print_end lf) ≡ line_feeds (print_request h) = ap line_feeds (x.4.1 ∙ append-nil (print_request h)) in
    let ended : line_feeds (front ++ print_end lf) ≡ line_feeds front + 1 = feeds-append front (print_end lf) in
    let fields = feeds_of_head h in
    let many : 128 < length h.fields = x.5 in
    omega arith

-- the last byte of what stands behind is the last byte
last-of : (front back before : List ℕ) (k : ℕ) → length back ≡ suc k → front ++ back ≡ before ++ 10 ∷ [] → get_or back k 0 ≡ 10
last-of front back before k len same =
    let lengths : length front + length back ≡ length before + 1 = sym (length-append front back) ∙ (ap length same ∙ length-append before (10 ∷ [])) in
    let place : length before ≡ length front + k = omega arith in
    sym (get_or-append-add front back k 0)
    ∙ (ap (λ n. get_or (front ++ back) n 0) (sym place)
    ∙ (ap (λ (l : List ℕ). get_or l (length before) 0) same ∙ get_or-append_seam before 10 [] 0))

no-feed-behind : (front target before : List ℕ) → AllPass is_uri_byte target → front ++ 32 ∷ target ≡ before ++ 10 ∷ [] → ⊥
no-feed-behind front [] before all same = absurd (omega (arith, last-of front (32 ∷ []) before 0 refl same))
no-feed-behind front (t ∷ ts) before all same =
    let last : get_or (t ∷ ts) (length ts) 0 ≡ 10 = last-of front (32 ∷ t ∷ ts) before (suc (length ts)) refl same in
    absurd (never (subst (λ b. IsTrue (is_uri_byte b)) last (all (length ts) 0 (omega arith))))
  where
    never : IsTrue (is_uri_byte 10) → ⊥
    never e = cc

-- whole lines do not end inside a target
not-in-target : (bytes : List ℕ) → EndsInFeed bytes → EndsInTarget bytes → ⊥
not-in-target bytes e t =
    let blank = print_blank t.0 in
    let method = t.1 in
    let target = t.2 in
    no-feed-behind (blank ++ method) target e.before t.4 (sym t.5 ∙ e.ends)

-- so what may go on can become a head
pub may_become : (bytes : List ℕ) → EndsInFeed bytes → MayBecomeRequest bytes → MayBecomeHead bytes
may_become bytes e (inl x) = record { more = x.0; head = x.1; reads = x.2 }
may_become bytes e (inr t) = absurd (not-in-target bytes e t)

pub has_spans : (bytes : List ℕ) (headers : List HeaderSpan) (spans : RequestSpans) → IsRequestWithin bytes headers spans → IsRequestOf bytes headers spans → HasSpans bytes spans (take spans.headers headers)
has_spans bytes headers spans w x = record {
  head = x.0;
  reads = x.1.reads;
  len = x.1.len;
  within = w.section.len_fits;
  method_within = w.method;
  target_within = w.path;
  headers_within = all_within spans.len (length bytes) (take spans.headers headers) w.section.headers_fit w.section.len_fits;
  method = x.1.method;
  target = x.1.path;
  minor = x.1.version;
  fields = x.1.fields;
}
