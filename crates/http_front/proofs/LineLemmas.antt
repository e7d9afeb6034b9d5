-- Whole lines, and the line feeds of a head.
use Rattle.std.proofs.Common.{◌≡◌, ℕ, ◌+◌, ◌≤◌, List, [], ◌∷◌, ◌++◌, length, cond, refl, sym, ap, subst, ◌∙◌, arith, append_assoc}
use Rattle.std.specs.Prelude.{◌==◌}
use Rattle.std.specs.List.{flat_map}
use Rattle.std.proofs.lemmas.List.{append-nil}
use Rattle.std.proofs.lemmas.List.Sums.{sum_by-append, sum_by-cons}
use Rattle.httparse.specs.Grammar.{LineEnd, crlf, lf, print_end, Field, print_field, print_section, print_blank, print_version, RequestHead, print_request}
use Rattle.httparse.proofs.GrammarLemmas.{print_request-append}
use Rattle.http_front.specs.Lines.{line_feeds, EndsInFeed}

pub feeds-append : (xs ys : List ℕ) → line_feeds (xs ++ ys) ≡ line_feeds xs + line_feeds ys
feeds-append xs ys = sum_by-append (λ b. cond (b == 10) 1 0) xs ys

feeds-cons : (x : ℕ) (xs : List ℕ) → line_feeds xs ≤ line_feeds (x ∷ xs)
feeds-cons x xs = omega (arith, sum_by-cons (λ b. cond (b == 10) 1 0) x xs)

behind-feeds : (xs ys : List ℕ) (n : ℕ) → n ≤ line_feeds ys → n ≤ line_feeds (xs ++ ys)
behind-feeds xs ys n le = omega (arith, feeds-append xs ys)

feeds-end : (e : LineEnd) → line_feeds (print_end e) ≡ 1
feeds-end crlf = refl
feeds-end lf = refl

feeds-field : (f : Field) → 1 ≤ line_feeds (print_field f)
feeds-field f = behind-feeds (f.name ++ 58 ∷ f.raw) (print_end f.end) 1 (omega (arith, feeds-end f.end))

-- each field has a line feed
feeds-fields : (fs : List Field) → length fs ≤ line_feeds (flat_map print_field fs)
feeds-fields [] = omega arith
feeds-fields (f ∷ fs) =
    let rest = feeds-fields fs in
    let one = feeds-field f in
    let all = feeds-append (print_field f) (flat_map print_field fs) in
    omega arith

section-feeds : (fs : List Field) (last : LineEnd) → length fs + 1 ≤ line_feeds (print_section fs last)
section-feeds fs last =
    let section = feeds-append (flat_map print_field fs) (print_end last) in
    let fields = feeds-fields fs in
    let end = feeds-end last in
    omega arith

-- a head, one piece behind another
head-pieces : (h : RequestHead) → print_request h
    ≡ print_blank h.blank ++ (h.method ++ 32 ∷ (h.target ++ 32 ∷ (print_version h.minor ++ (print_end h.line_end ++ (print_section h.fields h.last ++ [])))))
head-pieces h = sym (append-nil (print_request h)) ∙ print_request-append h []

behind-one : (x : ℕ) (ys : List ℕ) (n : ℕ) → n ≤ line_feeds ys → n ≤ line_feeds (x ∷ ys)
behind-one x ys n le = omega (arith, feeds-cons x ys)

-- so has the line before the fields, and the one behind them
pub feeds_of_head : (h : RequestHead) → length h.fields + 2 ≤ line_feeds (print_request h)
feeds_of_head h =
    let n = length h.fields + 2 in
    let section : length h.fields + 1 ≤ line_feeds (print_section h.fields h.last ++ []) =
    subst (λ (l : List ℕ). length h.fields + 1 ≤ line_feeds l) (sym (append-nil (print_section h.fields h.last))) (section-feeds h.fields h.last) in
    let line : n ≤ line_feeds (print_end h.line_end ++ (print_section h.fields h.last ++ [])) =
    omega (arith, feeds-append (print_end h.line_end) (print_section h.fields h.last ++ []), feeds-end h.line_end, section) in
    let back = print_end h.line_end ++ (print_section h.fields h.last ++ []) in
    let versioned = print_version h.minor ++ back in
    let targeted = h.target ++ 32 ∷ versioned in
    let version = behind-feeds (print_version h.minor) back n line in
    let target = behind-feeds h.target (32 ∷ versioned) n (behind-one 32 versioned n version) in
    let method = behind-feeds h.method (32 ∷ targeted) n (behind-one 32 targeted n target) in
    let all = behind-feeds (print_blank h.blank) (h.method ++ 32 ∷ targeted) n method in
    subst (λ (l : List ℕ). length h.fields + 2 ≤ line_feeds l) (sym (head-pieces h)) all

-- ---- the last byte

end-ends : (e : LineEnd) → EndsInFeed (print_end e)
end-ends crlf = record { before = 13 ∷ []; ends = refl }
end-ends lf = record { before = []; ends = refl }

pub behind_ends : (xs ys : List ℕ) → EndsInFeed ys → EndsInFeed (xs ++ ys)
behind_ends xs ys e = record { before = xs ++ e.before; ends = ap (λ l. xs ++ l) e.ends ∙ sym (append_assoc xs e.before (10 ∷ [])) }

one-ends : (x : ℕ) (ys : List ℕ) → EndsInFeed ys → EndsInFeed (x ∷ ys)
one-ends x ys e = behind_ends (x ∷ []) ys e

pub head_ends : (h : RequestHead) → EndsInFeed (print_request h)
head_ends h =
    let section : EndsInFeed (print_section h.fields h.last ++ []) =
    subst EndsInFeed (sym (append-nil (print_section h.fields h.last))) (behind_ends (flat_map print_field h.fields) (print_end h.last) (end-ends h.last)) in
    let line = behind_ends (print_end h.line_end) (print_section h.fields h.last ++ []) section in
    let version = behind_ends (print_version h.minor) _ line in
    let target = behind_ends h.target _ (one-ends 32 _ version) in
    let method = behind_ends h.method _ (one-ends 32 _ target) in
    subst EndsInFeed (sym (head-pieces h)) (behind_ends (print_blank h.blank) _ method)
