-- How far a conversation reads ahead.
use Rattle.std.proofs.Common.{◌≡◌, ℕ, ◌<◌, ◌≤◌, ◌-◌, List, [], ◌++◌, length, take, refl, sym, ap, ◌∙◌, arith, append_assoc, length-append, Option, Ok, inl, inr}
use Rattle.std.specs.Prelude.{◌⊎◌}
use Rattle.std.proofs.lemmas.Bool.{cases_lt}
use Rattle.http_front.specs.declared.request.Request.{Request}
use Rattle.http_front.specs.Reading.{most_piece, EndsInPiece, ReadsNoFurther, ReadsOn, HasLastPiece, TakesRequest}
use Rattle.http_front.proofs.LawLemmas.{front-parts, wait_unsaid, nothing-waits}

-- less than a piece is the last piece
pub piece_of_little : (bytes : List ℕ) → length bytes < most_piece → HasLastPiece bytes
piece_of_little bytes little = record { front = []; piece = bytes; parts = refl; small = omega (arith, little); unfinished = nothing-waits }

-- what was read on behind it
pub piece_on : (left now : Option (List ℕ)) (old new : List ℕ) → length old < most_piece → ReadsOn left now old new → HasLastPiece new
piece_on left now old new little read = by_end read.ahead
  where
    by_end : ReadsNoFurther old read.taken → HasLastPiece new
    by_end (inl none) = piece_of_little new (omega (arith, little, ap length read.grown, length-append old read.taken, ap length none))
    by_end (inr k) = record {
      front = old ++ k.earlier;
      piece = k.piece;
      parts = read.grown ∙ (ap (λ l. old ++ l) k.parts ∙ sym (append_assoc old k.earlier k.piece));
      small = k.small;
      unfinished = k.unfinished;
    }

-- behind a request that was taken less is left than a piece
pub little_behind : (left now : Option (List ℕ)) (old new : List ℕ) (r : Request) → length old < most_piece → TakesRequest left now old new r → length new < most_piece
little_behind left now old new r little takes = by_end takes.ahead
  where
    whole : (k : EndsInPiece old takes.taken) → (old ++ k.earlier) ++ k.piece ≡ takes.bytes ++ new
    whole k = append_assoc old k.earlier k.piece ∙ (ap (λ l. old ++ l) (sym k.parts) ∙ takes.parts)

    by_length : (k : EndsInPiece old takes.taken) → (length (old ++ k.earlier) < length takes.bytes) ⊎ (length takes.bytes ≤ length (old ++ k.earlier)) → length new < most_piece
    by_length k (inl less) = omega (arith, less, k.small, ap length (whole k), length-append (old ++ k.earlier) k.piece, length-append takes.bytes new)
    by_length k (inr le) = absurd (wait_unsaid (old ++ k.earlier) (Ok r)
        (record { front = takes.bytes; rest = take (length (old ++ k.earlier) - length takes.bytes) new; parts = front-parts (old ++ k.earlier) k.piece takes.bytes new (whole k) le; is = takes.is }) k.unfinished)

    by_end : ReadsNoFurther old takes.taken → length new < most_piece
    by_end (inl none) = omega (arith, little, ap length takes.parts, length-append old takes.taken, ap length none, length-append takes.bytes new)
    by_end (inr k) = by_length k (cases_lt (length (old ++ k.earlier)) (length takes.bytes))
