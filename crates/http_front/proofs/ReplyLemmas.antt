-- The bytes of a reply, written one piece behind another.
use Rattle.std.proofs.Common.{ℕ, ◌+◌, ◌<◌, List, ◌++◌, length, length-append, take, sym, subst, arith, Option}
use Rattle.std.proofs.lemmas.List.{take-append-le}
use Rattle.std.proofs.Math.Seq.{take-append-add}
use Rattle.std.specs.Io.KnownBytes.{Appends}
use Rattle.ck_devices.proofs.Streams.{appends_on}
use Rattle.ck_devices.specs.Fronts.{WritesFront}

-- a front of the head is one of the whole
pub front_of_head : (a b : Option (List ℕ)) (head body : List ℕ) → WritesFront a b head → WritesFront a b (head ++ body)
front_of_head a b head body w = record {
  count = w.count;
  short = rw (length-append head body) (omega (arith, w.short));
  wrote = subst (λ l. Appends a b l) (sym (take-append-le w.count head body (omega (arith, w.short)))) w.wrote;
}

-- the head, and a front of the body
pub front_of_body : (a b c : Option (List ℕ)) (head body : List ℕ) → Appends a b head → WritesFront b c body → WritesFront a c (head ++ body)
front_of_body a b c head body h w = record {
  count = length head + w.count;
  short = rw (length-append head body) (omega (arith, w.short));
  wrote = subst (λ l. Appends a c l) (sym (take-append-add head body w.count)) (appends_on a b c head (take w.count body) h w.wrote);
}
