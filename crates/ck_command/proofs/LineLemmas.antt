-- Fronts of texts that are written in parts.
use Rattle.std.proofs.Common.{◌≡◌, ℕ, List, ◌++◌, take, drop, refl, sym, append_assoc}
use Rattle.std.proofs.lemmas.List.{take-append-drop}
use Rattle.std.specs.Prelude.{Option}
use Rattle.std.specs.Io.KnownBytes.{Appends}
use Rattle.ck_devices.specs.Fronts.{WritesFront}
use Rattle.ck_devices.proofs.Streams.{appends_on}
use Rattle.ck_command.specs.Lines.{AppendsFront}

pub front_of : (a b : Option (List ℕ)) (piece xs : List ℕ) → piece ≡ xs → WritesFront a b piece → AppendsFront a b xs
front_of a b piece xs e h =
    record { sent = take h.count piece; unsent = drop h.count piece; parts = rw (sym e) (sym (rw take-append-drop refl)); appended = h.wrote }

-- a front of the first text is a front of both
pub front_of_first : (a b : Option (List ℕ)) (xs ys : List ℕ) → AppendsFront a b xs → AppendsFront a b (xs ++ ys)
front_of_first a b xs ys f =
    record { sent = f.sent; unsent = f.unsent ++ ys; parts = rw f.parts (append_assoc f.sent f.unsent ys); appended = f.appended }

-- the first text, and a front of the next one
pub front_of_next : (a b c : Option (List ℕ)) (piece xs ys : List ℕ) → piece ≡ xs → Appends a b piece → AppendsFront b c ys → AppendsFront a c (xs ++ ys)
front_of_next a b c piece xs ys e h f = record {
  sent = piece ++ f.sent;
  unsent = f.unsent;
  parts = rw (sym e, f.parts) (sym (append_assoc piece f.sent f.unsent));
  appended = appends_on a b c piece f.sent h f.appended;
}
