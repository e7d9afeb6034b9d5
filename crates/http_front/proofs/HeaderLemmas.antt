-- Header lines that lie in the bytes.
use Rattle.std.proofs.Common.{ℕ, ◌≤◌, List, [], ◌∷◌, arith}
use Rattle.std.specs.Prelude.{All}
use Rattle.std.specs.List.{AllByRecursion}
use Rattle.std.proofs.lemmas.List.Elements.{recursion_from_All}
use Rattle.httparse.specs.Spans.{IsHeaderWithin}
use Rattle.httparse.specs.declared.spans.HeaderSpan.{HeaderSpan}

wider : (n m : ℕ) (hs : List HeaderSpan) → n ≤ m → AllByRecursion (IsHeaderWithin n) hs → AllByRecursion (IsHeaderWithin m) hs
wider n m [] le all = tt
wider n m (h ∷ hs) le all = (((all.0.0.0, omega (arith, all.0.0.1)), (all.0.1.0, omega (arith, all.0.1.1))), wider n m hs le all.1)

pub all_within : (n m : ℕ) (hs : List HeaderSpan) → All (IsHeaderWithin n) hs → n ≤ m → AllByRecursion (IsHeaderWithin m) hs
all_within n m hs all le = wider n m hs le (recursion_from_All (IsHeaderWithin n) hs all)
