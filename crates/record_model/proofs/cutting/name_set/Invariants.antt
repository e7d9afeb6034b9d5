use Rattle.std.proofs.Common.{◌≡◌, ℕ, List, bytes_eq, take}
use Rattle.std.specs.List.{list_any}
use Rattle.record_model.specs.Cutting.{has_name}
use Rattle.record_model.proofs.cutting.name_set.Given as goal

abbrev pub invariant-loop-key : goal.invariant-loop-key
invariant-loop-key l = (x : List ℕ) → has_name l.names x ≡ list_any (λ key. bytes_eq key x) (take l.key-index l.keys)
