-- Which operation of a request gives a name again: that of a record, or that of a root for a share.
use Rattle.std.specs.Prelude.{ℕ, zero, suc, Bool, false, if◌then◌else◌, List, length, take, slice_get, bytes_eq, Option, None, Some, option_map, option_and_then}
use Rattle.std.specs.List.{list_any}
use Rattle.std.specs.Option.{option_or, option_map_or}
use Rattle.record_model.specs.declared.draft.ForRoot.{ForRoot}
use Rattle.zone_model.specs.declared.operations.Op.{Op}

-- the root that the operation names for a share
abbrev pub share_root_of : Op → Option (List ℕ)
share_root_of op = option_map (λ (root : ForRoot). root.name) op.draft.for_root

abbrev pub names_record : List ℕ → Op → Bool
names_record name op = option_map_or (λ other. bytes_eq other name) op.draft.name false

abbrev pub names_root : List ℕ → Op → Bool
names_root name op = option_map_or (λ other. bytes_eq other name) (share_root_of op) false

-- the name, where it is there and one of the operations has it
abbrev pub if_any : (List ℕ → Op → Bool) → List Op → Option (List ℕ) → Option (List ℕ)
if_any has ops None = None
if_any has ops (Some name) = if list_any (has name) ops then Some name else None

-- the operation's record where an earlier one names it, else its root where an earlier one names that
abbrev pub again : List Op → Op → Option (List ℕ)
again earlier op = option_or (if_any names_record earlier op.draft.name) (if_any names_root earlier (share_root_of op))

-- the name that the operation at a place gives again
abbrev pub again_at : List Op → ℕ → Option (List ℕ)
again_at ops at = option_and_then (again (take at ops)) (slice_get ops at)

-- what stands at the least of the first n places that have something
abbrev pub first_of : {A : Type 0} → (ℕ → Option A) → ℕ → Option A
first_of at zero = None
first_of at (suc n) = option_or (first_of at n) (at n)

-- the name that is given again first
abbrev pub named_again : List Op → Option (List ℕ)
named_again ops = first_of (again_at ops) (length ops)
