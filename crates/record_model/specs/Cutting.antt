-- A record with only some of its fields.
use Rattle.std.specs.Prelude.{ℕ, Bool, List, filter, bytes_eq}
use Rattle.std.specs.List.{list_any}
use Rattle.std.specs.Ordering.{nat_cmp}
use Rattle.std.specs.Cmp.Lexicographic.{slice_cmp}
use Rattle.std.specs.BTreeSet.{BTreeSet, contains_by}
use denote.Ref.{Bor}
use Rattle.record_model.specs.declared.value.Value.{Value}
use Rattle.record_model.specs.declared.records.Record.{Record}

-- the field's name is among those that are asked for
abbrev pub is_asked_for : List (List ℕ) → List ℕ × Value → Bool
is_asked_for keys field = list_any (λ key. bytes_eq key field.0) keys

abbrev pub cut : List (List ℕ) → Record → Record
cut keys r = record r { fields = filter (is_asked_for keys) r.fields }

-- a set of texts has the name
abbrev pub has_name : BTreeSet (Bor (List ℕ)) → List ℕ → Bool
has_name names x = contains_by (λ key. slice_cmp nat_cmp x key.now) names

-- and so that of the field
abbrev pub is_among : BTreeSet (Bor (List ℕ)) → List ℕ × Value → Bool
is_among names field = has_name names field.0
