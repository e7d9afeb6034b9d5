-- The size of a record after a put.
use Rattle.std.proofs.Common.{◌≡◌, ℕ, List, [], Bool, true, false, not, ◌&&◌, ◌+◌, ◌-◌, ◌^◌, min, nat_lt, arith, refl, Some, None, Option}
use Rattle.std.specs.Prelude.{if◌then◌else◌}
use Rattle.std.specs.List.{sum_by}
use Rattle.std.proofs.lemmas.Bool.{lt-ltb, le-ltb, ltb-true, ltb-false}
use Rattle.name_rules.specs.Options.{is_some_and}
use Rattle.record_model.specs.declared.value.Value.{Value}
use Rattle.record_model.specs.declared.records.Record.{Record}
use Rattle.record_model.specs.RecordSizes.{size_of_field, size_of_record}
use Rattle.zone_model.specs.Limits.{most_record_size}
use Rattle.zone_model.specs.Requests.{NamedOp, is_create, makes_new, changes_old, drops_fields}
use Rattle.zone_model.specs.Putting.{after_wishes, new_record, changed_record, written_over}
use Rattle.zone_judging.specs.Wishes.{AreInOrder, kept_size, given_size}
use Rattle.zone_judging.proofs.TotalLemmas.{sum_after}

pub size_after : (fields : List (List ℕ × Value)) (wishes : List (List ℕ × Option Value)) → AreInOrder wishes
    → sum_by size_of_field (after_wishes fields wishes) ≡ sum_by (kept_size wishes) fields + sum_by given_size wishes
size_after fields wishes ordered = sum_after wishes size_of_field fields ordered

pub added : (a b m n r : ℕ) → a ≡ min m (2 ^ 64 - 1) → b ≡ min n (2 ^ 64 - 1) → r ≡ min (a + b) (2 ^ 64 - 1) → r ≡ min (m + n) (2 ^ 64 - 1)
added a b m n r as_a as_b as_r = omega (arith, as_a, as_b, as_r)

over_by : (b : Bool) (n s : ℕ) → n ≡ min s (2 ^ 64 - 1) → nat_lt 1048576 s ≡ b → nat_lt 1048576 n ≡ b
over_by true n s is e = lt-ltb 1048576 n (omega (arith, is, ltb-true 1048576 s e))
over_by false n s is e = le-ltb 1048576 n (omega (arith, is, ltb-false 1048576 s e))

pub over : (n s : ℕ) → n ≡ min s (2 ^ 64 - 1) → nat_lt 1048576 n ≡ nat_lt 1048576 s
over n s is = over_by (nat_lt 1048576 s) n s is refl

-- ---- by whether there is a record before

new_step : (b : Bool) (p : NamedOp) → is_some_and (λ (r : Record). nat_lt most_record_size (size_of_record r)) (if b then Some (new_record p) else None) ≡ (b && nat_lt most_record_size (sum_by size_of_field (after_wishes [] p.draft.fields)))
new_step true p = refl
new_step false p = refl

old_step : (b : Bool) (p : NamedOp) (r : Record) → is_some_and (λ (q : Record). nat_lt most_record_size (size_of_record q)) (if b then Some (changed_record p r) else None)
    ≡ (b && nat_lt most_record_size (sum_by size_of_field (after_wishes (if drops_fields p.kind then [] else r.fields) p.draft.fields)))
old_step true p r = refl
old_step false p r = refl

abbrev pub large_by : NamedOp → Option Record → Bool
large_by p None = makes_new p.kind && nat_lt most_record_size (sum_by size_of_field (after_wishes [] p.draft.fields))
large_by p (Some r) = not (is_create p.kind) && nat_lt most_record_size (sum_by size_of_field (after_wishes (if drops_fields p.kind then [] else r.fields) p.draft.fields))

pub large_told : (p : NamedOp) (o : Option Record) → is_some_and (λ (r : Record). nat_lt most_record_size (size_of_record r)) (written_over p o) ≡ large_by p o
large_told p None = new_step (makes_new p.kind) p
large_told p (Some r) = old_step (changes_old p.kind) p r
