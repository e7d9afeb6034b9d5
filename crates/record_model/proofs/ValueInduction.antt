-- Induction on values: a fact of each value, from the fact of the elements of each.
use Rattle.std.proofs.Common.{List, [], ◌∷◌, map, subst}
use Rattle.std.specs.List.{AllByRecursion}
use denote.Hole.Holds.{Such}
use Rattle.record_model.specs.declared.value.Value.{Value, ind-Value, roll-Value}
use Rattle.record_model.specs.declared.value.Value.TheOpen.{Value-F}
use Rattle.record_model.specs.declared.value.Value.TheFolds.{map-Value, claims}
use Rattle.record_model.specs.declared.value.Value.TheBlock.{the_family, member-Value}
use Rattle.record_model.specs.ValueOrder.{elements_part}

-- a value with the fact of it
abbrev Claimed : (Value → Type 0) → Type 0
Claimed P = Such the_family (claims P) member-Value

firsts : (P : Value → Type 0) (zs : List (Claimed P)) → AllByRecursion P (map (λ z. z.0) zs)
firsts P [] = tt
firsts P (z ∷ zs) = (z.1, firsts P zs)

claimed : (P : Value → Type 0) (y : Value-F (Claimed P)) → AllByRecursion P (elements_part (map-Value (Claimed P) Value (λ z. z.0) y))
claimed P (Value-F.Int64 n) = tt
claimed P (Value-F.Timestamp n) = tt
claimed P (Value-F.Text t) = tt
claimed P (Value-F.Bytes b) = tt
claimed P (Value-F.Reference r) = tt
claimed P (Value-F.List k zs) = firsts P zs

pub each_value : (P : Value → Type 0) → ((x : Value-F Value) → AllByRecursion P (elements_part x) → P (roll-Value x)) → (v : Value) → P v
each_value P from = ind-Value P (λ x y is. from x (let Q : Value-F Value → Type 0 = λ z. AllByRecursion P (elements_part z) in subst Q is (claimed P y)))
