-- Which records stand at or above a name.
use Rattle.std.specs.Prelude.{ℕ, Bool, List, map, Option}
use Rattle.name_rules.specs.Parents.{Link, parent_of, IsAbove, all_above, is_above}
use Rattle.record_model.specs.declared.records.Record.{Record}

-- each record's name with its parent
abbrev pub links_of : List Record → List Link
links_of rows = map (λ (r : Record). (r.name, r.parent)) rows

abbrev pub parent_at : List Record → List ℕ → Option (List ℕ)
parent_at rows x = parent_of (links_of rows) x

-- a is x, or x has a parent p and a is at or above p
abbrev pub IsAncestor : List Record → List ℕ → List ℕ → Type 0
IsAncestor rows a x = IsAbove (links_of rows) a x

abbrev pub ancestors : List Record → List ℕ → List (List ℕ)
ancestors rows x = all_above (links_of rows) x

abbrev pub is_ancestor : List Record → List ℕ → List ℕ → Bool
is_ancestor rows a x = is_above (links_of rows) a x
