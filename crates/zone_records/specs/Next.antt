-- The records right below a name, and those that are to be deleted with it, one after another.
use Rattle.std.specs.Prelude.{ℕ, Bool, true, List, filter, find, Option, None, Some}
use Rattle.ck_base.specs.Order.{is_before}
use Rattle.record_model.specs.declared.records.Record.{Record}
use Rattle.name_rules.specs.Options.{is_some_and}
use Rattle.zone_model.specs.Names.{same}
use Rattle.zone_model.specs.Records.{names_in}
use Rattle.zone_model.specs.References.{goes_with}

-- the name is the parent of the record
abbrev pub is_child : List ℕ → Record → Bool
is_child x r = is_some_and (same x) r.parent

abbrev pub children_of : List Record → List ℕ → List (List ℕ)
children_of rows x = names_in (filter (is_child x) rows)

-- those with a DELETE_SELF reference to the name
abbrev pub referrers_of : List Record → List ℕ → List (List ℕ)
referrers_of rows x = names_in (filter (goes_with x) rows)

-- where nothing is given to come after, each name does
abbrev pub comes_after : Option (List ℕ) → List ℕ → Bool
comes_after None y = true
comes_after (Some x) y = is_before x y

abbrev pub first_after : Option (List ℕ) → List (List ℕ) → Option (List ℕ)
first_after after names = find (comes_after after) names

abbrev pub next_child : List Record → List ℕ → Option (List ℕ) → Option (List ℕ)
next_child rows x after = first_after after (children_of rows x)

abbrev pub next_referrer : List Record → List ℕ → Option (List ℕ) → Option (List ℕ)
next_referrer rows x after = first_after after (referrers_of rows x)
