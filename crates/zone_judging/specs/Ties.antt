-- How records are tied to others of their zone, and those that are met one after another.
use Rattle.std.specs.Prelude.{ℕ, Bool, ◌&&◌, List, find, Option}
use Rattle.ck_base.specs.Order.{is_before}
use Rattle.record_model.specs.declared.records.Record.{Record}
use Rattle.name_rules.specs.Options.{is_some_and, is_none_or}
use Rattle.zone_model.specs.Names.{same}
use Rattle.zone_model.specs.References.{wants, goes_with}
use Rattle.zone_judging.specs.declared.ties.Tie.{Tie}

-- the record is tied to the name so
abbrev pub is_tied : Tie → List ℕ → Record → Bool
is_tied Tie.Child x r = is_some_and (same x) r.parent
is_tied Tie.Wants x r = wants x r
is_tied Tie.GoesWith x r = goes_with x r

-- the record stands above the name, or there is none
abbrev pub is_behind : Option (List ℕ) → Record → Bool
is_behind after r = is_none_or (λ x. is_before x r.name) after

-- the first record above a name, or the first of all, that is tied so
abbrev pub next_tied : List Record → Tie → List ℕ → Option (List ℕ) → Option Record
next_tied rows tie x after = find (λ (r : Record). is_behind after r && is_tied tie x r) rows
