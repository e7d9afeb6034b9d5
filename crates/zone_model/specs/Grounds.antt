-- What a judgement rests on.
use Rattle.std.specs.Prelude.{ℕ, Bool, not, ◌||◌, List, [], ◌∷◌, filter, find, Option, Some, None, decimal, if◌then◌else◌}
use Rattle.record_model.specs.declared.records.Record.{Record}
use Rattle.zone_model.specs.declared.operations.Past.{Past}
use Rattle.zone_model.specs.declared.outcomes.OpFault.{OpFault}
use Rattle.zone_model.specs.Names.{same_option, is_private}
use Rattle.name_rules.specs.Options.{is_some_and}
use Rattle.zone_model.specs.Records.{record_at, is_there, is_share}
use Rattle.zone_model.specs.Ancestry.{ancestors}
use Rattle.zone_model.specs.Coverage.{may_write}
use Rattle.zone_model.specs.Requests.{Caller, NamedOp, names_deleted}
use Rattle.zone_model.specs.Working.{working_view}

-- Who asks, what has happened to the names, the records of the view before and of the working view, and the names that deletions take.
pub record Grounds : Type 0 where
  pub caller : Caller
  pub pasts : List Past
  pub seen : List Record
  pub working : List Record
  pub taken : List (List ℕ)

-- a deletion takes a name of the view, but in the shared scope no share
abbrev pub is_taken_by_deletion : Caller → List Record → List ℕ → Bool
is_taken_by_deletion caller seen x = is_some_and (λ (r : Record). is_private caller.scope || not (is_share r)) (record_at seen x)

abbrev pub names_taken : Caller → List Record → List NamedOp → List (List ℕ)
names_taken caller seen ops = filter (is_taken_by_deletion caller seen) (names_deleted ops)

abbrev pub grounds_of : Caller → List Past → List Record → List NamedOp → Grounds
grounds_of caller pasts seen ops = record {
  caller = caller;
  pasts = pasts;
  seen = seen;
  working = working_view caller.scope seen ops;
  taken = names_taken caller seen ops;
}

-- no tag, or another text than the record's
abbrev pub is_stale : Option (List ℕ) → Record → Bool
is_stale tag r = not (same_option tag (Some (decimal r.tag)))

abbrev pub is_seen : Grounds → List ℕ → Bool
is_seen g x = is_there g.seen x

abbrev pub in_working : Grounds → List ℕ → Bool
in_working g x = is_there g.working x

-- The nearest at or above x that is in the view may be written. So a new record is written as its parent is, and a ring of new ones is not.
abbrev pub is_writable : Grounds → List ℕ → Bool
is_writable g x = is_some_and (may_write g.seen g.caller.user) (find (is_seen g) (ancestors g.working x))

-- a test, and the fault where it passes
abbrev pub Check : Type 0
Check = Bool × OpFault

-- the fault of the first test that passes
abbrev pub first_fault : List Check → Option OpFault
first_fault [] = None
first_fault (c ∷ cs) = if c.0 then Some c.1 else first_fault cs
