-- The references of records to others of their zone.
use Rattle.std.specs.Prelude.{ℕ, Bool, true, false, ◌&&◌, List, [], ◌∷◌, flat_map}
use Rattle.std.specs.List.{list_any}
use Rattle.record_model.specs.declared.value.Action.{Action}
use Rattle.record_model.specs.declared.value.RefTo.{RefTo}
use Rattle.record_model.specs.declared.value.Value.{Value, out-Value}
use Rattle.record_model.specs.declared.value.Value.TheOpen.{Value-F}
use Rattle.record_model.specs.declared.records.Record.{Record}
use Rattle.zone_model.specs.Names.{same}

abbrev pub single_references : Value-F Value → List RefTo
single_references (Value-F.Reference r) = r ∷ []
single_references _ = []

abbrev pub level_references : Value-F Value → List RefTo
level_references (Value-F.Reference r) = r ∷ []
level_references (Value-F.List k vs) = flat_map (λ v. single_references (out-Value v)) vs
level_references _ = []

-- the reference that a value is, or those that a list has
abbrev pub references_in : Value → List RefTo
references_in v = level_references (out-Value v)

abbrev pub deletes_self : Action → Bool
deletes_self Action.DeleteSelf = true
deletes_self _ = false

abbrev pub validates : Action → Bool
validates Action.Validate = true
validates _ = false

abbrev pub has_reference : (RefTo → Bool) → Record → Bool
has_reference test r = list_any (λ (field : List ℕ × Value). list_any test (references_in field.1)) r.fields

-- the record is to be deleted with x
abbrev pub goes_with : List ℕ → Record → Bool
goes_with x r = has_reference (λ (q : RefTo). deletes_self q.action && same x q.name) r

-- the record wants x to be there
abbrev pub wants : List ℕ → Record → Bool
wants x r = has_reference (λ (q : RefTo). validates q.action && same x q.name) r
