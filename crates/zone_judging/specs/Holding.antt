-- What stands in the working view, and holds a name back from a deletion.
use Rattle.std.specs.Prelude.{ℕ, Bool, not, ◌&&◌, ◌||◌, List, Option, Some}
use Rattle.std.specs.Option.{option_map_or}
use Rattle.std.specs.List.{list_any, AllByRecursion}
use Rattle.record_model.specs.declared.value.RefTo.{RefTo}
use Rattle.record_model.specs.declared.value.Value.{Value}
use Rattle.record_model.specs.declared.records.Record.{Record}
use Rattle.name_rules.specs.Options.{is_some_and}
use Rattle.zone_model.specs.Names.{same, is_in}
use Rattle.zone_model.specs.Records.{record_at}
use Rattle.zone_model.specs.References.{references_in, deletes_self, has_reference, wants}
use Rattle.zone_model.specs.Ancestry.{parent_at}
use Rattle.zone_model.specs.Requests.{NamedOp as Named, is_deletion}
use Rattle.zone_model.specs.Putting.{written_over}
use Rattle.zone_model.specs.Grounds.{Grounds}
use Rattle.zone_model.specs.DeletionChecks.{holds_back}
use Rattle.zone_judging.specs.declared.request.NamedOp.{NamedOp}
use Rattle.zone_judging.specs.Wishes.{AreInOrder}

-- the operation deletes the name
abbrev pub deletes : List ℕ → NamedOp → Bool
deletes x p = is_deletion p.op.now.kind && same x p.name.now

-- the wishes of each operation are in order
abbrev pub AreAllInOrder : List NamedOp → Type 0
AreAllInOrder ops = AllByRecursion (λ (p : NamedOp). AreInOrder p.op.now.draft.fields) ops

-- one of the references in the field passes
abbrev pub refers : (RefTo → Bool) → List ℕ × Value → Bool
refers test field = list_any test (references_in field.1)

-- what stands under the name of a put after it, where this stood there before
abbrev pub after_put : Named → Option Record → Option Record
after_put p o = option_map_or Some (written_over p o) o

-- what the working view has under the name y needs x to be there
abbrev pub needs_at : Grounds → List ℕ → List ℕ → Bool
needs_at g x y = is_some_and (same x) (parent_at g.working y) || is_some_and (wants x) (record_at g.working y)

-- no deletion takes it, and it goes with no name that one takes
abbrev pub stays_at : Grounds → List ℕ → Bool
stays_at g y = not (is_in g.taken y) && not (is_some_and (has_reference (λ (to : RefTo). deletes_self to.action && is_in g.taken to.name)) (record_at g.working y))

-- it holds x back
abbrev pub holds_at : Grounds → List ℕ → List ℕ → Bool
holds_at g x y = is_some_and (holds_back g x) (record_at g.working y)

-- the put does, by what stands under its name
abbrev pub holds_by_put : Grounds → List ℕ → NamedOp → Bool
holds_by_put g x p = not (is_deletion p.op.now.kind) && holds_at g x p.name.now
