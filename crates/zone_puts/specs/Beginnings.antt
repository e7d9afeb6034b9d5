-- What a put needs to begin a record, and how the record begins.
use Rattle.std.specs.Prelude.{◌≡◌, ℕ, true, List, Option, None, Some, IfSome, is_some, option_map}
use Rattle.record_model.specs.declared.draft.Draft.{Draft}
use Rattle.record_model.specs.declared.records.Stamp.{Stamp}
use Rattle.record_model.specs.declared.records.Record.{Record}
use Rattle.zone_model.specs.Requests.{NamedOp as Named, makes_new, root_given}
use Rattle.zone_model.specs.Putting.{written_over}
use Rattle.zone_judging.specs.declared.request.NamedOp.{NamedOp}
use Rattle.zone_puts.specs.Orders.{AreFieldsInOrder}

-- a GUID is there where the draft gives a root
abbrev pub HasGuid : Draft → Option (List ℕ) → Type 0
HasGuid d guid = IfSome (root_given d) (λ _. is_some guid ≡ true)

-- the put can begin a record: it has a type, and a GUID where it gives a root
pub record CanBegin (p : NamedOp) : Type 0 where
  pub typed : is_some p.op.now.draft.rtype ≡ true
  pub guid : HasGuid p.op.now.draft p.guid

-- the put can be written over the record that is there, or where none is
abbrev pub CanWrite : NamedOp → Option Record → Type 0
CanWrite p None = makes_new p.op.now.kind ≡ true → CanBegin p
CanWrite p (Some r) = AreFieldsInOrder r.fields

-- the record with this stamp, as it begins
abbrev pub begun : Stamp → Record → Record
begun s r = record r { created = s; modified = s }

-- what a put writes, where a record that it begins has this stamp
abbrev pub written_with : Stamp → Named → Option Record → Option Record
written_with s p None = option_map (begun s) (written_over p None)
written_with s p (Some r) = written_over p (Some r)
