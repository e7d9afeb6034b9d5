-- Requests and grounds, as the rules of zones have them.
use Rattle.std.specs.Prelude.{ℕ, Bool, not, ◌&&◌, List, [], map, unwrap_or}
use Rattle.record_model.specs.declared.records.Record.{Record}
use Rattle.zone_model.specs.Names.{same}
use Rattle.zone_model.specs.Requests.{Caller, NamedOp as Named, is_deletion}
use Rattle.zone_model.specs.Grounds.{Grounds as GroundsOf, grounds_of}
use Rattle.zone_judging.specs.declared.request.NamedOp.{NamedOp}
use Rattle.zone_judging.specs.declared.request.Grounds.{Grounds}

-- the operation with its name and its GUID
abbrev pub named : NamedOp → Named
named p = record { kind = p.op.now.kind; draft = p.op.now.draft; name = p.name.now; guid = unwrap_or p.guid [] }

-- the operation puts the name
abbrev pub puts : List ℕ → NamedOp → Bool
puts x p = not (is_deletion p.op.now.kind) && same x p.name.now

abbrev pub caller_in : {V : Type 0} → Grounds V → Caller
caller_in g = record { user = g.user.now; scope = g.scope; key = g.key.now }

-- the grounds, where rows tells the records that are seen
abbrev pub grounds_in : {V : Type 0} → (V → List Record) → Grounds V → GroundsOf
grounds_in rows g = grounds_of (caller_in g) g.pasts.now (rows g.seen.now) (map named g.ops.now)
