-- The judgement of a request over the records that are told.
use Rattle.std.specs.Prelude.{true, List, map, Option, Some, unwrap_or}
use Rattle.record_model.specs.declared.records.Record.{Record}
use Rattle.record_model.specs.declared.view.View.{View}
use Rattle.zone_model.specs.declared.outcomes.OpFault.{OpFault}
use Rattle.zone_model.specs.declared.outcomes.OpFault.TheVariants.{Atomic}
use Rattle.zone_model.specs.Judging.{judgement}
use Rattle.zone_judging.specs.declared.request.Grounds.{Grounds}
use Rattle.zone_judging.specs.Asked.{named, caller_in}

-- the fault of an operation, or that another one is refused
abbrev pub refused : Option OpFault → Option OpFault
refused o = Some (unwrap_or o Atomic)

-- the view that has these records
abbrev pub view_with : List Record → View
view_with rows = record { here = true; rows = rows }

-- the judgement of the operations on the view that rows tells
abbrev pub judgement_in : {V : Type 0} → (V → List Record) → Grounds V → List (Option OpFault)
judgement_in rows g = judgement (view_with (rows g.seen.now)) g.pasts.now (map named g.ops.now) (caller_in g)
