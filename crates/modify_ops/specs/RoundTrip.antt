-- What is written is read as what it was.
use Rattle.std.specs.Prelude.{◌≡◌, ℕ, List, Ok}
use Rattle.std.specs.List.{AllByRecursion}
use Rattle.ck_base.specs.declared.key.ZoneKey.{ZoneKey}
use Rattle.zone_model.specs.declared.operations.Op.{Op}
use Rattle.zone_model.specs.OpForms.{IsMeantOp, AreMeantOps}
use Rattle.modify_ops.specs.Reading.{list_of, ops_of}
use Rattle.modify_ops.specs.Writing.{ops_data}

-- the JSON of operations that some JSON means is read as these, in each zone and by each caller
abbrev pub OpsReadBack : Type 0
OpsReadBack = (here : ZoneKey) (caller : List ℕ) (ops : List Op) → AllByRecursion IsMeantOp ops → list_of here caller (ops_data ops) ≡ Ok ops

-- the JSON of the operations of a request is read as the request's, in each zone and by each caller
abbrev pub RequestsReadBack : Type 0
RequestsReadBack = (here : ZoneKey) (caller : List ℕ) (ops : List Op) → AreMeantOps ops → ops_of here caller (ops_data ops) ≡ Ok ops
