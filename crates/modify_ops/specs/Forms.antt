-- Which operation JSON means.
use Rattle.std.specs.Prelude.{ℕ, suc, ◌||◌, if◌then◌else◌, List, [], ◌∷◌, codes, Option, None, Some, is_some, option_and_then, ok_or, Result, Ok}
use Rattle.std.specs.Result.{result_ok}
use Rattle.serde_json.specs.Data.{Data}
use Rattle.serde_json.specs.Find.{as_str}
use Rattle.ck_base.specs.declared.key.ZoneKey.{ZoneKey}
use Rattle.field_values.specs.Members.{found}
use Rattle.field_values.specs.References.{name_in}
use Rattle.record_model.specs.declared.draft.Draft.{Draft}
use Rattle.ck_records.specs.Reading.{tag_in, draft_of}
use Rattle.ck_records.specs.Sequence.{◌>>=◌}
use Rattle.zone_model.specs.declared.operations.OpKind.{OpKind}
use Rattle.zone_model.specs.declared.operations.Op.{Op}
use Rattle.modify_ops.specs.declared.fault.BadOps.{BadOps}
use Rattle.modify_ops.specs.declared.fault.BadOps.TheVariants.{BadOp}
use Rattle.zone_model.specs.Requests.{is_deletion, is_create}
use Rattle.zone_model.specs.OpForms.{bare}
use Rattle.modify_ops.specs.Kinds.{kind_named}

abbrev pub bare_of : Option (List ℕ) → Option (Option (List ℕ)) → Option Draft
bare_of None tag = None
bare_of (Some name) None = None
bare_of (Some name) (Some tag) = Some (bare name tag)

-- of a record that is to go, its name and its change tag alone are looked at
abbrev pub deletion_of : Data → Option Draft
deletion_of d = bare_of (name_in (found (codes "recordName") d)) (tag_in (found (codes "recordChangeTag") d))

-- only a create may be without a name
abbrev pub op_from : OpKind → Option Draft → Option Op
op_from kind None = None
op_from kind (Some draft) = if is_create kind || is_some draft.name then Some (record { kind = kind; draft = draft }) else None

-- what a request means is asked of a zone by a caller
module _ (here : ZoneKey) (caller : List ℕ) where
  abbrev pub draft_as : OpKind → Data → Option Draft
  draft_as kind d = if is_deletion kind then deletion_of d else result_ok (draft_of here caller d)

  abbrev pub op_as : Data → Option OpKind → Option Op
  op_as d None = None
  op_as d (Some kind) = op_from kind (option_and_then (draft_as kind) (found (codes "record") d))

  -- an object with operationType and record
  abbrev pub op_of : Data → Option Op
  op_of d = op_as d (option_and_then kind_named (option_and_then as_str (found (codes "operationType") d)))

  -- the operations of a list that begins at this place, or the place of the first that is none
  abbrev pub ops_from : ℕ → List Data → Result (List Op) BadOps
  ops_from place [] = Ok []
  ops_from place (d ∷ ds) = do
    op ← ok_or (op_of d) (BadOp place)
    ops ← ops_from (suc place) ds
    Ok (op ∷ ops)
