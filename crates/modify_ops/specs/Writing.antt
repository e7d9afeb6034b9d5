-- The JSON of operations.
use Rattle.std.specs.Prelude.{List, map, codes}
use Rattle.serde_json.specs.Data.{Data, string, array, object, no_members, member}
use Rattle.serde_json.specs.View.{items_of}
use Rattle.ck_records.specs.DraftWriting.{draft_data}
use Rattle.zone_model.specs.declared.operations.Op.{Op}
use Rattle.modify_ops.specs.Kinds.{kind_name}

abbrev pub op_data : Op → Data
op_data op =
    object (member (codes "operationType") (string (kind_name op.kind))
    (member (codes "record") (draft_data op.draft) no_members))

abbrev pub ops_data : List Op → Data
ops_data ops = array (items_of (map op_data ops))
