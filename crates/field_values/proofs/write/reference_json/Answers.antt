use Rattle.std.proofs.Common.{rules}
use Rattle.field_values.proofs.NameLemmas.{name_utf8}
use Rattle.field_values.proofs.write.reference_json.Goals as goal

pub unwrap-name-requires : goal.unwrap-name-requires
unwrap-name-requires c =
    let text = name_utf8 c.as_bytes.result.now c.as_bytes.ensures.name in
    search rules
