use Rattle.std.proofs.Common.{rules}
use Rattle.ck_records.proofs.GuidLemmas.{guid_is_text}
use Rattle.ck_records.proofs.write.guid_json.Goals as goal

pub unwrap-digits-requires : goal.unwrap-digits-requires
unwrap-digits-requires c =
    let text = guid_is_text c.as_bytes.result.now c.as_bytes.ensures.guid in
    search rules
