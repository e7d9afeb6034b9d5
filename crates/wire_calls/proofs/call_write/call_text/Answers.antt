use Rattle.std.proofs.Common.{string_bytes}
use Rattle.std.proofs.lemmas.Str.{IsUtf8-string_bytes}
use Rattle.serde_json.specs.View.{view}
use Rattle.wire_calls.proofs.CallTextLemmas.{text_is}
use Rattle.wire_calls.proofs.MeansLemmas.{text_means}
use Rattle.wire_calls.proofs.call_write.call_text.Goals as goal

pub returns-clause-means : goal.returns-clause-means
returns-clause-means c =
    text_means c.args.call.now (string_bytes c.in_ok-to_string.field-0) (view c.in_ok-json.json) c.in_ok-json.ensures (IsUtf8-string_bytes c.in_ok-to_string.field-0)
    c.in_ok-to_string.ensures.reads_back

pub returns-clause-text : goal.returns-clause-text
returns-clause-text c = text_is c.args.call.now (string_bytes c.in_ok-to_string.field-0) (view c.in_ok-json.json) c.in_ok-json.ensures c.in_ok-to_string.ensures.text
