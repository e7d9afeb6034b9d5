use Rattle.serde_json.specs.View.{view}
use Rattle.wire_calls.specs.Replies.{reply_entry_data}
use Rattle.wire_calls.proofs.ListTextLemmas.{taken}
use Rattle.wire_calls.proofs.ReplyTextLemmas.{made_whole}
use Rattle.wire_calls.proofs.reply_body.RecordsReplyEntries.take_json.Goals as goal

pub returns-clause-json : goal.returns-clause-json
returns-clause-json c =
    let owner = c.args.self.now.zone.owner in
    let as_text = c.args.self.now.numbers_as_strings in
    taken view (reply_entry_data owner as_text) c.args.self.now.entries c.remove-entry.new.self c.remove-entry.result c.record_entry_json.result c.remove-entry.ensures.item c.remove-entry.ensures.rest
    c.record_entry_json.ensures

pub returns-clause-whole : goal.returns-clause-whole
returns-clause-whole c =
    made_whole view c.args.self.now.zone.owner c.args.self.now.numbers_as_strings c.remove-entry.result c.record_entry_json.result c.record_entry_json.ensures
