use Rattle.std.proofs.Common.{string_bytes}
use Rattle.std.proofs.lemmas.Str.{IsUtf8-string_bytes}
use Rattle.wire_calls.proofs.ReplyTextLemmas.{modify_replies, lookup_replies, refused_replies}
use Rattle.wire_calls.proofs.reply_body.reply_text.Goals as goal

pub returns-in-Modify-clause-reply : goal.returns-in-Modify-clause-reply
returns-in-Modify-clause-reply c call to =
    modify_replies string_bytes IsUtf8-string_bytes call c.args.reply c.in-Modify.reply c.list_text.result c.in-Modify.is c.list_text.ensures.text c.list_text.ensures.read to

pub returns-in-Lookup-clause-reply : goal.returns-in-Lookup-clause-reply
returns-in-Lookup-clause-reply c call to =
    lookup_replies string_bytes IsUtf8-string_bytes call c.args.reply c.in-Lookup.reply c.list_text-in-Lookup.result c.in-Lookup.is c.list_text-in-Lookup.ensures.text c.list_text-in-Lookup.ensures.read to

pub returns-in-Refused-clause-reply : goal.returns-in-Refused-clause-reply
returns-in-Refused-clause-reply c call to =
    refused_replies string_bytes IsUtf8-string_bytes call c.args.reply c.in-Refused.error c.refused_text.result c.in-Refused.is c.refused_text.ensures.text c.refused_text.ensures.read to
