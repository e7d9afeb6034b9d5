-- The body of a reply that refuses a whole request, "Record Fetch Error Dictionary" of the CloudKit Web Services Reference without a
-- record's name.
use Rattle.std.specs.Prelude.{codes}
use Rattle.serde_json.specs.Data.{Data, string, object, no_members, member}
use Rattle.error_replies.specs.declared.errors.ServerError.{ServerError}
use Rattle.error_replies.specs.Errors.{code_of, reason_of}

abbrev pub error_data : ServerError → Data
error_data error =
    object (member (codes "reason") (string (reason_of error)) (member (codes "serverErrorCode") (string (code_of error)) no_members))
