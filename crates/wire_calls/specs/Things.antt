-- What the entries of replies are about, and the entries that tell of a thing by its name alone: that it is gone, or an error.
use Rattle.std.specs.Prelude.{ℕ, true, List, codes}
use Rattle.serde_json.specs.Data.{Data, boolean, string, object, no_members, member, put}
use Rattle.error_replies.specs.declared.errors.ServerError.{ServerError}
use Rattle.error_replies.specs.Errors.{code_of, reason_of}
use Rattle.wire_calls.specs.declared.thing.Thing.{Thing}
use Rattle.wire_calls.specs.declared.thing.Thing.TheVariants.{Record, Zone, ShortGuid, Subscription}

-- the member that has the name of a thing
abbrev pub name_key : Thing → List ℕ
name_key Record = codes "recordName"
name_key Zone = codes "zoneID"
name_key ShortGuid = codes "shortGUID"
name_key Subscription = codes "subscriptionID"

abbrev pub gone_of : Thing → Data → Data
gone_of thing name = object (member (codes "deleted") (boolean true) (member (name_key thing) name no_members))

-- the error, with the name of the thing in its place
abbrev pub failed_of : Thing → ServerError → Data → Data
failed_of thing error name =
    object (put (name_key thing) name
    (member (codes "reason") (string (reason_of error))
    (member (codes "serverErrorCode") (string (code_of error)) no_members)))
