-- What a reply takes of its call and of the part that the call asks.
use Rattle.std.specs.Prelude.{◌≡◌, length, map, zip, ⊤}
use Rattle.zone_model.specs.OpForms.{AreMeantOps}
use Rattle.board_model.specs.declared.parts.Part.{Part}
use Rattle.board_model.specs.declared.parts.Part.TheVariants as part
use Rattle.board_model.specs.declared.answers.Answer.{Answer}
use Rattle.board_model.specs.declared.answers.Answer.TheVariants as answer
use Rattle.error_replies.specs.declared.errors.ServerError.TheVariants.{TryAgainLater, ZoneNotFound}
use Rattle.wire_calls.specs.declared.reply.Reply.{Reply}
use Rattle.wire_calls.specs.declared.reply.Reply.TheVariants.{Modify as ModifyReply, Lookup as LookupReply, Refused}
use Rattle.drawn_names.specs.Drawing.{words_drawn, names_of}
use Rattle.talk_model.specs.Calls.{entry_of, found_entry}
use Rattle.ck_server.specs.declared.replies.ReplyOptions.{ReplyOptions}

-- the operations of a part are those of a request, and there is a word for each that draws one
abbrev pub HasMeantOps : Part → Type 0
HasMeantOps (part.Modify user scope key atomic ops moment words) = AreMeantOps ops × (length words ≡ words_drawn ops)
HasMeantOps (part.Lookup user scope key names) = ⊤

-- the reply to a call by its part, its options and its answer
abbrev pub reply_from : Part → ReplyOptions → Answer → Reply
reply_from (part.Modify user scope key atomic ops moment words) f (answer.Modify outcomes) =
    ModifyReply (record { zone = key; numbers_as_strings = f.numbers_as_strings; entries = map entry_of (zip (names_of ops words) outcomes) })
reply_from (part.Lookup user scope key names) f (answer.Lookup records) =
    LookupReply (record { zone = key; numbers_as_strings = f.numbers_as_strings; entries = map (found_entry f.desired_keys) (zip names records) })
reply_from (part.Modify user scope key atomic ops moment words) f (answer.Lookup records) = Refused ZoneNotFound
reply_from (part.Modify user scope key atomic ops moment words) f answer.NoZone = Refused ZoneNotFound
reply_from (part.Modify user scope key atomic ops moment words) f answer.StoreFailed = Refused TryAgainLater
reply_from (part.Lookup user scope key names) f (answer.Modify outcomes) = Refused ZoneNotFound
reply_from (part.Lookup user scope key names) f answer.NoZone = Refused ZoneNotFound
reply_from (part.Lookup user scope key names) f answer.StoreFailed = Refused TryAgainLater
