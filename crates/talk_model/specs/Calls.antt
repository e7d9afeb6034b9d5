-- What a request asks of the locks, and what is replied, given the answers.
use Rattle.std.specs.Prelude.{ℕ, Bool, List, [], map, zip, Option, None, Some, if◌then◌else◌}
use Rattle.serde_json.specs.Written.{compact_text}
use Rattle.ck_base.specs.Names.{lock_of_names}
use Rattle.ck_base.specs.declared.key.ZoneKey.{ZoneKey}
use Rattle.ck_base.specs.declared.scope.Scope.{Scope}
use Rattle.ck_base.specs.declared.scope.Scope.TheVariants as scope
use Rattle.ck_base.specs.declared.route.Database.{Database}
use Rattle.ck_base.specs.declared.route.Database.TheVariants.{Private, Shared, Public}
use Rattle.record_model.specs.declared.records.Record.{Record}
use Rattle.record_model.specs.Cutting.{cut}
use Rattle.zone_model.specs.declared.outcomes.OpFault.{OpFault}
use Rattle.zone_model.specs.declared.outcomes.OpFault.TheVariants as fault
use Rattle.zone_model.specs.declared.outcomes.Outcome.{Outcome}
use Rattle.zone_model.specs.declared.outcomes.Outcome.TheVariants.{Put, Deleted, Refused as RefusedOp}
use Rattle.drawn_names.specs.Drawing.{names_of}
use Rattle.board_model.specs.declared.parts.Part.{Part}
use Rattle.board_model.specs.declared.parts.Part.TheVariants as part
use Rattle.board_model.specs.declared.answers.Answer.{Answer}
use Rattle.board_model.specs.declared.answers.Answer.TheVariants as answer
use Rattle.error_replies.specs.declared.errors.ServerError.{ServerError}
use Rattle.error_replies.specs.declared.errors.ServerError.TheVariants.{AccessDenied, AtomicError, BadRequest, Conflict, Exists, NotFound, TryAgainLater, ValidatingReferenceError, ZoneNotFound}
use Rattle.wire_calls.specs.declared.call.ModifyCall.{ModifyCall}
use Rattle.wire_calls.specs.declared.call.LookupCall.{LookupCall}
use Rattle.wire_calls.specs.declared.call.Call.{Call}
use Rattle.wire_calls.specs.declared.call.Call.TheVariants.{Modify, Lookup}
use Rattle.wire_calls.specs.declared.reply.RecordEntry.{RecordEntry}
use Rattle.wire_calls.specs.declared.reply.RecordEntry.TheVariants.{There, Gone, Failed, Conflict as InConflict}
use Rattle.wire_calls.specs.declared.reply.RecordsReply.{RecordsReply}
use Rattle.wire_calls.specs.declared.reply.Reply.{Reply}
use Rattle.wire_calls.specs.declared.reply.Reply.TheVariants.{Modify as ModifyReply, Lookup as LookupReply, Refused}
use Rattle.wire_calls.specs.Replies.{reply_data, reply_status}
use Rattle.http_front.specs.Replies.{reply_text}
use Rattle.talk_model.specs.declared.wants.Want.{Want}
use Rattle.talk_model.specs.declared.wants.Want.TheVariants.{Refused as RefusedWant, Called}
use Rattle.talk_model.specs.Given.{Given}

-- a part, and the lock that is asked
pub record Ask : Type 0 where
  pub lock : ℕ
  pub part : Part

-- What is to be done for a request: a lock is asked, and its answer tells what comes next; or there is a reply.
pub data Step : Type 0 where
  asks : Ask → (Answer → Step) → Step
  replies : Reply → Step

-- ---- the entries of replies

-- the error that tells a fault
abbrev pub error_of : OpFault → ServerError
error_of fault.Exists = Exists
error_of fault.NotFound = NotFound
error_of fault.Conflict = Conflict
error_of fault.BadRequest = BadRequest
error_of fault.AccessDenied = AccessDenied
error_of fault.Validating = ValidatingReferenceError
error_of fault.Atomic = AtomicError

-- the entry of an operation on the record of that name
abbrev pub entry_of : List ℕ × Outcome → RecordEntry
entry_of (name, Put r) = There r
entry_of (name, Deleted x) = Gone x
entry_of (name, RefusedOp fault None) = Failed (error_of fault) name
entry_of (name, RefusedOp fault (Some r)) = InConflict name r

-- the record with the fields that are wanted, or all
abbrev pub shown : Option (List (List ℕ)) → Record → Record
shown None r = r
shown (Some keys) r = cut keys r

-- the entry of a name that was looked up
abbrev pub found_entry : Option (List (List ℕ)) → List ℕ × Option Record → RecordEntry
found_entry keys (name, None) = Failed NotFound name
found_entry keys (name, Some r) = There (shown keys r)

-- ---- calls

-- the lock of a zone
abbrev pub lock_of_zone : ZoneKey → ℕ
lock_of_zone key = lock_of_names key.owner key.zone

-- the scope of a database; the public one has calls on share links alone, whose answers do not depend on it
abbrev pub scope_of : Database → Scope
scope_of Private = scope.Private
scope_of Shared = scope.Shared
scope_of Public = scope.Private

-- entries of a zone's records
abbrev pub listing : ZoneKey → Bool → List RecordEntry → RecordsReply
listing zone numbers entries = record { zone = zone; numbers_as_strings = numbers; entries = entries }

-- a lock has but answers that fit what it was asked, or that its store failed; of the others the reply is that there is no such zone
abbrev pub modify_reply : ModifyCall → Given → Answer → Reply
modify_reply c g (answer.Modify outcomes) = ModifyReply (listing c.zone c.numbers_as_strings (map entry_of (zip (names_of c.ops g.words) outcomes)))
modify_reply c g (answer.Lookup records) = Refused ZoneNotFound
modify_reply c g answer.NoZone = Refused ZoneNotFound
modify_reply c g answer.StoreFailed = Refused TryAgainLater

abbrev pub lookup_reply : LookupCall → Answer → Reply
lookup_reply c (answer.Modify outcomes) = Refused ZoneNotFound
lookup_reply c (answer.Lookup records) = LookupReply (listing c.zone c.numbers_as_strings (map (found_entry c.desired_keys) (zip c.names records)))
lookup_reply c answer.NoZone = Refused ZoneNotFound
lookup_reply c answer.StoreFailed = Refused TryAgainLater

-- what is to be done for a call
abbrev pub step_of : Call → Given → Step
step_of (Modify c) g = asks
    (record { lock = lock_of_zone c.zone; part = part.Modify c.caller (scope_of c.database) c.zone c.atomic c.ops g.moment g.words })
    (λ answer. replies (modify_reply c g answer))
step_of (Lookup c) g = asks
    (record { lock = lock_of_zone c.zone; part = part.Lookup c.caller (scope_of c.database) c.zone c.names })
    (λ answer. replies (lookup_reply c answer))

-- what is to be done for a request: nothing is asked where it is refused, or a draw failed
abbrev pub step_for : Want → Given → Step
step_for (RefusedWant error) g = replies (Refused error)
step_for (Called call) g = if g.drawn then step_of call g else replies (Refused TryAgainLater)

-- ---- bytes

abbrev pub text_of : Bool → Reply → List ℕ
text_of close r = reply_text (reply_status r) (compact_text (reply_data r)) close

-- what is written at a step: its reply, and nothing while there is something to ask
abbrev pub text_at : Bool → Step → List ℕ
text_at close (asks a next) = []
text_at close (replies r) = text_of close r
