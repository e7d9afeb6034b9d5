-- The statuses of replies.
use Rattle.std.proofs.Common.{◌≡◌, ℕ, List, refl, sym, ap, subst, ◌∙◌, inl, inr, Option, Some, Result, Ok, Err, OnOk}
use Rattle.std.specs.Prelude.{◌⊎◌}
use Rattle.error_replies.specs.declared.errors.ServerError.{ServerError}
use Rattle.error_replies.specs.declared.errors.ServerError.TheVariants as error
use Rattle.error_replies.specs.Errors.{status_of}
use Rattle.std.specs.Io.KnownBytes.{Appends}
use Rattle.http_front.specs.declared.faults.FrontFault.{FrontFault}
use Rattle.http_front.specs.Replies.{IsStatus}
use Rattle.talk_model.specs.declared.ends.End.{End}
use Rattle.talk_model.specs.declared.ends.TalkFaultKind.{TalkFaultKind}
use Rattle.talk_model.specs.declared.ends.TalkFaultKind.TheVariants.{ReadFault, WriteFault, NoMemory}
use Rattle.talk_model.specs.Connections.{last_text}
use Rattle.ck_server.specs.Answering.{Sends}
use Rattle.ck_server.specs.Finishing.{end_at, Finishes}
use Rattle.ck_server.proofs.CauseLemmas.{no_end}
use Rattle.wire_calls.specs.declared.reply.Reply.{Reply}
use Rattle.wire_calls.specs.declared.reply.Reply.TheVariants.{Modify, Lookup, Refused}
use Rattle.wire_calls.specs.Replies.{reply_status}

error_status : (e : ServerError) → IsStatus (status_of e)
error_status error.AccessDenied = inr refl
error_status error.AtomicError = inr refl
error_status error.AuthenticationFailed = inr refl
error_status error.AuthenticationRequired = inr refl
error_status error.BadRequest = inr refl
error_status error.Conflict = inr refl
error_status error.Exists = inr refl
error_status error.NotFound = inr refl
error_status error.TryAgainLater = inr refl
error_status error.ValidatingReferenceError = inr refl
error_status error.ZoneNotFound = inr refl

-- each reply has a status of the service
pub is_status : (r : Reply) → IsStatus (reply_status r)
is_status (Modify r) = inl refl
is_status (Lookup r) = inl refl
is_status (Refused e) = error_status e

-- the end that a refusal makes
pub finishes_refused : (held now : Option (List ℕ)) (f : FrontFault) (end : End) (res : Result End TalkFaultKind) → end_at f ≡ Some end → Sends held now (last_text end) res → OnOk res (res ≡ Ok end) → Finishes held now f res
finishes_refused held now f end (Ok e) is sends same =
    let the_end : e ≡ end = cc in
    (is ∙ ap (λ (x : End). Some x) (sym the_end), subst (λ (x : End). Appends held now (last_text x)) (sym the_end) sends)
finishes_refused held now f end (Err ReadFault) is sends same = absurd sends
finishes_refused held now f end (Err WriteFault) is sends same = record { end = end; is = is; front = sends }
finishes_refused held now f end (Err NoMemory) is sends same = (no_end f end is, sends)
