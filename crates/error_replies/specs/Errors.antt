-- The code, the reason and the status of each error.
-- The codes are those of "Error Codes" in the CloudKit Web Services Reference, the statuses those of RFC 9110, sections 15.5 and 15.6.
use Rattle.std.specs.Prelude.{ℕ, Bool, ◌==◌, List, [], ◌∷◌, codes}
use Rattle.std.specs.List.{list_any}
use Rattle.error_replies.specs.declared.errors.ServerError.{ServerError}
use Rattle.error_replies.specs.declared.errors.ServerError.TheVariants.{AccessDenied, AtomicError, AuthenticationFailed, AuthenticationRequired}
use Rattle.error_replies.specs.declared.errors.ServerError.TheVariants.{BadRequest, Conflict, Exists, NotFound, TryAgainLater}
use Rattle.error_replies.specs.declared.errors.ServerError.TheVariants.{ValidatingReferenceError, ZoneNotFound}

abbrev pub code_of : ServerError → List ℕ
code_of AccessDenied = codes "ACCESS_DENIED"
code_of AtomicError = codes "ATOMIC_ERROR"
code_of AuthenticationFailed = codes "AUTHENTICATION_FAILED"
code_of AuthenticationRequired = codes "AUTHENTICATION_REQUIRED"
code_of BadRequest = codes "BAD_REQUEST"
code_of Conflict = codes "CONFLICT"
code_of Exists = codes "EXISTS"
code_of NotFound = codes "NOT_FOUND"
code_of TryAgainLater = codes "TRY_AGAIN_LATER"
code_of ValidatingReferenceError = codes "VALIDATING_REFERENCE_ERROR"
code_of ZoneNotFound = codes "ZONE_NOT_FOUND"

-- a text of this project's own
abbrev pub reason_of : ServerError → List ℕ
reason_of AccessDenied = codes "access denied"
reason_of AtomicError = codes "atomic error"
reason_of AuthenticationFailed = codes "authentication failed"
reason_of AuthenticationRequired = codes "authentication required"
reason_of BadRequest = codes "bad request"
reason_of Conflict = codes "conflict"
reason_of Exists = codes "exists"
reason_of NotFound = codes "not found"
reason_of TryAgainLater = codes "try again later"
reason_of ValidatingReferenceError = codes "validating reference error"
reason_of ZoneNotFound = codes "zone not found"

abbrev pub status_of : ServerError → ℕ
status_of AccessDenied = 403
status_of AtomicError = 400
status_of AuthenticationFailed = 401
status_of AuthenticationRequired = 421
status_of BadRequest = 400
status_of Conflict = 409
status_of Exists = 409
status_of NotFound = 404
status_of TryAgainLater = 503
status_of ValidatingReferenceError = 412
status_of ZoneNotFound = 404

-- the number is a status of an error
abbrev pub is_error_status : ℕ → Bool
is_error_status n = list_any (λ s. s == n) (400 ∷ 401 ∷ 403 ∷ 404 ∷ 409 ∷ 412 ∷ 421 ∷ 503 ∷ [])
