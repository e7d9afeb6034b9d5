-- The bytes of a reply: the response of RFC 9112, section 4, with the statuses and phrases of RFC 9110, section 15.
use Rattle.std.specs.Prelude.{◌≡◌, ℕ, ◌⊎◌, Bool, ◌==◌, List, [], ◌++◌, length, codes, decimal, IsTrue, if◌then◌else◌}
use Rattle.error_replies.specs.Errors.{is_error_status}

-- a status that a reply has: all went well, or it is that of an error
abbrev pub IsStatus : ℕ → Type 0
IsStatus status = (status ≡ 200) ⊎ IsTrue (is_error_status status)

-- the phrase of a status
abbrev pub phrase_of : ℕ → List ℕ
phrase_of status =
    if status == 200 then codes "OK"
    else (if status == 400 then codes "Bad Request"
    else (if status == 401 then codes "Unauthorized"
    else (if status == 403 then codes "Forbidden"
    else (if status == 404 then codes "Not Found"
    else (if status == 409 then codes "Conflict"
    else (if status == 412 then codes "Precondition Failed"
    else (if status == 421 then codes "Misdirected Request"
    else (if status == 503 then codes "Service Unavailable"
    else []))))))))

-- the first line
abbrev pub status_line : ℕ → List ℕ
status_line status = codes "HTTP/1.1 " ++ decimal status ++ codes " " ++ phrase_of status

-- the end of the lines, with one that closes a connection where it is to be closed
abbrev pub last_lines : Bool → List ℕ
last_lines close = if close then codes "\r\nconnection: close\r\n\r\n" else codes "\r\n\r\n"

-- the lines before a body of that length
abbrev pub reply_head : ℕ → ℕ → Bool → List ℕ
reply_head status size close =
    status_line status ++ codes "\r\ncontent-type: application/json\r\ncontent-length: " ++ decimal size ++ last_lines close

-- the whole reply
abbrev pub reply_text : ℕ → List ℕ → Bool → List ℕ
reply_text status body close = reply_head status (length body) close ++ body
