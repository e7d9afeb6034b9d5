-- What a conversation answers where the bytes are whole requests to their end and nothing breaks it off.
use Rattle.std.specs.Prelude.{◌≡◌, ℕ, List, [], Some, Result, IfOk}
use Rattle.http_front.specs.declared.request.Request.{Request}
use Rattle.http_front.specs.Users.{Table}
use Rattle.talk_model.specs.declared.ends.End.{End}
use Rattle.talk_model.specs.declared.ends.TalkFaultKind.{TalkFaultKind}
use Rattle.talk_model.specs.Requests.{Meaning}
use Rattle.talk_model.specs.Connections.{most_requests, last_text}
use Rattle.talk_model.specs.WholeConnections.{AreWhole, answered, end_behind}
use Rattle.ck_server.specs.Conversations.{Standing}

-- just the requests were answered that a connection answers, nothing is written behind their replies, and the connection ended as it should
abbrev pub AnswersAll : Table → List Request → List Meaning → End → Type 0
AnswersAll t requests wanted end = (wanted ≡ answered t most_requests requests) × (last_text end ≡ []) × (end ≡ end_behind t most_requests requests)

-- Where the source has these whole requests and nothing else, they are answered, or something broke the conversation off.
abbrev pub IsComplete : Table → Standing → List Meaning → Result End TalkFaultKind → Type 0
IsComplete t entry wanted outcome = (bytes : List ℕ) (requests : List Request) → entry.left ≡ Some bytes → AreWhole bytes requests
    → IfOk outcome (λ (end : End). AnswersAll t requests wanted end)
