-- The bytes of a connection say what is wanted of it, and how it ends.
use Rattle.std.specs.Prelude.{◌≡◌, ℕ, true, is_some, List, [], ◌++◌, take}
use Rattle.std.specs.List.{list_all}
use Rattle.talk_model.specs.declared.ends.End.{End}
use Rattle.http_front.specs.declared.request.Request.{Request}
use Rattle.http_front.specs.Users.{Table}
use Rattle.talk_model.specs.Requests.{Meaning, meaning_of}
use Rattle.talk_model.specs.Connections.{most_requests, AreRequests, last_text}
use Rattle.talk_model.specs.WholeConnections.{AreWhole, answered, end_behind, IsGoodEnd}

-- the same bytes have no two readings
abbrev pub HaveOneReading : Type 0
HaveOneReading = (t : Table) (bytes : List ℕ) (v w : List Meaning) (e f : End) → AreRequests t bytes v e → AreRequests t bytes w f → (v ≡ w) × (e ≡ f)

-- more bytes leave a reading that this end closes
abbrev pub StaysRead : End → Type 0
StaysRead end = (t : Table) (bytes more : List ℕ) (w : List Meaning) → AreRequests t bytes w end → AreRequests t (bytes ++ more) w end

-- Where the bytes are whole requests to their end, these are read, up to the end that they have; nothing is written last there; and it is
-- a good end where the forms of all that a connection may have are built.
pub record WholeOnesEnd : Type 0 where
  pub reading : (t : Table) (bytes : List ℕ) (rs : List Request) → AreWhole bytes rs → AreRequests t bytes (answered t most_requests rs) (end_behind t most_requests rs)
  pub nothing_last : (t : Table) (rs : List Request) → last_text (end_behind t most_requests rs) ≡ []
  pub good : (t : Table) (rs : List Request) → list_all (λ (r : Request). is_some (meaning_of t r)) (take most_requests rs) ≡ true → IsGoodEnd (end_behind t most_requests rs)
