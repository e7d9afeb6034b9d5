-- Who calls: the tokens and the container that a target names, as "Composing Web Service Requests" in the CloudKit Web Services
-- Reference gives them, against the table of users.
use Rattle.std.specs.Prelude.{ℕ, Bool, false, ◌&&◌, ◌==◌, if◌then◌else◌, List, Option, None, Some, Result, Err, codes, ok_or, slice_get}
use Rattle.std.specs.List.{slice_split}
use Rattle.std.specs.Str.{bytes_eq}
use Rattle.http_front.specs.declared.caller.CallerFault.{CallerFault}
use Rattle.http_front.specs.declared.caller.CallerFault.TheVariants.{Failed, Required}
use Rattle.http_front.specs.Queries.{item_of}
use Rattle.http_front.specs.Routes.{path_of}
use Rattle.http_front.specs.Users.{Table, user_of_token}

-- the value is given, and is the wanted one
abbrev pub is_given : List ℕ → Option (List ℕ) → Bool
is_given wanted None = false
is_given wanted (Some value) = bytes_eq value wanted

-- the segment at that place between the slashes of a path (RFC 3986, section 3.3), where what stands before the first slash is number 0
abbrev pub segment_at : ℕ → List ℕ → Option (List ℕ)
segment_at place path = slice_get (slice_split (λ b. b == 47) path) place

-- the target has the API token of the table, its container and its environment
abbrev pub is_for : Table → List ℕ → Bool
is_for users target =
    is_given users.api_token (item_of (codes "ckAPIToken") target)
    && is_given users.container (segment_at 3 (path_of target))
    && is_given users.environment (segment_at 4 (path_of target))

-- the user of a web token
abbrev pub user_by : Table → Option (List ℕ) → Result (List ℕ) CallerFault
user_by users None = Err Required
user_by users (Some token) = ok_or (user_of_token users.users token) Failed

-- who calls, or why that is not known
abbrev pub caller_of : Table → List ℕ → Result (List ℕ) CallerFault
caller_of users target =
    if is_for users target then user_by users (item_of (codes "ckWebAuthToken") target) else Err Failed
