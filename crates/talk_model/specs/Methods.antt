-- The methods of operations.
use Rattle.std.specs.Prelude.{◌≡◌, if◌then◌else◌, codes}
use Rattle.ck_base.specs.declared.route.Operation.{Operation}
use Rattle.http_front.specs.Routes.{method_of}
use Rattle.wire_calls.specs.Calls.{has_body}

-- an operation has a body that is read just where its method is POST
abbrev pub PostsHaveBodies : Type 0
PostsHaveBodies = (operation : Operation) → method_of operation ≡ (if has_body operation then codes "POST" else codes "GET")
