-- Which calls may be served: those that some body means, and that are built.
use Rattle.std.specs.Prelude.{◌≡◌, true, Option, None, Some, ⊤}
use Rattle.wire_calls.specs.declared.call.Call.{Call}
use Rattle.wire_calls.specs.Meant.{IsMeantCall}
use Rattle.talk_model.specs.declared.wants.Want.{Want}
use Rattle.talk_model.specs.declared.wants.Want.TheVariants.{Refused, Called}
use Rattle.talk_model.specs.Requests.{is_built}

pub record IsServable (call : Call) : Type 0 where
  pub meant : IsMeantCall call
  pub built : is_built call ≡ true

abbrev pub MayBeServed : Option Want → Type 0
MayBeServed None = ⊤
MayBeServed (Some (Refused error)) = ⊤
MayBeServed (Some (Called call)) = IsServable call
