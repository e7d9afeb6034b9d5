-- The text of a call tells it exactly.
use Rattle.field_values.specs.Exact.{IsExact}
use Rattle.wire_calls.specs.declared.call.Call.{Call}
use Rattle.wire_calls.specs.CallWriting.{call_data}
use Rattle.wire_calls.specs.Meant.{IsMeantCall}

-- the JSON of a call that some body means has no float, and nests no deeper than what is read
abbrev pub CallsAreExact : Type 0
CallsAreExact = (c : Call) → IsMeantCall c → IsExact (call_data c)
