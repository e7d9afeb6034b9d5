-- How long the lists of calls may be.
use Rattle.std.specs.Prelude.{ℕ, nat_lt, if◌then◌else◌, List, length, Option, None, Some, Result, Ok, Err}
use Rattle.field_values.specs.Results.{result_and_then}
use Rattle.zone_model.specs.Limits.{most_items, most_changed_zones}
use Rattle.wire_calls.specs.declared.limits.CallList.{CallList}
use Rattle.wire_calls.specs.declared.limits.CallList.TheVariants.{Operations, DesiredKeys, Records, ShortGuids, Zones, ChangedZones, Subscriptions}
use Rattle.wire_calls.specs.declared.fault.BadCall.{BadCall}
use Rattle.wire_calls.specs.declared.fault.BadCall.TheVariants.{TooMany}

-- the most elements of each list
abbrev pub most_of : CallList → ℕ
most_of Operations = most_items
most_of DesiredKeys = most_items
most_of Records = most_items
most_of ShortGuids = most_items
most_of Zones = most_items
most_of ChangedZones = most_changed_zones
most_of Subscriptions = most_items

-- what follows, unless a list is longer than its limit
abbrev pub limited : {A B : Type 0} → CallList → List A → Result B BadCall → Result B BadCall
limited list xs after = if nat_lt (most_of list) (length xs) then Err (TooMany (length xs)) else after

-- the same of a list that may be absent
abbrev pub limited_if : {A B : Type 0} → CallList → Option (List A) → Result B BadCall → Result B BadCall
limited_if list None after = after
limited_if list (Some xs) after = limited list xs after

-- the only list of a call, as it is read, unless it is longer than its limit
abbrev pub limited_list : {A : Type 0} → CallList → Result (List A) BadCall → Result (List A) BadCall
limited_list list read = result_and_then (λ xs. limited list xs (Ok xs)) read
